use Rattle.std.proofs.Common.{rules, refl, sym, subst, ◌≡◌, None}
use Rattle.dr_ring.specs.Meaning.Records.{IsOpen}
use Rattle.dr_ring.specs.Meaning.Words.{payload_word}
use Rattle.dr_ring.specs.Calls.Ends.{SenderEnd}
use Rattle.dr_ring.proofs.Allowed.{sender_stores_first}
use Rattle.dr_ring.proofs.laws.sender.SenderStation.store_first.Goals as goal

pub store-requires : goal.store-requires
store-requires g c =
    let own = subst (λ (e : SenderEnd). IsOpen e.knows c.args.sequence) (sym c.self.view_is) c.requires.own in
    let whole = subst (λ (e : SenderEnd). e.knows.half ≡ None) (sym c.self.view_is) c.requires.whole in
    let place = subst (λ (e : SenderEnd). c.args.word ≡ payload_word e.knows.plan c.args.sequence 0) (sym c.self.view_is) c.requires.place in
    (search rules, search rules, sender_stores_first _ _ _ _ c.args.sequence _ _ c.requires.named place c.self.invariant.end refl own whole)
