use Rattle.std.proofs.Common.{rules, refl, sym, subst, ◌≡◌, Some}
use Rattle.dr_ring.specs.Meaning.Words.{payload_word}
use Rattle.dr_ring.specs.Calls.Ends.{SenderEnd}
use Rattle.dr_ring.proofs.Allowed.{sender_stores_second}
use Rattle.dr_ring.proofs.laws.sender.SenderStation.store_second.Goals as goal

pub store-requires : goal.store-requires
store-requires c =
    let half = subst (λ (e : SenderEnd). e.knows.half ≡ Some record { sequence = c.args.sequence; first = c.args.event.first })
    (sym c.self.view_is) c.requires.half in
    let place = subst (λ (e : SenderEnd). c.args.word ≡ payload_word e.knows.plan c.args.sequence 1) (sym c.self.view_is) c.requires.place in
    (search rules, search rules, sender_stores_second _ _ _ _ c.args.sequence c.args.event.first _ place c.self.invariant.end refl half)

pub invariant_of-self : goal.invariant_of-self
invariant_of-self c =
    let is = c.store.ensures.2.0 _ (subst (λ (e : SenderEnd). e.knows.half ≡ Some record { sequence = c.args.sequence; first = c.args.event.first })
    (sym c.self.view_is) c.requires.half) in search rules

pub returns : goal.returns
returns c =
    let is = c.store.ensures.2.0 _ (subst (λ (e : SenderEnd). e.knows.half ≡ Some record { sequence = c.args.sequence; first = c.args.event.first })
    (sym c.self.view_is) c.requires.half) in search rules
