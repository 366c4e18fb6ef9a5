use Rattle.std.proofs.Common.{rules, refl, sym, subst, ◌≡◌, length}
use Rattle.dr_ring.specs.Meaning.Records.{IsBelowBarrier}
use Rattle.dr_ring.specs.Meaning.Words.{payload_word}
use Rattle.dr_ring.specs.Calls.Ends.{ReceiverEnd}
use Rattle.dr_ring.proofs.Allowed.{receiver_loads_first}
use Rattle.dr_ring.proofs.laws.receiver.ReceiverStation.load_first.Goals as goal

pub load-requires : goal.load-requires
load-requires c =
    let below = subst (λ (e : ReceiverEnd). IsBelowBarrier e.knows.plan e.knows.number e.knows) (sym c.self.view_is) c.requires.below in
    let place = subst (λ (e : ReceiverEnd). c.args.word ≡ payload_word e.knows.plan (length e.knows.received) 0) (sym c.self.view_is) c.requires.place in
    (search rules, search rules, receiver_loads_first _ _ _ _ _ _ place c.self.invariant.end refl refl refl below)
