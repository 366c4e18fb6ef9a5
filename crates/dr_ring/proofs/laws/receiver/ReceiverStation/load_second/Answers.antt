use Rattle.std.proofs.Common.{rules, refl, sym, subst, ◌≡◌, length, Some}
use Rattle.dr_ring.specs.Meaning.Records.{IsBelowBarrier}
use Rattle.dr_ring.specs.Meaning.Words.{payload_word}
use Rattle.dr_ring.specs.Calls.Ends.{ReceiverEnd}
use Rattle.dr_ring.proofs.Allowed.{receiver_loads_second}
use Rattle.dr_ring.proofs.laws.receiver.ReceiverStation.load_second.Goals as goal

pub load-second-requires : goal.load-second-requires
load-second-requires c =
    let half = subst (λ (e : ReceiverEnd). e.knows.half ≡ Some c.args.first) (sym c.self.view_is) c.requires.half in
    let below = subst (λ (e : ReceiverEnd). IsBelowBarrier e.knows.plan e.knows.number e.knows) (sym c.self.view_is) c.requires.below in
    let place = subst (λ (e : ReceiverEnd). c.args.word ≡ payload_word e.knows.plan (length e.knows.received) 1) (sym c.self.view_is) c.requires.place in
    (search rules, search rules, receiver_loads_second _ _ _ _ _ _ c.args.first place c.self.invariant.end refl refl refl half below)

pub invariant_of-self : goal.invariant_of-self
invariant_of-self c =
    let half = subst (λ (e : ReceiverEnd). e.knows.half ≡ Some c.args.first) (sym c.self.view_is) c.requires.half in
    let is = c.load-second.ensures.2.0 c.args.first half in search rules
