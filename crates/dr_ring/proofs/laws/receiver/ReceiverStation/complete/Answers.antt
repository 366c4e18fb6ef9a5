use Rattle.std.proofs.Common.{rules, sym, subst, ◌≤◌, length}
use Rattle.dr_ring.specs.Calls.Ends.{ReceiverEnd}
use Rattle.dr_ring.proofs.Allowed.{receiver_completes}
use Rattle.dr_ring.proofs.laws.receiver.ReceiverStation.complete.Goals as goal

pub store-requires : goal.store-requires
store-requires c =
    let upto = subst (λ (e : ReceiverEnd). (e.knows.completed ≤ c.args.upto) × (c.args.upto ≤ length e.knows.received)) (sym c.self.view_is)
    (c.requires.rises, c.requires.taken) in
    (search rules, search rules, receiver_completes _ _ _ _ _ _ c.count_word.ensures c.self.invariant.end c.self.invariant.own upto.0 upto.1)
