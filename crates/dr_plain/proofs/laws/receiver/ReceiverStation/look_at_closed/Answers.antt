use Rattle.std.proofs.Common.{rules}
use Rattle.dr_plain.proofs.Allowed.{receiver_looks_at_closed}
use Rattle.dr_plain.proofs.laws.receiver.ReceiverStation.look_at_closed.Goals as goal

pub load-requires : goal.load-requires
load-requires g c = (search rules, search rules, receiver_looks_at_closed _ _ _ c.self.invariant.end)
