use Rattle.std.proofs.Common.{rules}
use Rattle.dr_ring.proofs.Allowed.{receiver_looks_at_cursor}
use Rattle.dr_ring.proofs.laws.receiver.ReceiverStation.look_at_cursor.Goals as goal

pub load-requires : goal.load-requires
load-requires c = (search rules, search rules, receiver_looks_at_cursor _ _ _ c.self.invariant.end)
