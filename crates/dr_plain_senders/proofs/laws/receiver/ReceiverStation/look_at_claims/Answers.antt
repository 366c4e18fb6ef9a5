use Rattle.std.proofs.Common.{rules}
use Rattle.dr_plain_senders.proofs.AllowedReceiving.{receiver_looks_at_claims}
use Rattle.dr_plain_senders.proofs.laws.receiver.ReceiverStation.look_at_claims.Goals as goal

pub load-requires : goal.load-requires
load-requires g c = (search rules, search rules, receiver_looks_at_claims _ _ _ c.self.invariant.end)
