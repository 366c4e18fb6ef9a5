use Rattle.std.proofs.Common.{rules}
use Rattle.dr_plain.proofs.Allowed.{sender_halts}
use Rattle.dr_plain.proofs.laws.sender.SenderStation.halt.Goals as goal

pub store-requires : goal.store-requires
store-requires g c = (search rules, search rules, sender_halts _ _ _ c.self.invariant.end)
