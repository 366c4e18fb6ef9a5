use Rattle.std.proofs.Common.{rules}
use Rattle.dr_plain.proofs.Allowed.{halter_halts}
use Rattle.dr_plain.proofs.laws.halter.Halter.halt.Goals as goal

pub store-requires : goal.store-requires
store-requires g c = (search rules, search rules, halter_halts _ _ _ c.self.invariant.end)
