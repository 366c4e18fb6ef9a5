use Rattle.std.proofs.Common.{rules}
use Rattle.dr_plain_senders.proofs.Allowed.{halter_halts}
use Rattle.dr_plain_senders.proofs.laws.halter.Halter.halt.Goals as goal

pub fetch_or-found-requires : goal.fetch_or-found-requires
fetch_or-found-requires g c = (search rules, search rules, halter_halts _ _ _ c.self.invariant.end)
