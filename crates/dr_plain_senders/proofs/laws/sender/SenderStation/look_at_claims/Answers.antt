use Rattle.std.proofs.Common.{rules, subst}
use Rattle.dr_plain_senders.specs.Calls.Finds.{FindsOwn}
use Rattle.dr_plain_senders.specs.Calls.Ends.{SenderStand}
use Rattle.dr_plain_senders.proofs.Allowed.{sender_looks_at_claims}
use Rattle.dr_plain_senders.proofs.laws.sender.SenderStation.look_at_claims.Goals as goal

pub load-requires : goal.load-requires
load-requires g c = (search rules, search rules, sender_looks_at_claims _ _ _ c.self.invariant.end)

pub returns-clause-own : goal.returns-clause-own
returns-clause-own g c = subst (λ (e : SenderStand g.row.T.Denot). FindsOwn e.knows c.load.result) c.self.view_is c.load.ensures.2.0.2
