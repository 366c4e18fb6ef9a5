use Rattle.std.proofs.Common.{rules, ap, ◌∙◌}
use Rattle.dr_plain_senders.specs.Calls.Ends.{SenderStand}
use Rattle.dr_plain_senders.proofs.Allowed.{sender_looks_at_mark}
use Rattle.dr_plain_senders.proofs.laws.sender.SenderStation.look_at_mark.Goals as goal

pub load-requires : goal.load-requires
load-requires g c =
    let plan = ap (λ (e : SenderStand g.row.T.Denot). e.plan) c.self.view_is ∙ c.requires.named.0 in (
      search rules,
      search rules,
      sender_looks_at_mark _ _ _ _ _ c.args.sequence _ (ap (λ r. r.table.shared.key) c.deref-2.ensures ∙ c.self.invariant.keyed.key ∙ plan)
          c.requires.named.1 (search rules) c.self.invariant.end,
    )
