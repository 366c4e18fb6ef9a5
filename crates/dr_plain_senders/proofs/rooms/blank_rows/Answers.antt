use Rattle.dr_plain_senders.proofs.Alike.{blank_rows_more}
use Rattle.dr_plain_senders.proofs.rooms.blank_rows.Goals as goal

pub loop-row-preserved : goal.loop-row-preserved
loop-row-preserved g c = blank_rows_more c.args.size c.loop-row.row _ _ _ c.loop-row.invariant c.in_ok-blanks.ensures c.in_ok-push.ensures.items
