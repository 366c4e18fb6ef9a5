use Rattle.dr_journal.proofs.Shown.{keeps_all, only_adds}
use Rattle.dr_journal.proofs.lawful.what_was_shown_is_kept.Goals as goal

pub returns-clause-kept : goal.returns-clause-kept
returns-clause-kept g c = let d = g.D.Device in keeps_all d.seen d.may_leave d.moment d.left_since d.faults

pub returns-clause-any_moment : goal.returns-clause-any_moment
returns-clause-any_moment g c = let d = g.D.Device in only_adds d.seen d.may_leave d.moment d.left_since d.faults g.met.D.Device.only_now
