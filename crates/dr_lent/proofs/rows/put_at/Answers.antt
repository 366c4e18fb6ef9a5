use Rattle.std.proofs.Common.{sym, ap, ◌∙◌}
use mathlib.Core.Option.{some}
use Rattle.dr_runs.proofs.Elements.{at_index}
use Rattle.dr_lent.proofs.rows.put_at.Goals as goal

pub returns-clause-was : goal.returns-clause-was
returns-clause-was g c = at_index _ _ _ c.requires c.index_mut.ensures.value ∙ ap some (sym c.replace.ensures.value)
