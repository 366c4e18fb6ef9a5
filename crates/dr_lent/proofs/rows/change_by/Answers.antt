use Rattle.std.proofs.Common.{refl}
use Rattle.dr_lent.proofs.Dealing.{token_is}
use Rattle.dr_lent.proofs.rows.change_by.Goals as goal

pub returns-clause-changed : goal.returns-clause-changed
returns-clause-changed g c =
    let x = c.get_mut.result.now in let y = c.fill.new.arg2 in (
      x,
      y,
      c.get_mut.ensures.value,
      token_is _ _ _ y c.requires.cell.0 refl,
      record { shown = c.get_mut.result; shows = refl; left = _; called = c.fill.ensures; leaves = refl },
    )
