use Rattle.std.proofs.Common.{◌≡◌, List}
use Rattle.dr_lent.specs.Rows.{cells_of}
use Rattle.dr_lent.specs.declared.lent.Lent.{Lent}
use Rattle.dr_plain.specs.Inside.Finishing.{AreOut}
use Rattle.dr_plain.proofs.reclaiming.regain_all.Given as goal

abbrev pub invariant-loop-sequence : goal.invariant-loop-sequence
invariant-loop-sequence g l =
    ((lents : List (Lent g.row.T.Denot)) × AreOut l.plan l.sequence l.upto 0 lents l.tokens.items) × (cells_of l.tokens.items ≡ cells_of l.fn.tokens.items)
