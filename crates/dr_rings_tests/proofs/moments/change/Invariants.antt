use Rattle.dr_rings_tests.proofs.moments.change.Given as goal

abbrev pub invariant-loop-s : goal.invariant-loop-s
invariant-loop-s g l = g.E.AllEnds.are_all l.fn.ends → g.E.AllEnds.are_all l.ends
