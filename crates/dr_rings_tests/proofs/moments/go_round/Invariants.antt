use Rattle.dr_rings_tests.proofs.moments.go_round.Given as goal

abbrev pub invariant-loop-k : goal.invariant-loop-k
invariant-loop-k g l = g.E.AllEnds.are_all l.fn.ends → g.E.AllEnds.are_all l.ends
