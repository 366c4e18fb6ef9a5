use Rattle.dr_rings_tests.proofs.moments.send_each.Given as goal

abbrev pub invariant-loop-who : goal.invariant-loop-who
invariant-loop-who g l = g.E.AllEnds.are_all l.fn.ends → g.E.AllEnds.are_all l.ends
