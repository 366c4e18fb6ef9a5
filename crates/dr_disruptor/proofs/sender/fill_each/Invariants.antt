use Rattle.std.proofs.Common.{◌≡◌, []}
use Rattle.dr_meaning.specs.Calls.Filling.{FillsOne}
use Rattle.dr_disruptor.specs.Sending.{Fills, FillsPart, ClaimsJust}
use Rattle.dr_disruptor.proofs.sender.fill_each.Given as goal

abbrev pub invariant-loop-k : goal.invariant-loop-k
invariant-loop-k g l =
    (g.I.InPlaceInlet.kept l.end ≡ g.I.InPlaceInlet.kept l.fn.end)
    × FillsPart (Fills (FillsOne g.F.Fn l.fill) l.first) l.k l.n l.lo (g.I.InPlaceInlet.sending l.fn.end) (g.I.InPlaceInlet.sending l.end)
    × ClaimsJust g.I.InPlaceInlet.does [] l.fn.end l.end
