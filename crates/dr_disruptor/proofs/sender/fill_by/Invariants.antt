use Rattle.std.proofs.Common.{◌≡◌, []}
use Rattle.dr_meaning.specs.Calls.Filling.{FillsFrom}
use Rattle.dr_disruptor.specs.Sending.{FillsOn, FillsPart, ClaimsJust}
use Rattle.dr_disruptor.proofs.sender.fill_by.Given as goal

abbrev pub invariant-loop-k : goal.invariant-loop-k
invariant-loop-k g l =
    goal.F-IsAlwaysCallable g l.fill
    × (g.I.InPlaceInlet.kept l.end ≡ g.I.InPlaceInlet.kept l.fn.end)
    × FillsPart (λ events. FillsOn (FillsFrom g.F.FnMut) l.fn.fill 0 events l.fill) l.k l.n l.lo (g.I.InPlaceInlet.sending l.fn.end) (g.I.InPlaceInlet.sending l.end)
    × ClaimsJust g.I.InPlaceInlet.does [] l.fn.end l.end
