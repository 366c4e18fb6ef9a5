use Rattle.std.proofs.Common.{◌≡◌, []}
use Rattle.dr_disruptor.specs.Sending.{ClaimsJust}
use Rattle.dr_disruptor.proofs.sender.claim.Given as goal

abbrev pub invariant-loop : goal.invariant-loop
invariant-loop g l =
    (goal.iterator-loop g).can_next l.iterator' × (goal.iterator-loop g).is_finite l.iterator'
    × (g.I.InPlaceInlet.kept l.end ≡ g.I.InPlaceInlet.kept l.fn.end) × (g.I.InPlaceInlet.sending l.end ≡ g.I.InPlaceInlet.sending l.fn.end)
    × ClaimsJust g.I.InPlaceInlet.does [] l.fn.end l.end
