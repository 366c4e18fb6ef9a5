use Rattle.std.proofs.Common.{◌≡◌, ℕ, replicate, Err}
use Rattle.dr_meaning.specs.declared.ends.Trouble.TheVariants.{Memory}
use Rattle.dr_meaning.specs.Calls.Calling.{CallsLead, CompletesBelow}
use Rattle.dr_workers.proofs.retries.complete.Given as goal

abbrev pub invariant-loop : goal.invariant-loop
invariant-loop g l =
    (goal.iterator-loop g).can_next l.iterator' × (goal.iterator-loop g).is_finite l.iterator'
    × (g.O.Outlet.kept l.outlet ≡ g.O.Outlet.kept l.fn.outlet) × (g.O.Outlet.told l.outlet ≡ g.O.Outlet.told l.fn.outlet)
    × (g.O.Outlet.received l.outlet ≡ g.O.Outlet.received l.fn.outlet)
    × ((times : ℕ) × CallsLead g.O.Outlet.does l.fn.outlet (replicate times (CompletesBelow l.upto (Err Memory))) l.outlet)
