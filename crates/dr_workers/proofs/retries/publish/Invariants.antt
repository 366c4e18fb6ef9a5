use Rattle.std.proofs.Common.{◌≡◌, ℕ, replicate, Err}
use Rattle.dr_meaning.specs.declared.ends.Trouble.TheVariants.{Memory}
use Rattle.dr_meaning.specs.Calls.Calling.{CallsLead, PublishesStretch}
use Rattle.dr_workers.proofs.retries.publish.Given as goal

abbrev pub invariant-loop : goal.invariant-loop
invariant-loop g l =
    (goal.iterator-loop g).can_next l.iterator' × (goal.iterator-loop g).is_finite l.iterator'
    × (g.I.Inlet.kept l.inlet ≡ g.I.Inlet.kept l.fn.inlet) × (g.I.Inlet.sent l.inlet ≡ g.I.Inlet.sent l.fn.inlet)
    × ((times : ℕ) × CallsLead g.I.Inlet.does l.fn.inlet (replicate times (PublishesStretch l.lo l.hi (Err Memory))) l.inlet)
