use Rattle.std.proofs.Common.{◌≡◌, ℕ, replicate, Err}
use Rattle.dr_meaning.specs.declared.ends.Trouble.TheVariants.{Refused}
use Rattle.dr_meaning.specs.declared.refusal.Refusal.TheVariants.{NoRoom}
use Rattle.dr_meaning.specs.Calls.Calling.{CallsLead, TriesClaim}
use Rattle.dr_workers.specs.Calls.Waits.{Provides}
use Rattle.dr_workers.proofs.Biding.{with_room}
use Rattle.dr_workers.proofs.retries.claim.Given as goal

abbrev pub invariant-loop : goal.invariant-loop
invariant-loop g l =
    (goal.iterator-loop g).can_next l.iterator' × (goal.iterator-loop g).is_finite l.iterator'
    × (g.I.Inlet.kept l.inlet ≡ g.I.Inlet.kept l.fn.inlet) × (g.I.Inlet.sent l.inlet ≡ g.I.Inlet.sent l.fn.inlet)
    × ((times : ℕ) × CallsLead (Provides g.I.Inlet.does g.P.Patience.waits g.P.Patience.finds) (with_room l.fn.inlet l.fn.patience l.fn.room)
    (replicate times (TriesClaim l.n (Err (Refused NoRoom)))) (with_room l.inlet l.patience l.room))
