-- What the end of a ring with one sender goes by where it answers what the machine replies: the tests of a claim, and what the look finds that decides.
use Rattle.std.specs.Prelude.{◌≡◌, ℕ, ◌+◌, ◌-◌, ◌<◌, ◌==◌, ◌||◌, nat_lt, false, List, slice_index, Result, Ok, Err, Contains}
use Rattle.dr_meaning.specs.declared.refusal.Refusal.{Refusal}
use Rattle.dr_meaning.specs.declared.refusal.Refusal.TheVariants.{NoRoom, Halted, Exhausted}
use Rattle.dr_meaning.specs.declared.command.Claimed.{Claimed}
use Rattle.dr_meaning.specs.declared.command.Polled.{Polled}
use Rattle.dr_meaning.specs.declared.command.Polled.TheVariants.{Batch, Drained, Gating, Idle}
use Rattle.dr_meaning.specs.Meaning.Refusals.{ClaimTests}
use Rattle.dr_meaning.specs.Calls.Ends.{Verdict, Exactly, unknown}
use Rattle.dr_graph.specs.Meaning.Graph.{upstreams_of, finals}
use Rattle.dr_runs.specs.OneSender.Words.{cursor_word, closed_word, halt_word, count_word}

-- the tests of a claim of n more, as far as the sender knows them: there is one producer, and only what a claim finds at its looks is not known before
abbrev pub claim_tests_of : ℕ → ℕ → ℕ → ℕ → ClaimTests Verdict
claim_tests_of size limit claimed n = record {
  no_producer = Exactly false;
  bad_count = Exactly ((n == 0) || nat_lt size n);
  halted = unknown;
  exhausted = Exactly (nat_lt limit (claimed + n));
  no_room = unknown;
}

module _ (graph : List (List ℕ)) (words : List ℕ) where
  -- what the look by which a claim is decided finds: for an accepted one, which the sender saw room for, and for one halted late, the last look at halt, and else the first
  abbrev pub DecidesClaimOf : ℕ → ℕ → Type 0 → ℕ → Result Claimed Refusal → Type 0
  DecidesClaimOf size claimed Room n (Ok stretch) = (slice_index words halt_word ≡ 0) × Room × (stretch ≡ record { lo = claimed; hi = claimed + n - 1 })
  DecidesClaimOf size claimed Room n (Err Halted) = slice_index words halt_word ≡ 1
  DecidesClaimOf size claimed Room n (Err Exhausted) = slice_index words halt_word ≡ 0
  DecidesClaimOf size claimed Room n (Err NoRoom) =
      (slice_index words halt_word ≡ 0) × ((f : ℕ) × Contains (finals graph) f × (size + slice_index words (count_word f) < claimed + n))
  DecidesClaimOf size claimed Room n (Err other) = Unit {0}

  -- what the look finds by which a handler's poll takes nothing, where it took so many and so many sequences are open: at the cursor or, for `Gating`, at an upstream's count
  abbrev pub DecidesPollOf : ℕ → ℕ → ℕ → Result Polled Refusal → Type 0
  DecidesPollOf h taken pending (Ok (Batch first count last)) = ⊥
  DecidesPollOf h taken pending (Ok Drained) = (slice_index words closed_word ≡ 1) × (slice_index words cursor_word ≡ taken)
  DecidesPollOf h taken pending (Ok Gating) =
      (taken < slice_index words cursor_word) × ((u : ℕ) × Contains (upstreams_of graph h) u × (slice_index words (count_word u) ≡ taken))
  -- and the machine tells nobody that it drained
  DecidesPollOf h taken pending (Ok Idle) = (slice_index words cursor_word ≡ taken) × (slice_index words halt_word ≡ 1 → 0 < pending)
  DecidesPollOf h taken pending (Err refusal) = Unit {0}
