-- What a crash may leave over several calls of a journal.
use Rattle.std.proofs.Common.{inl, inr, ⊎_elim, ℕ, List, [], ◌++◌, arith}
use Rattle.dr_seq.specs.declared.event.Event.{Event}
use Rattle.dr_journal.specs.Calls.Journals.{IsBeforeOrAfter}
use Rattle.dr_journal.specs.Meaning.Disk.{LeavesOnly}
use Rattle.dr_ledger.specs.Answering.{IsKept}
use Rattle.dr_ledger.specs.Standing.{Say}
use Rattle.dr_ledger.proofs.Kept.{kept_batch, kept_first, kept_longer, kept_on}

module _ {D : Type 0} (moment : D → ℕ) (left_since : D → ℕ → List ℕ → Type 0) where
  -- before any call
  pub no_call : (may_leave : D → List ℕ → Type 0) → ((file : D) (c : List ℕ) → left_since file (moment file) c → may_leave file c)
      → (old : D) (P : List ℕ → Type 0) → ((c : List ℕ) → may_leave old c → P c) → LeavesOnly moment left_since old old P
  no_call may_leave only_now old P here = record { later = omega arith; each = λ c left. here c (only_now old c left); before = λ t c le left. inl left }

  -- what has P has Q
  pub weaker : (old new : D) (P Q : List ℕ → Type 0) → LeavesOnly moment left_since old new P → ((c : List ℕ) → P c → Q c)
      → LeavesOnly moment left_since old new Q
  weaker old new P Q so_far within = record {
    later = so_far.later;
    each = λ c left. within c (so_far.each c left);
    before = λ t c le left. ⊎_elim (λ past. inl past) (λ now. inr (within c now)) (so_far.before t c le left);
  }

  -- a run, and then another
  pub and_then : (old mid new : D) (P Q : List ℕ → Type 0) → LeavesOnly moment left_since old mid P → LeavesOnly moment left_since mid new Q
      → ((c : List ℕ) → Q c → P c) → LeavesOnly moment left_since old new P
  and_then old mid new P Q first second within = record {
    later = omega (arith, first.later, second.later);
    each = λ c left. ⊎_elim (first.each c) (within c) (second.before (moment old) c first.later left);
    before = λ t c le left. ⊎_elim (first.before t c le) (λ now. inr (within c now)) (second.before t c (omega (arith, le, first.later)) left);
  }

  -- operations that came, and then more
  pub moments_on : (old mid new : D) (past first more : List Event) → LeavesOnly moment left_since old mid (IsKept past [] first)
      → LeavesOnly moment left_since mid new (IsKept (past ++ first) [] more) → LeavesOnly moment left_since old new (IsKept past [] (first ++ more))
  moments_on old mid new past first more was is =
      and_then old mid new (IsKept past [] (first ++ more)) (IsKept (past ++ first) [] more)
      (weaker old mid (IsKept past [] first) (IsKept past [] (first ++ more)) was (λ file kept. kept_longer past [] first more file kept))
      is
      (λ file kept. kept_first past (first ++ []) (first ++ more) file (kept_on past first [] more file kept))

  -- a batch that says operations
  pub batch_moments : (old new : D) (past later : List Event) (records batch : List (List ℕ)) → Say records past → Say batch later
      → LeavesOnly moment left_since old new (IsBeforeOrAfter records batch) → LeavesOnly moment left_since old new (IsKept past [] later)
  batch_moments old new past later records batch was says leaves =
      weaker old new (IsBeforeOrAfter records batch) (IsKept past [] later) leaves (λ file left. kept_batch past later records batch file was says left)
