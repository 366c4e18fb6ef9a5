-- How a run of device calls goes on.
use Rattle.std.proofs.Common.{inl, inr, ⊎_elim, ℕ, List, arith}
use Rattle.dr_journal.specs.Meaning.Disk.{Elapses, LeavesOnly}

module _ {D : Type 0} (moment : D → ℕ) (left_since : D → ℕ → List ℕ → Type 0) where
  -- before the first call
  pub started : (old : D) (P : List ℕ → Type 0) → ((c : List ℕ) → left_since old (moment old) c → P c) → LeavesOnly moment left_since old old P
  started old P here = record { later = omega arith; each = here; before = λ t c le left. inl left }

  -- one call more, after which a crash leaves what has P
  pub goes_on : (old mid new : D) (P may_leave : List ℕ → Type 0) → LeavesOnly moment left_since old mid P → Elapses (moment mid) (moment new) (left_since mid) (left_since new) may_leave
      → ((c : List ℕ) → may_leave c → P c) → LeavesOnly moment left_since old new P
  goes_on old mid new P may_leave so_far time here = record {
    later = omega (arith, so_far.later, time.later);
    each = λ c left. ⊎_elim (so_far.each c) (here c) (time.nothing_else (moment old) c so_far.later left);
    before = λ t c le left. ⊎_elim (so_far.before t c le) (λ now. inr (here c now)) (time.nothing_else t c (omega (arith, le, so_far.later)) left);
  }

  -- what has P has Q
  pub weaker : (old new : D) (P Q : List ℕ → Type 0) → LeavesOnly moment left_since old new P → ((c : List ℕ) → P c → Q c) → LeavesOnly moment left_since old new Q
  weaker old new P Q so_far within = record {
    later = so_far.later;
    each = λ c left. within c (so_far.each c left);
    before = λ t c le left. ⊎_elim (λ past. inl past) (λ now. inr (within c now)) (so_far.before t c le left);
  }

  -- a run, and then another
  pub and_then : (old mid new : D) (P Q : List ℕ → Type 0) → LeavesOnly moment left_since old mid P → LeavesOnly moment left_since mid new Q → ((c : List ℕ) → Q c → P c) → LeavesOnly moment left_since old new P
  and_then old mid new P Q first second within = record {
    later = omega (arith, first.later, second.later);
    each = λ c left. ⊎_elim (first.each c) (within c) (second.before (moment old) c first.later left);
    before = λ t c le left. ⊎_elim (first.before t c le) (λ now. inr (within c now)) (second.before t c (omega (arith, le, first.later)) left);
  }

-- a call that makes at most one write and one sync
module _ {D : Type 0} (moment : D → ℕ) (left_since : D → ℕ → List ℕ → Type 0) (may_leave : D → List ℕ → Type 0) (only_now : (file : D) (c : List ℕ) → left_since file (moment file) c → may_leave file c) where
  module _ (old : D) (P : List ℕ → Type 0) (first : (c : List ℕ) → may_leave old c → P c) where
    pub no_call : LeavesOnly moment left_since old old P
    no_call = started moment left_since old P (λ c left. first c (only_now old c left))

    module _ (mid : D) (time : Elapses (moment old) (moment mid) (left_since old) (left_since mid) (may_leave mid)) (after : (c : List ℕ) → may_leave mid c → P c) where
      pub one_write : LeavesOnly moment left_since old mid P
      one_write = goes_on moment left_since old old mid P (may_leave mid) no_call time after

      pub write_and_sync : (new : D) → Elapses (moment mid) (moment new) (left_since mid) (left_since new) (may_leave new) → ((c : List ℕ) → may_leave new c → may_leave mid c) → LeavesOnly moment left_since old new P
      write_and_sync new later fewer = goes_on moment left_since old mid new P (may_leave new) one_write later (λ c left. after c (fewer c left))
