-- What is read from slots that are new, and from those that were set for a stretch of sequences.
use Rattle.std.proofs.Common.{◌≡◌, ℕ, zero, suc, ◌+◌, ◌*◌, ◌/◌, ◌%◌, ◌<◌, ◌≤◌, ◌≢◌, inl, inr, true, false}
use Rattle.std.proofs.Common.{List, arith, refl, sym, ◌∙◌, length, get_or, set, add-one, add-zero, replicate}
use Rattle.std.specs.Prelude.{slice_index}
use Rattle.std.proofs.lemmas.Bool.{cases_eq, eq-eqb, ne_eqb}
use Rattle.std.proofs.lemmas.List.{length-set, get_or-set_same, get_or-set_other}
use Rattle.std.proofs.Math.Nat.{mod-lt}
use Rattle.std.proofs.lemmas.Nat.{div-add-mod'}
use Rattle.dr_seq.specs.Rounds.{entry_of, is_marked}
use Rattle.dr_seq.proofs.Apart.{slots_differ}
use Rattle.dr_seq.specs.Stamped.{stamped}

pub zeros : (n h : ℕ) → slice_index (replicate n 0) h ≡ 0
zeros zero h = refl
zeros (suc n) zero = refl
zeros (suc n) (suc h) = zeros n h

-- no sequence is marked in a new round
pub none_marked : (n s : ℕ) → is_marked (replicate n 0) s ≡ false
none_marked n s = rw zeros (ne_eqb 0 (entry_of (length (replicate n 0)) s) (λ e. absurd (omega arith)))

pub length-stamped : (f : ℕ → ℕ) (xs : List ℕ) (from n : ℕ) → length (stamped f xs from n) ≡ length xs
unfolding stamped
length-stamped f xs from zero = refl
length-stamped f xs from (suc n) = length-set _ _ (f (from + n)) ∙ length-stamped f xs from n

pub stamped-none : (f : ℕ → ℕ) (xs : List ℕ) (from : ℕ) → stamped f xs from 0 ≡ xs
unfolding stamped
stamped-none f xs from = refl

pub stamped-more : (f : ℕ → ℕ) (xs : List ℕ) (from n : ℕ) → stamped f xs from (n + 1) ≡ set (stamped f xs from n) ((from + n) % length xs) (f (from + n))
unfolding stamped
stamped-more f xs from n = rw add-one

-- a slot of the stretch is set
pub stamped-in : (f : ℕ → ℕ) (xs : List ℕ) (from n d s : ℕ) → 0 < length xs → n ≤ length xs → from ≤ s → s < from + n
    → get_or (stamped f xs from n) (s % length xs) d ≡ f s
unfolding stamped
stamped-in f xs from zero d s pos le a b = absurd (omega arith)
stamped-in f xs from (suc n) d s pos le a b =
    let inside : (from + n) % length xs < length (stamped f xs from n) = rw length-stamped (mod-lt (from + n) pos) in
    elim (cases_eq s (from + n)) [
      | inl e ↦ rw e (get_or-set_same (stamped f xs from n) ((from + n) % length xs) (f (from + n)) d inside)
      | inr ne ↦
          let apart : s % length xs ≢ (from + n) % length xs = slots_differ (length xs) s (from + n) ne (omega arith) (omega arith) in
          get_or-set_other (stamped f xs from n) ((from + n) % length xs) (s % length xs) (f (from + n)) d apart ∙ stamped-in f xs from n d s pos (omega arith) a (omega arith)
    ]

-- the slot of a sequence outside it stays, where both lie in one round of the ring
pub stamped-out : (f : ℕ → ℕ) (xs : List ℕ) (from n d s : ℕ) → from + n ≤ s + length xs → s < from + length xs → ((k : ℕ) → k < n → s ≢ from + k)
    → get_or (stamped f xs from n) (s % length xs) d ≡ get_or xs (s % length xs) d
unfolding stamped
stamped-out f xs from zero d s near far out = refl
stamped-out f xs from (suc n) d s near far out =
    let apart : s % length xs ≢ (from + n) % length xs = slots_differ (length xs) s (from + n) (out n (omega arith)) (omega arith) (omega arith) in
    get_or-set_other (stamped f xs from n) ((from + n) % length xs) (s % length xs) (f (from + n)) d apart
    ∙ stamped-out f xs from n d s (omega arith) far (λ k l. out k (omega arith))

-- a mark is of one sequence alone: whatever is marked, another that was not is not
mark_other : (entries : List ℕ) (at s : ℕ) → 0 < length entries → s ≢ at → is_marked entries s ≡ false
    → is_marked (set entries (at % length entries) (entry_of (length entries) at)) s ≡ false
mark_other entries at s pos ne before =
    let n : ℕ = length entries in
    elim (cases_eq (s % length entries) (at % length entries)) [
      | inl same ↦
          let read : get_or (set entries (at % length entries) (entry_of (length entries) at)) (s % length entries) 0 ≡ entry_of (length entries) at = rw same (get_or-set_same entries (at % length entries) (entry_of (length entries) at) 0 (mod-lt at pos)) in
          let apart : entry_of (length entries) at ≢ entry_of (length entries) s = λ e.
          (let rounds : at / length entries ≡ s / length entries = omega arith in
          let x : s / length entries * length entries + s % length entries ≡ s = div-add-mod' s (length entries) in
          let y : at / length entries * length entries + at % length entries ≡ at = div-add-mod' at (length entries) in
          ne (sym x ∙ (rw (same, ← rounds) y))) in
          rw length-set (rw read (ne_eqb _ _ apart))
      | inr other ↦ rw length-set (rw (get_or-set_other entries (at % length entries) (s % length entries) (entry_of (length entries) at) 0 other) before)
    ]

-- so a stretch of marks leaves those after it unmarked
pub marks_none_after : (entries : List ℕ) (from n s : ℕ) → 0 < length entries → from + n ≤ s → is_marked entries s ≡ false
    → is_marked (stamped (entry_of (length entries)) entries from n) s ≡ false
unfolding stamped
marks_none_after entries from zero s pos after before = before
marks_none_after entries from (suc n) s pos after before =
    let so_far : is_marked (stamped (entry_of (length entries)) entries from n) s ≡ false = marks_none_after entries from n s pos (omega arith) before in
    let len : length (stamped (entry_of (length entries)) entries from n) ≡ length entries = length-stamped (entry_of (length entries)) entries from n in
    rw len at (mark_other (stamped (entry_of (length entries)) entries from n) (from + n) s (omega arith) (λ e. absurd (omega arith)) so_far)

-- a sequence of the stretch is marked
pub marked-in : (entries : List ℕ) (from n s : ℕ) → 0 < length entries → n ≤ length entries → from ≤ s → s < from + n
    → is_marked (stamped (entry_of (length entries)) entries from n) s ≡ true
marked-in entries from n s pos le a b =
    rw length-stamped (rw (stamped-in (entry_of (length entries)) entries from n 0 s pos le a b) (eq-eqb _ _ refl))

-- another recent one is marked as before
pub marked-out : (entries : List ℕ) (from n s : ℕ) → from + n ≤ s + length entries → s < from + length entries → ((k : ℕ) → k < n → s ≢ from + k)
    → is_marked (stamped (entry_of (length entries)) entries from n) s ≡ is_marked entries s
marked-out entries from n s near far out =
    rw length-stamped (rw (stamped-out (entry_of (length entries)) entries from n 0 s near far out))

-- one mark, as a stretch of one
pub mark_is : (entries : List ℕ) (s : ℕ) → set entries (s % length entries) (entry_of (length entries) s) ≡ stamped (entry_of (length entries)) entries s 1
unfolding stamped
mark_is entries s = rw add-zero
