-- A sender's sequences, as maps of its list and by its marks.
use Rattle.std.proofs.Common.{◌≡◌, ◌≢◌, ℕ, zero, suc, ◌+◌, ◌-◌, ◌*◌, ◌/◌, ◌%◌, ◌<◌, ◌≤◌, ◌⊎◌, inl, inr, Bool, true, false, if◌then◌else◌, List, map}
use Rattle.std.proofs.Common.{length, get_or, set, replicate, sym, refl, ap, ◌∙◌, subst, arith, length-set, get_or-set_same, get_or-set_other}
use Rattle.std.proofs.lemmas.Bool.{cases_Bool, cases_eq, cases_lt, ne_eqb, eqb-true}
use Rattle.std.proofs.Math.Nat.{mod-lt}
use Rattle.std.proofs.lemmas.Nat.{div-add-mod'}
use mathlib.Core.Option.{some}
use lib.ListN.{get_elem?}
use Rattle.dr_seq.specs.Rounds.{entry_of, is_marked}
use Rattle.dr_seq.specs.Stamped.{stamped}
use Rattle.dr_seq.proofs.Stamped.{mark_is, marked-in, length-stamped, stamped-none, stamped-more}
use Rattle.dr_runs.proofs.Lists.{at_map, map_there}
use Rattle.dr_runs.proofs.Elements.{all_zero}
use Rattle.dr_plain_senders.specs.declared.record.Stage.{Stage}
use Rattle.dr_plain_senders.specs.declared.record.Own.{Own}

module _ {T : Type 0} where
  -- the sequences of a set are brought further
  abbrev pub staged : (ℕ → Bool) → (Stage T → Stage T) → Own T → Own T
  staged P f o = if P o.sequence then record o { stage = f o.stage } else o

  abbrev own_of : ℕ → Stage T → Own T
  own_of z t = record { sequence = z; stage = t }

  stage_or : (b : Bool) (z : ℕ) (t u : Stage T) → (if b then own_of z u else own_of z t) ≡ own_of z (if b then u else t)
  stage_or true z t u = refl
  stage_or false z t u = refl

  -- what a sender has then
  pub staged_has : (P : ℕ → Bool) (f : Stage T → Stage T) (own : List (Own T)) (i z : ℕ) (t : Stage T)
      → get_elem? own i ≡ some record { sequence = z; stage = t }
      → get_elem? (map (staged P f) own) i ≡ some record { sequence = z; stage = if P z then f t else t }
  staged_has P f own i z t at = map_there (staged P f) own i (own_of z t) at ∙ ap (λ (x : Own T). some x) (stage_or (P z) z t (f t))

  -- and had before
  pub staged_from : (P : ℕ → Bool) (f : Stage T → Stage T) (own : List (Own T)) (i z : ℕ) (u : Stage T)
      → get_elem? (map (staged P f) own) i ≡ some record { sequence = z; stage = u }
      → (t : Stage T) × (get_elem? own i ≡ some record { sequence = z; stage = t }) × (u ≡ (if P z then f t else t))
  staged_from P f own i z u at =
      let x = at_map (staged P f) own i (own_of z u) at in let o : Own T = x.0 in
      let form : own_of o.sequence (if P o.sequence then f o.stage else o.stage) ≡ own_of z u =
      sym (stage_or (P o.sequence) o.sequence o.stage (f o.stage)) ∙ x.2 in
      let same : o.sequence ≡ z = ap (λ (y : Own T). y.sequence) form in (
        o.stage,
        x.1 ∙ ap (λ (q : ℕ). some (own_of q o.stage)) same,
        sym (ap (λ (y : Own T). y.stage) form) ∙ ap (λ (q : ℕ). if P q then f o.stage else o.stage) same,
      )

-- Marks.

-- a mark is of one sequence alone: whatever is marked, another that was not is not
mark_else : (l : List ℕ) (at s : ℕ) → 0 < length l → s ≢ at → is_marked l s ≡ false → is_marked (set l (at % length l) (entry_of (length l) at)) s ≡ false
mark_else l at s pos ne before =
    let n : ℕ = length l in
    elim (cases_eq (s % length l) (at % length l)) [
      | inl same ↦
          let read : get_or (set l (at % length l) (entry_of (length l) at)) (s % length l) 0 ≡ entry_of (length l) at =
          rw same (get_or-set_same l (at % length l) (entry_of (length l) at) 0 (mod-lt at pos)) in
          let apart : entry_of (length l) at ≢ entry_of (length l) s = λ e.
          (let rounds : at / length l ≡ s / length l = omega arith in
          let x : s / length l * length l + s % length l ≡ s = div-add-mod' s (length l) in
          let y : at / length l * length l + at % length l ≡ at = div-add-mod' at (length l) in
          ne (sym x ∙ (rw (same, ← rounds) y))) in
          rw length-set (rw read (ne_eqb _ _ apart))
      | inr other ↦ rw length-set (rw (get_or-set_other l (at % length l) (s % length l) (entry_of (length l) at) 0 other) before)
    ]

none_marked : (l : List ℕ) (from n s : ℕ) → 0 < length l → ((j : ℕ) → j < n → s ≢ from + j) → is_marked l s ≡ false
    → is_marked (stamped (entry_of (length l)) l from n) s ≡ false
unfolding stamped
none_marked l from zero s pos out before = before
none_marked l from (suc n) s pos out before =
    let so_far : is_marked (stamped (entry_of (length l)) l from n) s ≡ false = none_marked l from n s pos (λ j lt. out j (omega arith)) before in
    let len : length (stamped (entry_of (length l)) l from n) ≡ length l = length-stamped (entry_of (length l)) l from n in
    rw len at (mark_else (stamped (entry_of (length l)) l from n) (from + n) s (omega arith) (out n (omega arith)) so_far)

-- what is marked after a stretch was is of the stretch, or was marked before
pub marked_was : (l : List ℕ) (from n s : ℕ) → 0 < length l → is_marked (stamped (entry_of (length l)) l from n) s ≡ true
    → ((from ≤ s) × (s < from + n)) ⊎ (is_marked l s ≡ true)
marked_was l from n s pos now = elim (cases_Bool (is_marked l s)) [
  | inl before ↦ inr before
  | inr not_before ↦ elim (cases_lt s from) [
    | inl low ↦ absurd (let no = none_marked l from n s pos (λ j lt e. omega arith) not_before in cc)
    | inr ge ↦ elim (cases_lt s (from + n)) [
      | inl within ↦ inl (ge, within)
      | inr past ↦ absurd (let no = none_marked l from n s pos (λ j lt e. omega arith) not_before in cc)
    ]
  ]
]

pub mark_was : (l : List ℕ) (at s : ℕ) → 0 < length l → s ≢ at → is_marked (set l (at % length l) (entry_of (length l) at)) s ≡ true → is_marked l s ≡ true
mark_was l at s pos ne now = elim (cases_Bool (is_marked l s)) [
  | inl before ↦ before
  | inr not_before ↦ absurd (let no = mark_else l at s pos ne not_before in cc)
]

pub mark_here : (l : List ℕ) (s : ℕ) → 0 < length l → is_marked (set l (s % length l) (entry_of (length l) s)) s ≡ true
mark_here l s pos = subst (λ (x : List ℕ). is_marked x s ≡ true) (sym (mark_is l s)) (marked-in l s 1 s pos (omega arith) (omega arith) (omega arith))

-- two that are marked in one list have slots of their own
pub marked_apart : (l : List ℕ) (a b : ℕ) → is_marked l a ≡ true → is_marked l b ≡ true → a ≢ b → a % length l ≢ b % length l
marked_apart l a b one two ne slot =
    let x = eqb-true _ _ one in let y = eqb-true _ _ two in let n = length l in
    let entries : get_or l (a % n) 0 ≡ get_or l (b % n) 0 = ap (λ (j : ℕ). get_or l j 0) slot in
    let rounds : a / n ≡ b / n = omega arith in
    ne (sym (div-add-mod' a n) ∙ (λ i. rounds i * n + slot i) ∙ div-add-mod' b n)

-- a mark beside another leaves it
pub mark_beside : (l : List ℕ) (a b v : ℕ) → b % length l ≢ a % length l → is_marked (set l (a % length l) v) b ≡ is_marked l b
mark_beside l a b v ne = rw length-set (rw (get_or-set_other l (a % length l) (b % length l) v 0 ne) refl)

-- a new list has no mark
pub none_fresh : (size s : ℕ) → is_marked (replicate size 0) s ≡ true → ⊥
none_fresh size s marked =
    let xs : List ℕ = replicate size 0 in let i : ℕ = s % length xs in
    let x : get_or xs i 0 ≡ entry_of (length xs) s = eqb-true _ _ marked in let y : get_or xs i 0 ≡ 0 = all_zero size i in omega arith

-- The loop that marks.

pub mark_first : (xs : List ℕ) (from : ℕ) → xs ≡ stamped (entry_of (length xs)) xs from (from - from)
mark_first xs from =
    let none : from - from ≡ 0 = omega arith in
    sym (ap (stamped (entry_of (length xs)) xs from) none ∙ stamped-none (entry_of (length xs)) xs from)

pub mark_next : (xs ys zs : List ℕ) (from s : ℕ) → from ≤ s → ys ≡ stamped (entry_of (length xs)) xs from (s - from)
    → zs ≡ set ys (s % length ys) (entry_of (length ys) s)
    → zs ≡ stamped (entry_of (length xs)) xs from (s + 1 - from)
mark_next xs ys zs from s le was is =
    let f = entry_of (length xs) in let n = s - from in let at : from + n ≡ s = omega arith in let more : n + 1 ≡ s + 1 - from = omega arith in
    let len : length ys ≡ length xs = ap length was ∙ length-stamped f xs from n in
    is ∙ (λ i. set (was i) (s % len i) (entry_of (len i) s)) ∙ ap (λ (z : ℕ). set (stamped f xs from n) (z % length xs) (f z)) (sym at)
    ∙ sym (stamped-more f xs from n) ∙ ap (stamped f xs from) more
