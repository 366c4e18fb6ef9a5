-- Marks that are gone once their slots are claimed again.
use Rattle.std.proofs.Common.{◌≡◌, ◌≢◌, ℕ, zero, suc, ◌+◌, ◌*◌, ◌/◌, ◌%◌, ◌<◌, ◌≤◌, ◌==◌, inl, inr, true, false, List, length, get_or, set, sym}
use Rattle.std.proofs.Common.{refl, ap, ◌∙◌, subst, arith, length-set, get_or-set_same, get_or-set_other}
use Rattle.std.proofs.lemmas.Bool.{cases_Bool, cases_eq, ne_eqb, eqb-true}
use Rattle.std.proofs.lemmas.Nat.{div-add-mod'}
use Rattle.std.proofs.Math.Nat.{mod-lt}
use Rattle.dr_seq.specs.Rounds.{entry_of, is_marked}
use Rattle.dr_seq.specs.Stamped.{stamped}
use Rattle.dr_seq.proofs.Stamped.{length-stamped, stamped-in}
use Rattle.dr_plain_senders.specs.Inside.Owned.{wiped}

pub wiped_count : (xs : List ℕ) (from n : ℕ) → length (wiped xs from n) ≡ length xs
wiped_count xs from n = length-stamped (λ _. 0) xs from n

-- an entry that is zero marks nothing
no_mark : (xs : List ℕ) (s n : ℕ) → length xs ≡ n → get_or xs (s % n) 0 ≡ 0 → is_marked xs s ≡ false
no_mark xs s n len none = (λ i. get_or xs (s % len i) 0 == entry_of (len i) s)
    ∙ ap (λ (x : ℕ). x == entry_of n s) none ∙ ne_eqb 0 (entry_of n s) (λ e. omega arith)

pub wiped_in : (xs : List ℕ) (from n s : ℕ) → 0 < length xs → n ≤ length xs → from ≤ s → s < from + n → is_marked (wiped xs from n) s ≡ false
wiped_in xs from n s pos le low high = no_mark (wiped xs from n) s (length xs) (wiped_count xs from n) (stamped-in (λ _. 0) xs from n 0 s pos le low high)

-- what had no mark has none
wiped_one : (xs : List ℕ) (h s : ℕ) → 0 < length xs → is_marked xs s ≡ false → is_marked (set xs h 0) s ≡ false
wiped_one xs h s pos none = elim (cases_eq (s % length xs) h) [
  | inl same ↦ no_mark (set xs h 0) s (length xs) (length-set xs h 0)
      (subst (λ (j : ℕ). get_or (set xs j 0) (s % length xs) 0 ≡ 0) same (get_or-set_same xs (s % length xs) 0 0 (mod-lt s pos)))
  | inr ne ↦ (λ i. get_or (set xs h 0) (s % length-set xs h 0 i) 0 == entry_of (length-set xs h 0 i) s)
      ∙ ap (λ (x : ℕ). x == entry_of (length xs) s) (get_or-set_other xs h (s % length xs) 0 0 ne) ∙ none
]

pub wiped_none : (xs : List ℕ) (from n s : ℕ) → 0 < length xs → is_marked xs s ≡ false → is_marked (wiped xs from n) s ≡ false
unfolding stamped
wiped_none xs from zero s pos none = none
wiped_none xs from (suc n) s pos none =
    let len = wiped_count xs from n in wiped_one (wiped xs from n) ((from + n) % length xs) s (omega arith) (wiped_none xs from n s pos none)

pub wiped_was : (xs : List ℕ) (from n s : ℕ) → 0 < length xs → is_marked (wiped xs from n) s ≡ true → is_marked xs s ≡ true
wiped_was xs from n s pos marked = elim (cases_Bool (is_marked xs s)) [
  | inl was ↦ was
  | inr none ↦ absurd (let still = wiped_none xs from n s pos none in cc)
]

-- a slot beside those is as it was
beside : (xs : List ℕ) (from n s : ℕ) → ((j : ℕ) → j < n → s % length xs ≢ (from + j) % length xs)
    → get_or (wiped xs from n) (s % length xs) 0 ≡ get_or xs (s % length xs) 0
unfolding stamped
beside xs from zero s out = refl
beside xs from (suc n) s out =
    get_or-set_other (wiped xs from n) ((from + n) % length xs) (s % length xs) 0 0 (out n (omega arith)) ∙ beside xs from n s (λ j lt. out j (omega arith))

pub wiped_out : (xs : List ℕ) (from n s : ℕ) → ((j : ℕ) → j < n → s % length xs ≢ (from + j) % length xs) → is_marked (wiped xs from n) s ≡ is_marked xs s
wiped_out xs from n s out = let len = wiped_count xs from n in
    (λ i. get_or (wiped xs from n) (s % len i) 0 == entry_of (len i) s) ∙ ap (λ (x : ℕ). x == entry_of (length xs) s) (beside xs from n s out)

-- an earlier sequence that has its mark still has its slot, once later ones are marked
slot_kept : (xs : List ℕ) (from n s : ℕ) → 0 < length xs → n ≤ length xs → s < from → is_marked (stamped (entry_of (length xs)) xs from n) s ≡ true
    → (j : ℕ) → j < n → s % length xs ≢ (from + j) % length xs
slot_kept xs from n s pos le before marked j lt same =
    let size = length xs in let ys : List ℕ = stamped (entry_of size) xs from n in let len : length ys ≡ size = length-stamped (entry_of size) xs from n in
    let here : get_or ys (s % length ys) 0 ≡ entry_of (length ys) s = eqb-true _ _ marked in
    let entry : get_or ys (s % size) 0 ≡ entry_of size s = subst (λ (m : ℕ). get_or ys (s % m) 0 ≡ entry_of m s) len here in
    let there : get_or ys (s % size) 0 ≡ entry_of size (from + j) = ap (λ (i : ℕ). get_or ys i 0) same
    ∙ stamped-in (entry_of size) xs from n 0 (from + j) pos le (omega arith) (omega arith) in
    let rounds : s / size ≡ (from + j) / size = omega arith in
    let one : s ≡ from + j = sym (div-add-mod' s size) ∙ (λ i. rounds i * size + same i) ∙ div-add-mod' (from + j) size in omega arith

pub wiped_beside : (xs ys : List ℕ) (from n s : ℕ) → length ys ≡ length xs → 0 < length xs → n ≤ length xs → s < from
    → is_marked (stamped (entry_of (length xs)) xs from n) s ≡ true → is_marked (wiped ys from n) s ≡ is_marked ys s
wiped_beside xs ys from n s same pos le before marked =
    wiped_out ys from n s (subst (λ (m : ℕ). (j : ℕ) → j < n → s % m ≢ (from + j) % m) (sym same) (slot_kept xs from n s pos le before marked))
