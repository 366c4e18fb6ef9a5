-- Slots that are set for one stretch of sequences, and for another.
use Rattle.std.proofs.Common.{◌≡◌, ◌≢◌, ℕ, zero, suc, ◌+◌, ◌-◌, ◌*◌, ◌/◌, ◌%◌, ◌<◌, ◌≤◌, ◌⊎◌, inl, inr, true, List, length, get_or, set, sym, refl}
use Rattle.std.proofs.Common.{ap, ◌∙◌, subst, arith, length-set}
use Rattle.std.proofs.lemmas.Bool.{cases_Bool, eqb-true}
use Rattle.std.proofs.lemmas.List.{set_comm, set-get_or}
use Rattle.std.proofs.lemmas.Nat.{div-add-mod', div-mul-add}
use Rattle.std.proofs.Math.Nat.{mod-add-mod}
use Rattle.dr_seq.specs.Rounds.{entry_of, is_marked}
use Rattle.dr_seq.specs.Stamped.{stamped}
use Rattle.dr_seq.proofs.Apart.{slots_differ}
use Rattle.dr_seq.proofs.Stamped.{length-stamped, stamped-none, stamped-more}
use Rattle.dr_lent.proofs.Lists.{set_twice}
use Rattle.dr_plain_senders.specs.Inside.Owned.{wiped}
use Rattle.dr_plain_senders.proofs.Owning.{marked_apart}
use Rattle.dr_plain_senders.proofs.Wiped.{wiped_none, wiped_out}

-- The loops that set them.

pub none_set : (g : ℕ → ℕ) (xs : List ℕ) (from : ℕ) → stamped g xs from (from - from) ≡ xs
none_set g xs from = let none : from - from ≡ 0 = omega arith in ap (stamped g xs from) none ∙ stamped-none g xs from

pub next_set : (g : ℕ → ℕ) (xs ys : List ℕ) (from s at : ℕ) → from ≤ s → at ≡ s % length xs → ys ≡ stamped g xs from (s - from)
    → set ys at (g s) ≡ stamped g xs from (s + 1 - from)
next_set g xs ys from s at le place was =
    let n = s - from in let here : from + n ≡ s = omega arith in let more : n + 1 ≡ s + 1 - from = omega arith in
    let slot : (from + n) % length xs ≡ at = ap (λ (z : ℕ). z % length xs) here ∙ sym place in
    (λ i. set (was i) (sym slot i) (g (sym here i))) ∙ sym (stamped-more g xs from n) ∙ ap (stamped g xs from) more

-- slots side by side are those of sequences one after the other
pub run_is : (g : ℕ → ℕ) (v : ℕ) (xs : List ℕ) (from n : ℕ) → ((j : ℕ) → j < n → g (from + j) ≡ v)
    → stamped (λ _. v) xs (from % length xs) n ≡ stamped g xs from n
unfolding stamped
run_is g v xs from zero is = refl
run_is g v xs from (suc n) is =
    (λ i. set (run_is g v xs from n (λ j lt. is j (omega arith)) i) (mod-add-mod from (length xs) n i) (sym (is n (omega arith)) i))

pub both_set : (g : ℕ → ℕ) (xs : List ℕ) (from a b : ℕ) → stamped g (stamped g xs from a) (from + a) b ≡ stamped g xs from (a + b)
unfolding stamped
both_set g xs from a zero = let z : a ≡ a + 0 = omega arith in ap (stamped g xs from) z
both_set g xs from a (suc b) =
    let z : suc (a + b) ≡ a + suc b = omega arith in let at : from + a + b ≡ from + (a + b) = omega arith in let len = length-stamped g xs from a in
    (λ i. set (both_set g xs from a b i) (at i % len i) (g (at i))) ∙ ap (stamped g xs from) z

pub same_round : (n s j : ℕ) → s % n + j < n → (s + j) / n ≡ s / n
same_round n s j lt =
    let x : s / n * n + s % n ≡ s = div-add-mod' s n in let y : s + j ≡ s / n * n + (s % n + j) = omega arith in
    ap (λ (m : ℕ). m / n) y ∙ div-mul-add (s / n) n (s % n + j) lt

-- One stretch over another.

-- the first slot of a stretch is set before the others
pub first_set : (f : ℕ → ℕ) (xs : List ℕ) (s n : ℕ) → stamped f (set xs (s % length xs) (f s)) (s + 1) n ≡ stamped f xs s (n + 1)
first_set f xs s zero = let z : s + 0 ≡ s = omega arith in
    stamped-none f (set xs (s % length xs) (f s)) (s + 1)
    ∙ (λ i. set (sym (stamped-none f xs s) i) (sym z i % length xs) (f (sym z i))) ∙ sym (stamped-more f xs s 0)
first_set f xs s (suc n) =
    let ys : List ℕ = set xs (s % length xs) (f s) in let len : length ys ≡ length xs = length-set xs (s % length xs) (f s) in
    let at : s + 1 + n ≡ s + (n + 1) = omega arith in let z : suc n ≡ n + 1 = omega arith in
    ap (λ (m : ℕ). stamped f ys (s + 1) m) z ∙ stamped-more f ys (s + 1) n
    ∙ (λ i. set (first_set f xs s n i) (at i % len i) (f (at i))) ∙ sym (stamped-more f xs s (n + 1))
    ∙ ap (λ (m : ℕ). stamped f xs s (m + 1)) (sym z)

-- a slot beside a stretch may be set before it or after it
beside_set : (f : ℕ → ℕ) (xs : List ℕ) (from n h v : ℕ) → ((j : ℕ) → j < n → (from + j) % length xs ≢ h)
    → set (stamped f xs from n) h v ≡ stamped f (set xs h v) from n
unfolding stamped
beside_set f xs from zero h v out = refl
beside_set f xs from (suc n) h v out =
    set_comm (stamped f xs from n) ((from + n) % length xs) h (f (from + n)) v (out n (omega arith))
    ∙ (λ i. set (beside_set f xs from n h v (λ j lt. out j (omega arith)) i) ((from + n) % sym (length-set xs h v) i) (f (from + n)))

later_slots : (size s n : ℕ) → n + 1 ≤ size → (j : ℕ) → j < n → (s + 1 + j) % size ≢ s % size
later_slots size s n few j lt = slots_differ size (s + 1 + j) s (λ (e : s + 1 + j ≡ s). omega arith) (omega arith) (omega arith)

-- the later setting counts
pub over_set : (f g : ℕ → ℕ) (xs : List ℕ) (from n : ℕ) → n ≤ length xs → stamped f (stamped g xs from n) from n ≡ stamped f xs from n
over_set f g xs from zero few = ap (λ (ys : List ℕ). stamped f ys from 0) (stamped-none g xs from)
over_set f g xs from (suc n) few =
    let z : suc n ≡ n + 1 = omega arith in let h = from % length xs in
    let one : List ℕ = set xs h (g from) in let len : length one ≡ length xs = length-set xs h (g from) in
    let ys : List ℕ = stamped g one (from + 1) n in let many : length ys ≡ length xs = length-stamped g one (from + 1) n ∙ len in
    let two : List ℕ = set one h (f from) in let len2 : length two ≡ length xs = length-set one h (f from) ∙ len in
    let out : (j : ℕ) → j < n
    → (from + 1 + j) % length one ≢ h = subst (λ (m : ℕ). (j : ℕ) → j < n → (from + 1 + j) % m ≢ h) (sym len)
    (later_slots (length xs) from n (omega arith)) in
    (λ i. stamped f (stamped g xs from (z i)) from (z i))
    ∙ ap (λ (zs : List ℕ). stamped f zs from (n + 1)) (sym (first_set g xs from n))
    ∙ sym (first_set f ys from n)
    ∙ ap (λ (m : ℕ). stamped f (set ys (from % m) (f from)) (from + 1) n) many
    ∙ ap (λ (zs : List ℕ). stamped f zs (from + 1) n) (beside_set g one (from + 1) n h (f from) out)
    ∙ over_set f g two (from + 1) n (omega arith)
    ∙ ap (λ (zs : List ℕ). stamped f zs (from + 1) n) (set_twice xs h (g from) (f from))
    ∙ first_set f xs from n ∙ ap (stamped f xs from) (sym z)

-- What was wiped comes back.

-- a stretch that has its marks has them again
pub set_again : (xs : List ℕ) (s : ℕ) → is_marked xs s ≡ true → set xs (s % length xs) (entry_of (length xs) s) ≡ xs
set_again xs s marked =
    let here : get_or xs (s % length xs) 0 ≡ entry_of (length xs) s = eqb-true _ _ marked in
    ap (λ (v : ℕ). set xs (s % length xs) v) (sym here) ∙ set-get_or xs (s % length xs) 0

pub stamped_same : (xs : List ℕ) (from n : ℕ) → ((j : ℕ) → j < n → is_marked xs (from + j) ≡ true) → stamped (entry_of (length xs)) xs from n ≡ xs
unfolding stamped
stamped_same xs from zero marked = refl
stamped_same xs from (suc n) marked =
    (λ i. set (stamped_same xs from n (λ j lt. marked j (omega arith)) i) ((from + n) % length xs) (entry_of (length xs) (from + n)))
    ∙ set_again xs (from + n) (marked n (omega arith))

pub unwipe_one : (xs : List ℕ) (s n : ℕ) → n + 1 ≤ length xs → is_marked xs s ≡ true
    → set (wiped xs s (n + 1)) (s % length xs) (entry_of (length xs) s) ≡ wiped xs (s + 1) n
unwipe_one xs s n few marked =
    let h = s % length xs in let v = entry_of (length xs) s in let one : List ℕ = set xs h 0 in let len : length one ≡ length xs = length-set xs h 0 in
    let out : (j : ℕ) → j < n
    → (s + 1 + j) % length one ≢ h = subst (λ (m : ℕ). (j : ℕ) → j < n → (s + 1 + j) % m ≢ h) (sym len) (later_slots (length xs) s n few) in
    ap (λ (ys : List ℕ). set ys h v) (sym (first_set (λ _. 0) xs s n))
    ∙ beside_set (λ _. 0) one (s + 1) n h v out
    ∙ ap (λ (ys : List ℕ). wiped ys (s + 1) n) (set_twice xs h 0 v ∙ set_again xs s marked)

pub unwipe : (xs : List ℕ) (from m n : ℕ) → m + n ≤ length xs → ((j : ℕ) → j < m → is_marked xs (from + j) ≡ true)
    → stamped (entry_of (length xs)) (wiped xs from (m + n)) from m ≡ wiped xs (from + m) n
unwipe xs from zero n few marked = let z : zero + n ≡ n = omega arith in let at : from ≡ from + zero = omega arith in
    stamped-none (entry_of (length xs)) (wiped xs from (zero + n)) from ∙ (λ i. wiped xs (at i) (z i))
unwipe xs from (suc m) n few marked =
    let g = entry_of (length xs) in let z : suc m + n ≡ m + (n + 1) = omega arith in let y : suc m ≡ m + 1 = omega arith in
    let at : from + m + 1 ≡ from + suc m = omega arith in
    let ys : List ℕ = wiped xs from (m + (n + 1)) in let len : length ys ≡ length xs = length-stamped (λ _. 0) xs from (m + (n + 1)) in
    (λ i. stamped g (wiped xs from (z i)) from (y i)) ∙ stamped-more g ys from m
    ∙ (λ i. set (unwipe xs from m (n + 1) (omega arith) (λ j lt. marked j (omega arith)) i) ((from + m) % len i) (g (from + m)))
    ∙ unwipe_one xs (from + m) n (omega arith) (marked m (omega arith)) ∙ ap (λ (s : ℕ). wiped xs s n) at

-- beside a stretch of marks that is wiped all marks are as before
pub still : (xs : List ℕ) (from n s : ℕ) → 0 < length xs → ((j : ℕ) → j < n → is_marked xs (from + j) ≡ true) → (s < from) ⊎ (from + n ≤ s)
    → is_marked (wiped xs from n) s ≡ is_marked xs s
still xs from n s pos all out = elim (cases_Bool (is_marked xs s)) [
  | inl marked ↦ wiped_out xs from n s (λ j lt. marked_apart xs s (from + j) marked (all j lt)
      (λ (e : s ≡ from + j). elim out [ inl a ↦ (omega arith) | inr b ↦ (omega arith) ]))
  | inr none ↦ wiped_none xs from n s pos none ∙ sym none
]
