-- A stretch of sequences lies in the slots in at most two pieces.
use Rattle.std.proofs.Common.{◌≡◌, ℕ, ◌+◌, ◌-◌, ◌%◌, ◌<◌, ◌≤◌, inl, inr, List, ◌++◌, arith, refl, ap, sym, ◌∙◌, length, map, min, get_or, take, drop}
use Rattle.std.specs.List.{range_with_len}
use Rattle.std.proofs.Math.Nat.{mod-lt, mod-eq_of_lt, mod-add-mod, add-mod_left}
use Rattle.std.proofs.Math.Seq.{get_or-append_right}
use Rattle.std.proofs.lemmas.Bool.{cases_lt}
use Rattle.std.proofs.lemmas.List.{ext_get_or, length-append, length-take-le, length-drop, get_or-take, get_or-drop, get_or_append_left}
use Rattle.std.proofs.lemmas.List.FromFn.{get_or-map-range_with_len, length-map-range_with_len}
use Rattle.dr_seq.specs.Slots.{event_at}

-- a slot before the ring's end
near_slot : (size first k : ℕ) → first % size + k < size → (first + k) % size ≡ first % size + k
near_slot size first k l = sym (mod-add-mod first size k) ∙ mod-eq_of_lt l

-- and one after it
far_slot : (size first k j : ℕ) → first % size + k ≡ size + j → j < size → (first + k) % size ≡ j
far_slot size first k j e l = sym (mod-add-mod first size k) ∙ ap (λ n. n % size) e ∙ add-mod_left size j ∙ mod-eq_of_lt l

pieces : {E : Type 0} (d : E) (slots : List E) (first n head : ℕ) → 0 < length slots → n ≤ length slots → head ≡ min n (length slots - first % length slots)
    → take head (drop (first % length slots) slots) ++ take (n - head) slots ≡ map (λ s. event_at d slots s) (range_with_len first n)
pieces {E} d slots first n head some fits is =
    let below : first % length slots < length slots = mod-lt first some in
    let front : List E = take head (drop (first % length slots) slots) in
    let back : List E = take (n - head) slots in
    let dropped : length (drop (first % length slots) slots) ≡ length slots - first % length slots = length-drop (first % length slots) slots in
    let a : length front ≡ head = length-take-le head (drop (first % length slots) slots) (omega arith) in
    let b : length back ≡ n - head = length-take-le (n - head) slots (omega arith) in
    let ranged : length (map (λ s. event_at d slots s) (range_with_len first n)) ≡ n = length-map-range_with_len (λ s. event_at d slots s) first n in
    let all : length (front ++ back) ≡ n = length-append front back ∙ (let e : length front + length back ≡ n = omega arith in e) in
    ext_get_or d (front ++ back) _ (all ∙ sym ranged) (λ k l. (let inside : k < n = omega arith in
    rw (get_or-map-range_with_len (λ s. event_at d slots s) first n k (first + k) d inside refl) (elim (cases_lt k head) [
      | inl early ↦ (let slot : (first + k) % length slots ≡ first % length slots + k = near_slot (length slots) first k (omega arith) in
          get_or_append_left front back d k (omega arith)
          ∙ get_or-take head (drop (first % length slots) slots) k d early
          ∙ get_or-drop (first % length slots) slots k d
          ∙ ap (λ i. get_or slots i d) (sym slot))
      | inr late ↦ (let slot : (first + k) % length slots ≡ k - head = far_slot (length slots) first k (k - head) (omega arith) (omega arith) in
          get_or-append_right front back k d (omega arith)
          ∙ ap (λ m. get_or back (k - m) d) a
          ∙ get_or-take (n - head) slots (k - head) d (omega arith)
          ∙ ap (λ i. get_or slots i d) (sym slot))
    ])))

pub two_pieces : {E : Type 0} (d : E) (slots : List E) (first n at head upto rest : ℕ) → 0 < length slots → n ≤ length slots → at ≡ first % length slots
    → head ≡ min n (length slots - at) → upto ≡ head → rest ≡ n - head
    → take upto (drop at slots) ++ take rest slots ≡ map (λ s. event_at d slots s) (range_with_len first n)
two_pieces d slots first n at head upto rest some fits a is u r = rw (u, r, a) (pieces d slots first n head some fits (rw a at is))
