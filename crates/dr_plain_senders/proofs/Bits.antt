-- The marks in a word, bit by bit.
use Rattle.std.proofs.Common.{◌≡◌, ◌≢◌, ℕ, zero, suc, ◌+◌, ◌-◌, ◌*◌, ◌/◌, ◌%◌, ◌^◌, ◌<◌, ◌≤◌, inl, inr, Bool, true, false, ◌==◌, if◌then◌else◌, min}
use Rattle.std.proofs.Common.{sym, refl, ap, ◌∙◌, subst, arith, suc-mul}
use Rattle.std.specs.Prelude.{bit_xor, nat_lt}
use Rattle.std.specs.Int.{bit_at, trailing_ones, trailing_zeros, bit_not, w64}
use Rattle.std.specs.Int.Count.{trailing_of_zero}
use Rattle.std.proofs.lemmas.Bool.{cases_lt, cases_eq, cases_Bool, eqb-true, eq-eqb, ne_eqb, lt-ltb, le-ltb}
use Rattle.std.proofs.lemmas.Nat.{div-add-mod', div-mul-add, mod-mul-add, shr-shr, shr_le, pow_pos, pow-add}
use Rattle.std.proofs.lemmas.Nat.Bits.{bit_at_xor, bit_at-lt, bit_at-zero, bit_at_mask_inside, bit_at_mask_below, bit_at_mask_above, bit_at_ones}
use Rattle.std.proofs.lemmas.Nat.Bits.{bit_at_not, bit_at-trailing_ones, same_from_bits, ones_shr}
use Rattle.std.proofs.Math.Nat.{mod-lt, mod-eq_of_lt}
use Rattle.std.proofs.Math.Pow.{pow_mono}
use Rattle.dr_seq.specs.Rounds.{entry_of}
use Rattle.dr_plain_senders.specs.Meaning.Shape.{Shape}
use Rattle.dr_plain_senders.specs.Meaning.Words.{mark_word, mark_bit, in_word, flipped, is_there, run_of, marked_from, words_of}

-- a word of marks is one of the ring's
pub mark_inside : {T : Type 0} (k : Shape T) (s : ℕ) → 0 < k.size → mark_word k s < words_of k
mark_inside k s pos = let m = mod-lt s pos in omega arith

-- a word and a bit name a cell
pub same_slot : {T : Type 0} (k : Shape T) (a b : ℕ) → mark_word k a ≡ mark_word k b → mark_bit k a ≡ mark_bit k b → a % k.size ≡ b % k.size
same_slot k a b word bit = omega arith

-- the next sequence in a cell has the next round
pub later_entry : (size s : ℕ) → 0 < size → entry_of size (size + s) ≡ entry_of size s + 1
later_entry size s pos =
    let q = s / size in let r = s % size in let d = div-add-mod' s size in
    let e : suc q * size + r ≡ size + s = omega (arith, d, suc-mul q size) in
    let quotient : (size + s) / size ≡ suc q = ap (λ (n : ℕ). n / size) (sym e) ∙ div-mul-add (suc q) size r (mod-lt s pos) in omega arith

pub first_entry : (size s : ℕ) → s < size → entry_of size s ≡ 1
first_entry size s lt =
    let e : 0 * size + s ≡ s = omega arith in
    let quotient : s / size ≡ 0 = ap (λ (n : ℕ). n / size) (sym e) ∙ div-mul-add 0 size s lt in omega arith

pub later_slot : (size s : ℕ) → 0 < size → (size + s) % size ≡ s % size
later_slot size s pos =
    let q = s / size in let r = s % size in let d = div-add-mod' s size in
    let e : suc q * size + r ≡ size + s = omega (arith, d, suc-mul q size) in ap (λ (n : ℕ). n % size) (sym e) ∙ mod-mul-add (suc q) size r (mod-lt s pos)

-- Where a sequence has its mark, not far from another in the same word.

pub some_in_word : {T : Type 0} (k : Shape T) (s : ℕ) → 0 < k.size → 0 < in_word k s
some_in_word k s pos = let m = mod-lt s pos in omega arith

pub few_in_word : {T : Type 0} (k : Shape T) (s : ℕ) → (in_word k s ≤ 64) × (in_word k s ≤ k.size)
few_in_word k s = (omega arith, omega arith)

next_slot : {T : Type 0} (k : Shape T) (s i : ℕ) → i < k.size - s % k.size → ((s + i) / k.size ≡ s / k.size) × ((s + i) % k.size ≡ s % k.size + i)
next_slot k s i lt =
    let n = k.size in let q = s / n in let r = s % n in let d = div-add-mod' s n in
    let e : q * n + (r + i) ≡ s + i = omega (arith, d) in
    (ap (λ (x : ℕ). x / n) (sym e) ∙ div-mul-add q n (r + i) (omega arith), ap (λ (x : ℕ). x % n) (sym e) ∙ mod-mul-add q n (r + i) (omega arith))

pub same_entry : {T : Type 0} (k : Shape T) (s i : ℕ) → i < in_word k s → entry_of k.size (s + i) ≡ entry_of k.size s
same_entry k s i lt = let a = (next_slot k s i (omega arith)).0 in ap (λ (q : ℕ). q + 1) a

pub same_word : {T : Type 0} (k : Shape T) (s i : ℕ) → i < in_word k s → mark_word k (s + i) ≡ mark_word k s
same_word k s i lt = let a = (next_slot k s i (omega arith)).1 in omega arith

pub next_bit : {T : Type 0} (k : Shape T) (s i : ℕ) → i < in_word k s → mark_bit k (s + i) ≡ mark_bit k s + i
next_bit k s i lt = let a = (next_slot k s i (omega arith)).1 in omega arith

pub left_in_word : {T : Type 0} (k : Shape T) (s i : ℕ) → i < in_word k s → in_word k (s + i) ≡ in_word k s - i
left_in_word k s i lt = let a = (next_slot k s i (omega arith)).1 in omega arith

-- Flips.

sums : (a b c x y z : ℕ) → a ≡ x → b ≡ y → c ≡ z → x + y ≡ z → a + b ≡ c
sums a b c x y z e f g h = omega arith

still : (b : ℕ) → b < 2 → (b + 0) % 2 ≡ b
still b lt = omega arith

two_flips : (b a c d : ℕ) → b < 2 → a + c ≡ d → ((b + a) % 2 + c) % 2 ≡ (b + d) % 2
two_flips b a c d lt sum = omega arith

pub flip_here : (n i : ℕ) → bit_at (flipped n i 1) i ≡ (bit_at n i + 1) % 2
flip_here n i = bit_at_xor n (2 ^ (i + 1) - 2 ^ i) i ∙ ap (λ (b : ℕ). (bit_at n i + b) % 2) (bit_at_mask_inside i (i + 1) i (omega arith) (omega arith))

pub flip_else : (n i j : ℕ) → j ≢ i → bit_at (flipped n i 1) j ≡ bit_at n j
flip_else n i j ne =
    let none : bit_at (2 ^ (i + 1) - 2 ^ i) j ≡ 0 = elim (cases_lt j i) [
      | inl low ↦ bit_at_mask_below i (i + 1) j low
      | inr high ↦ bit_at_mask_above i (i + 1) j (omega arith)
    ] in
    bit_at_xor n (2 ^ (i + 1) - 2 ^ i) j ∙ ap (λ (b : ℕ). (bit_at n j + b) % 2) none ∙ still (bit_at n j) (bit_at-lt n j)

masks : (i n j : ℕ) → bit_at (2 ^ (i + 1) - 2 ^ i) j + bit_at (2 ^ (i + 1 + n) - 2 ^ (i + 1)) j ≡ bit_at (2 ^ (i + suc n) - 2 ^ i) j
masks i n j =
    elim (cases_lt j i) [
      | inl low ↦ sums _ _ _ 0 0 0 (bit_at_mask_below i (i + 1) j low)
          (bit_at_mask_below (i + 1) (i + 1 + n) j (omega arith)) (bit_at_mask_below i (i + suc n) j low) (omega arith)
      | inr from ↦ elim (cases_eq j i) [
        | inl here ↦ sums _ _ _ 1 0 1 (bit_at_mask_inside i (i + 1) j (omega arith) (omega arith)) (bit_at_mask_below (i + 1) (i + 1 + n) j (omega arith))
            (bit_at_mask_inside i (i + suc n) j (omega arith) (omega arith)) (omega arith)
        | inr ne ↦ elim (cases_lt j (i + suc n)) [
          | inl inside ↦ sums _ _ _ 0 1 1 (bit_at_mask_above i (i + 1) j (omega arith)) (bit_at_mask_inside (i + 1) (i + 1 + n) j (omega arith) (omega arith))
              (bit_at_mask_inside i (i + suc n) j (omega arith) inside) (omega arith)
          | inr above ↦ sums _ _ _ 0 0 0 (bit_at_mask_above i (i + 1) j (omega arith)) (bit_at_mask_above (i + 1) (i + 1 + n) j (omega arith))
              (bit_at_mask_above i (i + suc n) j (omega arith)) (omega arith)
        ]
      ]
    ]

-- one flip and then some are so many together
pub flip_more : (v i n : ℕ) → flipped (flipped v i 1) (i + 1) n ≡ flipped v i (suc n)
flip_more v i n =
    let one : ℕ = 2 ^ (i + 1) - 2 ^ i in let more : ℕ = 2 ^ (i + 1 + n) - 2 ^ (i + 1) in let all : ℕ = 2 ^ (i + suc n) - 2 ^ i in
    same_from_bits (bit_xor (bit_xor v one) more) (bit_xor v all) (λ j.
    bit_at_xor (bit_xor v one) more j ∙ ap (λ (b : ℕ). (b + bit_at more j) % 2) (bit_at_xor v one j)
    ∙ two_flips (bit_at v j) (bit_at one j) (bit_at more j) (bit_at all j) (bit_at-lt v j) (masks i n j) ∙ sym (bit_at_xor v all j))

pub flip_none : (v i : ℕ) → flipped v i 0 ≡ v
flip_none v i =
    let all : ℕ = 2 ^ (i + 0) - 2 ^ i in
    same_from_bits (bit_xor v all) v (λ j.
    let none : bit_at all j ≡ 0 = elim (cases_lt j i) [
      | inl low ↦ bit_at_mask_below i (i + 0) j low
      | inr high ↦ bit_at_mask_above i (i + 0) j (omega arith)
    ] in bit_at_xor v all j ∙ ap (λ (b : ℕ). (bit_at v j + b) % 2) none ∙ still (bit_at v j) (bit_at-lt v j))

-- A mark, and what a flip makes of it.

pub bit_there : {T : Type 0} (k : Shape T) (s word : ℕ) → is_there k s word ≡ true → bit_at word (mark_bit k s) ≡ entry_of k.size s % 2
bit_there k s word is = eqb-true (bit_at word (mark_bit k s)) (entry_of k.size s % 2) is

pub there_bit : {T : Type 0} (k : Shape T) (s word : ℕ) → bit_at word (mark_bit k s) ≡ entry_of k.size s % 2 → is_there k s word ≡ true
there_bit k s word is = eq-eqb (bit_at word (mark_bit k s)) (entry_of k.size s % 2) is

pub bit_absent : {T : Type 0} (k : Shape T) (s word : ℕ) → is_there k s word ≡ false → bit_at word (mark_bit k s) ≢ entry_of k.size s % 2
bit_absent k s word is same = let no = there_bit k s word same in absurd (cc)

pub absent_bit : {T : Type 0} (k : Shape T) (s word : ℕ) → bit_at word (mark_bit k s) ≢ entry_of k.size s % 2 → is_there k s word ≡ false
absent_bit k s word is = ne_eqb (bit_at word (mark_bit k s)) (entry_of k.size s % 2) is

other_bit : (b e : ℕ) → b < 2 → b ≢ e % 2 → (b + 1) % 2 ≡ e % 2
other_bit b e lt ne = omega arith

next_differs : (e f : ℕ) → f ≡ e + 1 → e % 2 ≢ f % 2
next_differs e f is same = omega arith

-- a flip puts the mark there that was not
pub flipped_there : {T : Type 0} (k : Shape T) (s word : ℕ) → is_there k s word ≡ false → is_there k s (flipped word (mark_bit k s) 1) ≡ true
flipped_there k s word off =
    there_bit k s (flipped word (mark_bit k s) 1)
    (flip_here word (mark_bit k s) ∙ other_bit (bit_at word (mark_bit k s)) (entry_of k.size s) (bit_at-lt word (mark_bit k s)) (bit_absent k s word off))

-- and leaves the mark of another cell as it is
pub flipped_else : {T : Type 0} (k : Shape T) (s z word : ℕ) → mark_bit k z ≢ mark_bit k s → is_there k z (flipped word (mark_bit k s) 1) ≡ is_there k z word
flipped_else k s z word ne = ap (λ (b : ℕ). b == entry_of k.size z % 2) (flip_else word (mark_bit k s) (mark_bit k z) ne)

-- where the mark of a sequence is there, that of the next in its cell is not
pub next_absent : {T : Type 0} (k : Shape T) (s word : ℕ) → 0 < k.size → is_there k s word ≡ true → is_there k (k.size + s) word ≡ false
next_absent k s word pos on =
    let same : mark_bit k (k.size + s) ≡ mark_bit k s = ap (λ (x : ℕ). x % 64) (later_slot k.size s pos) in
    absent_bit k (k.size + s) word (λ is. next_differs (entry_of k.size s) (entry_of k.size (k.size + s)) (later_entry k.size s pos)
    (sym (bit_there k s word on) ∙ ap (bit_at word) (sym same) ∙ is))

not_both : (b : ℕ) → b ≡ 0 → b ≡ 1 → ⊥
not_both b none one = omega arith

-- no mark is there in the first round of a word of 0
pub none_there : {T : Type 0} (k : Shape T) (s word : ℕ) → s < k.size → word ≡ 0 → is_there k s word ≡ true → ⊥
none_there k s word lt zero_word on =
    let bit : bit_at word (mark_bit k s) ≡ entry_of k.size s % 2 = bit_there k s word on in
    let first : entry_of k.size s % 2 ≡ 1 = ap (λ (e : ℕ). e % 2) (first_entry k.size s lt) in
    let none : bit_at word (mark_bit k s) ≡ 0 = ap (λ (w : ℕ). bit_at w (mark_bit k s)) zero_word ∙ bit_at-zero (mark_bit k s) in
    not_both (bit_at word (mark_bit k s)) none (bit ∙ first)

-- Runs.

pub run_few : {T : Type 0} (k : Shape T) (s word n : ℕ) → run_of k s word n ≤ n
run_few k s word zero = omega arith
run_few k s word (suc n) =
    let P : Bool → Type 0 = λ b. (if b then suc (run_of k (s + 1) word n) else 0) ≤ suc n in
    elim (cases_Bool (is_there k s word)) [
      | inl on ↦ subst P (sym on) (let rest = run_few k (s + 1) word n in omega arith)
      | inr off ↦ subst P (sym off) (omega arith)
    ]

pub run_there : {T : Type 0} (k : Shape T) (s word n i : ℕ) → i < run_of k s word n → is_there k (s + i) word ≡ true
run_there k s word zero i lt = absurd (omega arith)
run_there k s word (suc n) i lt =
    let P : Bool → Type 0 = λ b. i < (if b then suc (run_of k (s + 1) word n) else 0) in
    elim (cases_Bool (is_there k s word)) [
      | inl on ↦ (let more : i < suc (run_of k (s + 1) word n) = subst P on lt in elim (cases_lt 0 i) [
        | inl later ↦ (let e : s + 1 + (i - 1) ≡ s + i = omega arith in
            ap (λ (q : ℕ). is_there k q word) (sym e) ∙ run_there k (s + 1) word n (i - 1) (omega arith))
        | inr now ↦ (let e : s + i ≡ s = omega arith in ap (λ (q : ℕ). is_there k q word) e ∙ on)
      ])
      | inr off ↦ absurd (let none : i < 0 = subst P off lt in omega arith)
    ]

pub run_is : {T : Type 0} (k : Shape T) (s word n m : ℕ) → m ≤ n
    → ((i : ℕ) → i < m → is_there k (s + i) word ≡ true) → (m < n → is_there k (s + m) word ≡ false)
    → run_of k s word n ≡ m
run_is k s word zero m le all stop = omega arith
run_is k s word (suc n) zero le all stop =
    let e : s + 0 ≡ s = omega arith in
    ap (λ (b : Bool). if b then suc (run_of k (s + 1) word n) else 0) (ap (λ (q : ℕ). is_there k q word) (sym e) ∙ stop (omega arith))
run_is k s word (suc n) (suc m) le all stop =
    let e : s + 0 ≡ s = omega arith in let on : is_there k s word ≡ true = ap (λ (q : ℕ). is_there k q word) (sym e) ∙ all 0 (omega arith) in
    let rest = run_is k (s + 1) word n m (omega arith)
    (λ i lt. (let f : s + 1 + i ≡ s + suc i = omega arith in ap (λ (q : ℕ). is_there k q word) f ∙ all (suc i) (omega arith)))
    (λ lt. (let f : s + 1 + m ≡ s + suc m = omega arith in ap (λ (q : ℕ). is_there k q word) f ∙ stop (omega arith))) in
    ap (λ (b : Bool). if b then suc (run_of k (s + 1) word n) else 0) on ∙ ap suc rest

pub run_stops : {T : Type 0} (k : Shape T) (s word n : ℕ) → run_of k s word n < n → is_there k (s + run_of k s word n) word ≡ false
run_stops k s word zero lt = absurd (omega arith)
run_stops k s word (suc n) lt =
    let P : Bool → Type 0 =
    λ b. (if b then suc (run_of k (s + 1) word n) else 0) < suc n → is_there k (s + (if b then suc (run_of k (s + 1) word n) else 0)) word ≡ false in
    elim (cases_Bool (is_there k s word)) [
      | inl on ↦ subst P (sym on) (λ less. (let e : s + suc (run_of k (s + 1) word n) ≡ s + 1 + run_of k (s + 1) word n = omega arith in
          ap (λ (q : ℕ). is_there k q word) e ∙ run_stops k (s + 1) word n (omega arith))) lt
      | inr off ↦ subst P (sym off) (λ less. (let e : s + 0 ≡ s = omega arith in ap (λ (q : ℕ). is_there k q word) e ∙ off)) lt
    ]

-- the first mark of a run is there, or the run is of none
pub run_first : {T : Type 0} (k : Shape T) (s word : ℕ) → 0 < k.size → 0 < marked_from k s word → is_there k s word ≡ true
run_first k s word pos some_one = let e : s + 0 ≡ s = omega arith in ap (λ (q : ℕ). is_there k q word) (sym e) ∙ run_there k s word (in_word k s) 0 some_one

pub run_none : {T : Type 0} (k : Shape T) (s word : ℕ) → 0 < k.size → marked_from k s word ≡ 0 → is_there k s word ≡ false
run_none k s word pos none =
    let some_one = some_in_word k s pos in let e : s + run_of k s word (in_word k s) ≡ s = omega arith in
    ap (λ (q : ℕ). is_there k q word) (sym e) ∙ run_stops k s word (in_word k s) (omega arith)

pub some_marked : {T : Type 0} (k : Shape T) (s word : ℕ) → 0 < k.size → nat_lt 0 (marked_from k s word) ≡ is_there k s word
some_marked k s word pos = elim (cases_lt 0 (marked_from k s word)) [
  | inl some_one ↦ lt-ltb 0 (marked_from k s word) some_one ∙ sym (run_first k s word pos some_one)
  | inr none ↦ le-ltb 0 (marked_from k s word) none ∙ sym (run_none k s word pos (omega arith))
]

-- How the code counts a run: by the ones at the low end of the word, shifted by the first mark's bit, where each one is a mark that is there.

all_ones : (n : ℕ) → n < 2 ^ 64 → 2 ^ 64 ≤ n + 1 → (trailing_ones w64 n ≡ 64) × ((i : ℕ) → i < 64 → bit_at n i ≡ 1)
all_ones n lt high =
    let top : n ≡ 2 ^ 64 - 1 = omega arith in let none : bit_not w64 n ≡ 0 = omega arith in (
      ap (trailing_zeros w64) none ∙ trailing_of_zero 64,
      λ i low. ap (λ (m : ℕ). bit_at m i) top ∙ bit_at_ones 64 i low,
    )

low_ones : (n : ℕ) → n < 2 ^ 64
    → (trailing_ones w64 n ≤ 64) × ((i : ℕ) → i < trailing_ones w64 n → bit_at n i ≡ 1) × (trailing_ones w64 n < 64 → bit_at n (trailing_ones w64 n) ≡ 0)
low_ones n lt = elim (cases_lt (n + 1) (2 ^ 64)) [
  | inl less ↦ (let t = bit_at-trailing_ones w64 n less in (let a = t.0 in omega arith, t.2, λ below. t.1))
  | inr top ↦
      (let t = all_ones n lt (omega arith) in
      (let a = t.0 in omega arith, λ i below. t.1 i (let a = t.0 in omega arith), λ below. absurd (let a = t.0 in omega arith)))
]

shifted_bit : (x b i : ℕ) → bit_at (x / 2 ^ b) i ≡ bit_at x (b + i)
shifted_bit x b i = ap (λ (n : ℕ). n % 2) (shr-shr x b i)

-- x has a one where a mark of the round is there
abbrev pub Shows : {T : Type 0} → Shape T → ℕ → ℕ → ℕ → Type 0
Shows k s word x = (j : ℕ) → j < 64 → ((bit_at x j ≡ 1 → bit_at word j ≡ entry_of k.size s % 2) × (bit_at x j ≡ 0 → bit_at word j ≢ entry_of k.size s % 2))

pub counted_run : {T : Type 0} (k : Shape T) (s word x : ℕ) → 0 < k.size → x < 2 ^ 64 → Shows k s word x
    → min (trailing_ones w64 (x / 2 ^ mark_bit k s)) (in_word k s) ≡ marked_from k s word
counted_run k s word x pos lt shows =
    let b = mark_bit k s in
    let y = x / 2 ^ b in
    let n = in_word k s in
    let small : y < 2 ^ 64 = (let a = shr_le x b in omega arith) in
    let t = low_ones y small in
    let run = trailing_ones w64 y in let low : b + n ≤ 64 = omega arith in
    let at : (i : ℕ) → i < n → mark_bit k (s + i) ≡ b + i = λ i less. next_bit k s i less in
    sym (run_is k s word n (min run n) (omega arith)
    (λ i less. there_bit k (s + i) word
    (ap (bit_at word) (at i (omega arith)) ∙ (shows (b + i) (omega arith)).0 (sym (shifted_bit x b i) ∙ t.1 i (omega arith))
    ∙ ap (λ (e : ℕ). e % 2) (sym (same_entry k s i (omega arith)))))
    (λ less. let here : min run n ≡ run = omega arith in subst (λ (m : ℕ). is_there k (s + m) word ≡ false) (sym here)
    (absent_bit k (s + run) word (λ is. (shows (b + run) (omega arith)).1 (sym (shifted_bit x b run) ∙ t.2 (omega arith))
    (ap (bit_at word) (sym (at run (omega arith))) ∙ is ∙ ap (λ (e : ℕ). e % 2) (same_entry k s run (omega arith)))))))

even_shows : (b e q : ℕ) → e ≡ q + 1 → q % 2 ≡ 0 → b < 2 → (b ≡ 1 → b ≡ e % 2) × (b ≡ 0 → b ≡ e % 2 → ⊥)
even_shows b e q is even lt = (λ one. omega arith, λ none same. omega arith)

odd_shows : (x b e q : ℕ) → e ≡ q + 1 → (q % 2 ≡ 0 → ⊥) → b < 2 → x ≡ 1 - b → (x ≡ 1 → b ≡ e % 2) × (x ≡ 0 → b ≡ e % 2 → ⊥)
odd_shows x b e q is odd lt flip = (λ one. omega arith, λ none same. omega arith)

-- a word as it is in an even round, or with each bit flipped in an odd one, has a one where a mark of the round is there
pub shows_word : {T : Type 0} (k : Shape T) (s word : ℕ) (is_even : Bool) → word < 2 ^ 64
    → is_even ≡ (s / k.size % 2 == 0) → Shows k s word (if is_even then word else bit_not w64 word)
shows_word k s word true lt is j low =
    let even = eqb-true (s / k.size % 2) 0 (sym is) in even_shows (bit_at word j) (entry_of k.size s) (s / k.size) refl even (bit_at-lt word j)
shows_word k s word false lt is j low =
    odd_shows (bit_at (bit_not w64 word) j) (bit_at word j) (entry_of k.size s) (s / k.size) refl
    (λ even. let no = eq-eqb (s / k.size % 2) 0 even in cc) (bit_at-lt word j) (bit_at_not w64 word j lt low)

product : (x y a b : ℕ) → a ≡ suc x → a * y ≡ b → x * y ≡ b - y
product x y a b is total = let more = suc-mul x y in let same : a * y ≡ suc x * y = ap (λ (q : ℕ). q * y) is in omega arith

-- so many ones, shifted to a bit
pub ones_at : (b n : ℕ) → b + n ≤ 64 → (2 ^ n - 1) * 2 ^ b % 2 ^ 64 ≡ 2 ^ (b + n) - 2 ^ b
ones_at b n le =
    let p = pow_pos n in let q = pow_pos b in let turn : n + b ≡ b + n = omega arith in
    let high : 2 ^ (b + n) ≤ 2 ^ 64 = pow_mono {i = b + n} {j = 64} le in
    let all : 2 ^ n * 2 ^ b ≡ 2 ^ (b + n) = sym (pow-add 2 n b) ∙ ap (λ (e : ℕ). 2 ^ e) turn in
    let is : (2 ^ n - 1) * 2 ^ b ≡ 2 ^ (b + n) - 2 ^ b = product (2 ^ n - 1) (2 ^ b) (2 ^ n) (2 ^ (b + n)) (omega arith) all in
    ap (λ (x : ℕ). x % 2 ^ 64) is ∙ mod-eq_of_lt (omega arith)

pub low_mask : (n : ℕ) → n ≤ 64 → (2 ^ 64 - 1) / 2 ^ (64 - n) ≡ 2 ^ n - 1
low_mask n le = let e : 64 - (64 - n) ≡ n = omega arith in ones_shr 64 (64 - n) (omega arith) ∙ ap (λ (m : ℕ). 2 ^ m - 1) e
