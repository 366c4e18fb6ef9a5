-- What bytes stand for.
use Rattle.std.proofs.Common.{◌≡◌, ◌≢◌, ◌<◌, ◌≤◌, ◌+◌, ◌-◌, ◌⊎◌, inl, inr, ℕ, zero, suc, List, [], ◌∷◌, ◌++◌, length, take, drop, refl, sym, ◌∙◌, ap, arith}
use Rattle.std.proofs.lemmas.List.{append-nil, take_all, length-take}
use Rattle.std.proofs.lemmas.Bool.{cases_eq}
use Rattle.std.proofs.lemmas.Bool.Decides.{nat_tests}
use Rattle.dr_journal.specs.Meaning.Format.{whole_length, whole_batches, records_from, records_in}

-- nothing but whole batches
abbrev pub IsWhole : List ℕ → Type 0
IsWhole bytes = whole_length bytes ≡ length bytes

pub nothing_more : (b : ℕ) (rest : List ℕ) → b ≢ 2 → whole_length rest ≡ 0 → whole_length (b ∷ rest) ≡ 0
nothing_more b rest other none = grind (arith, nat_tests)

pub within : (file : List ℕ) → whole_length file ≤ length file
within [] = omega arith
within (b ∷ rest) = let le = within rest in grind (arith, nat_tests)

-- a byte that counts no more, or with what follows
pub kinds : (b : ℕ) (rest : List ℕ) → (whole_length (b ∷ rest) ≡ 0) ⊎ ((b ≢ 0) × (whole_length (b ∷ rest) ≡ 1 + whole_length rest))
kinds b rest = grind (arith, nat_tests)

pub more : (b : ℕ) (rest : List ℕ) → b ≢ 0 → 0 < whole_length rest → whole_length (b ∷ rest) ≡ 1 + whole_length rest
more b rest here some = grind (arith, nat_tests)

pub kept_append : (k rest : List ℕ) → IsWhole k → whole_length (k ++ rest) ≡ length k + whole_length rest
kept_append [] rest whole = omega arith
kept_append (b ∷ k) rest whole = elim (cases_eq b 2) [
  | inl is ↦
      let two : whole_length (b ∷ k) ≡ 1 + whole_length k = ap (λ (x : ℕ). whole_length (x ∷ k)) is in
      let two_more : whole_length (b ∷ k ++ rest) ≡ 1 + whole_length (k ++ rest) = ap (λ (x : ℕ). whole_length (x ∷ k ++ rest)) is in
      omega (arith, whole, two, two_more, kept_append k rest (omega (arith, whole, two)))
  | inr other ↦ elim (kinds b k) [
    | inl none ↦ absurd (omega (arith, whole, none))
    | inr some ↦
        let tail = kept_append k rest (omega (arith, whole, some.1)) in
        elim (cases_eq (whole_length k) 0) [
          | inl none ↦ absurd (omega (arith, whole, nothing_more b k other none))
          | inr any ↦ let step = more b (k ++ rest) some.0 (omega (arith, tail, any, within k)) in omega (arith, whole, some.1, tail, step)
        ]
  ]
]

counted : (b : ℕ) (rest : List ℕ) → b ≢ 0 → whole_length (b ∷ rest) ≡ 1 + whole_length rest → (front : List ℕ) → whole_length front ≡ whole_length rest → whole_length (b ∷ front) ≡ 1 + whole_length front
counted b rest here is front same = elim (cases_eq b 2) [
  | inl two ↦ ap (λ (x : ℕ). whole_length (x ∷ front)) two
  | inr other ↦ elim (cases_eq (whole_length rest) 0) [
    | inl none ↦ absurd (omega (arith, is, nothing_more b rest other none))
    | inr some ↦ more b front here (omega (arith, some, same))
  ]
]

-- what is whole_batches is whole, and nothing behind it is
pub kept_whole : (file : List ℕ) → whole_length (take (whole_length file) file) ≡ whole_length file
kept_whole [] = refl
kept_whole (b ∷ rest) = elim (kinds b rest) [
  | inl none ↦ ap (λ (n : ℕ). whole_length (take n (b ∷ rest))) none ∙ sym none
  | inr some ↦
      let as_suc : whole_length (b ∷ rest) ≡ suc (whole_length rest) = omega (arith, some.1) in
      ap (λ (n : ℕ). whole_length (take n (b ∷ rest))) as_suc
      ∙ counted b rest some.0 some.1 (take (whole_length rest) rest) (kept_whole rest)
      ∙ ap (λ (n : ℕ). 1 + n) (kept_whole rest) ∙ sym some.1
]

pub after_kept : (file : List ℕ) → whole_length (drop (whole_length file) file) ≡ 0
after_kept [] = refl
after_kept (b ∷ rest) = elim (kinds b rest) [
  | inl none ↦ ap (λ (n : ℕ). whole_length (drop n (b ∷ rest))) none ∙ none
  | inr some ↦
      let as_suc : whole_length (b ∷ rest) ≡ suc (whole_length rest) = omega (arith, some.1) in
      ap (λ (n : ℕ). whole_length (drop n (b ∷ rest))) as_suc ∙ after_kept rest
]

pub length-kept : (file : List ℕ) → length (whole_batches file) ≡ whole_length file
length-kept file = let le = within file in grind (arith, length-take)

pub is_whole : (file : List ℕ) → IsWhole (whole_batches file)
is_whole file = kept_whole file ∙ sym (length-kept file)

take_past : (xs ys : List ℕ) (m n : ℕ) → m ≡ length xs + n → take m (xs ++ ys) ≡ xs ++ take n ys
take_past [] ys m n is = let same : m ≡ n = omega arith in ap (λ (k : ℕ). take k ys) same
take_past (x ∷ xs) ys zero n is = absurd (omega arith)
take_past (x ∷ xs) ys (suc m) n is = ap (λ (l : List ℕ). x ∷ l) (take_past xs ys m n (omega arith))

pub kept_behind : (k rest : List ℕ) → IsWhole k → whole_batches (k ++ rest) ≡ k ++ whole_batches rest
kept_behind k rest whole = take_past k rest (whole_length (k ++ rest)) (whole_length rest) (kept_append k rest whole)

-- whole batches and then others
records_push : (so_far : List ℕ) (less : ℕ) (b : ℕ) (k ys : List ℕ) → IsWhole (b ∷ k) → records_from so_far less (b ∷ k ++ ys) ≡ records_from so_far less (b ∷ k) ++ records_from [] 0 ys
records_push so_far less b [] ys whole = elim (cases_eq b 2) [
  | inl two ↦ ap (λ (x : ℕ). records_from so_far less (x ∷ ys)) two ∙ ap (λ (x : ℕ). records_from so_far less (x ∷ []) ++ records_from [] 0 ys) (sym two)
  | inr other ↦ absurd (omega (arith, whole, nothing_more b [] other refl))
]
records_push so_far less b (c ∷ k) ys whole =
    let tail : IsWhole (c ∷ k) = elim (kinds b (c ∷ k)) [ inl none ↦ absurd (omega (arith, none, whole)) | inr some ↦ omega (arith, some.1, whole) ] in
    elim (cases_eq b 1) [
      | inl is ↦ rw is (ap (λ (l : List (List ℕ)). so_far ∷ l) (records_push [] 0 c k ys tail))
      | inr not_1 ↦ elim (cases_eq b 2) [
        | inl is ↦ rw is (records_push [] 0 c k ys tail)
        | inr not_2 ↦ elim (cases_eq b 3) [
          | inl is ↦ rw is (records_push so_far 4 c k ys tail)
          | inr not_3 ↦
              let here = own so_far less b (c ∷ k) not_1 not_2 not_3 in
              let there = own so_far less b (c ∷ k ++ ys) not_1 not_2 not_3 in
              there ∙ records_push (so_far ++ (b - less) ∷ []) 0 c k ys tail ∙ ap (λ (l : List (List ℕ)). l ++ records_from [] 0 ys) (sym here)
        ]
      ]
    ]
  where
    own : (so_far : List ℕ) (less b : ℕ) (rest : List ℕ) → b ≢ 1 → b ≢ 2 → b ≢ 3 → records_from so_far less (b ∷ rest) ≡ records_from (so_far ++ (b - less) ∷ []) 0 rest
    own so_far less b rest not_1 not_2 not_3 = grind (arith, nat_tests)

pub records_append : (k ys : List ℕ) → IsWhole k → records_from [] 0 (k ++ ys) ≡ records_from [] 0 k ++ records_from [] 0 ys
records_append [] ys whole = refl
records_append (b ∷ k) ys whole = records_push [] 0 b k ys whole

pub whole_kept : (k : List ℕ) → IsWhole k → whole_batches k ≡ k
whole_kept k whole = ap (λ (n : ℕ). take n k) whole ∙ take_all (length k) k (omega arith)

pub recovered_append : (k rest : List ℕ) → IsWhole k → records_in (k ++ rest) ≡ records_from [] 0 k ++ records_in rest
recovered_append k rest whole = ap (λ (l : List ℕ). records_from [] 0 l) (kept_behind k rest whole) ∙ records_append k (whole_batches rest) whole

pub nothing_recovered : (rest : List ℕ) → whole_length rest ≡ 0 → records_in rest ≡ []
nothing_recovered rest none = ap (λ (n : ℕ). records_from [] 0 (take n rest)) none

-- behind whole batches there is nothing
pub recovered_whole : (k rest : List ℕ) → IsWhole k → whole_length rest ≡ 0 → records_in (k ++ rest) ≡ records_from [] 0 k
recovered_whole k rest whole none = recovered_append k rest whole ∙ ap (λ (l : List (List ℕ)). records_from [] 0 k ++ l) (nothing_recovered rest none) ∙ append-nil (records_from [] 0 k)
