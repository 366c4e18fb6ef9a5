-- What a write leaves that a crash cuts short.
use Rattle.std.proofs.Common.{◌≡◌, ◌≢◌, ◌<◌, ◌≤◌, ◌+◌, ◌⊎◌, inl, inr, ⊎_elim, ℕ, zero, suc, List, [], ◌∷◌, ◌++◌, length, take, drop, refl, sym, ◌∙◌, ap, subst, arith, append_assoc, length-append}
use Rattle.std.specs.Prelude.{replicate}
use Rattle.std.proofs.lemmas.List.{take_at, drop_at, length-take, length-drop}
use Rattle.std.proofs.lemmas.Bool.{cases_eq}
use Rattle.std.proofs.lemmas.Bool.Decides.{nat_tests}
use Rattle.dr_journal.specs.Meaning.Disk.{IsMix, written}
use Rattle.dr_journal.specs.Meaning.Format.{whole_length}
use Rattle.dr_journal.proofs.Codes.{nothing_more}
use Rattle.dr_journal.proofs.Frames.{IsClean}

pub mix_front : (k a b c : List ℕ) → IsMix (k ++ a) (k ++ b) c → (m : List ℕ) × (c ≡ k ++ m) × IsMix a b m
mix_front [] a b c mix = (c, refl, mix)
mix_front (x ∷ k) a b [] mix = absurd mix
mix_front (x ∷ k) a b (y ∷ c) mix =
    let rest = mix_front k a b c mix.1 in
    let same : y ≡ x = ⊎_elim (λ e. e) (λ e. e) mix.0 in
    (rest.0, (λ i. same i ∷ rest.1 i), rest.2)

mix_same : (a c : List ℕ) → IsMix a a c → c ≡ a
mix_same [] c mix = mix
mix_same (x ∷ a) [] mix = absurd mix
mix_same (x ∷ a) (y ∷ c) mix =
    let same : y ≡ x = ⊎_elim (λ e. e) (λ e. e) mix.0 in
    let rest = mix_same a c mix.1 in
    λ i. same i ∷ rest i

-- a batch over zeros is there whole, or a 0 stands before its end
pub holed : (l : List ℕ) (n spare : ℕ) (m : List ℕ) → IsClean l → n ≡ length l + 1 + spare → IsMix (replicate n 0) (l ++ 2 ∷ replicate spare 0) m → (whole_length m ≡ 0) ⊎ (m ≡ l ++ 2 ∷ replicate spare 0)
holed l zero spare m clean size mix = absurd (omega arith)
holed [] (suc n) spare [] clean size mix = absurd mix
holed [] (suc n) spare (x ∷ m) clean size mix = elim mix.0 [
  | inl hole ↦ inl (ap (λ (y : ℕ). whole_length (y ∷ m)) hole)
  | inr there ↦
      let left : n ≡ spare = omega arith in
      let rest = mix_same (replicate spare 0) m (subst (λ (k : ℕ). IsMix (replicate k 0) (replicate spare 0) m) left mix.1) in
      inr (λ i. there i ∷ rest i)
]
holed (b ∷ l) (suc n) spare [] clean size mix = absurd mix
holed (b ∷ l) (suc n) spare (x ∷ m) clean size mix = elim mix.0 [
  | inl hole ↦ inl (ap (λ (y : ℕ). whole_length (y ∷ m)) hole)
  | inr there ↦ elim (holed l n spare m clean.2 (omega arith) mix.1) [
    | inl none ↦ inl (ap (λ (y : ℕ). whole_length (y ∷ m)) there ∙ nothing_more b m clean.1 none)
    | inr rest ↦ inr (λ i. there i ∷ rest i)
  ]
]

-- zeros over what stands for nothing leave nothing
pub zeroed : (rest m : List ℕ) → whole_length rest ≡ 0 → IsMix rest (replicate (length rest) 0) m → whole_length m ≡ 0
zeroed [] m none mix = ap whole_length mix
zeroed (b ∷ rest) [] none mix = absurd mix
zeroed (b ∷ rest) (x ∷ m) none mix = elim mix.0 [
  | inr hole ↦ ap (λ (y : ℕ). whole_length (y ∷ m)) hole
  | inl there ↦ ap (λ (y : ℕ). whole_length (y ∷ m)) there ∙ elim (cases_eq b 0) [
    | inl is ↦ ap (λ (y : ℕ). whole_length (y ∷ m)) is
    | inr not_0 ↦ elim (cases_eq b 2) [
      | inl is ↦ let two : whole_length (b ∷ rest) ≡ 1 + whole_length rest = ap (λ (y : ℕ). whole_length (y ∷ rest)) is in absurd (omega (arith, two, none))
      | inr not_2 ↦ nothing_more b m not_2 (zeroed rest m (counts_not b rest not_0 not_2 none) mix.1)
    ]
  ]
]
  where
    counts_not : (b : ℕ) (rest : List ℕ) → b ≢ 0 → b ≢ 2 → whole_length (b ∷ rest) ≡ 0 → whole_length rest ≡ 0
    counts_not b rest not_0 not_2 none = grind (arith, nat_tests)

pub zeros_first : (n : ℕ) (tail : List ℕ) → 0 < n → whole_length (replicate n 0 ++ tail) ≡ 0
zeros_first zero tail some = absurd (omega arith)
zeros_first (suc n) tail some = refl

pub zeros_none : (n : ℕ) → whole_length (replicate n 0) ≡ 0
zeros_none zero = refl
zeros_none (suc n) = refl

-- other bytes in the place of as many
pub written_behind : (k over under rest : List ℕ) (n : ℕ) → n ≡ length k → length under ≡ length over → written n over (k ++ (under ++ rest)) ≡ k ++ (over ++ rest)
written_behind k over under rest n is same =
    ap (λ (l : List ℕ). l ++ over ++ drop (n + length over) (k ++ (under ++ rest))) (take_at k (under ++ rest) n (sym is))
    ∙ ap (λ (l : List ℕ). k ++ over ++ drop (n + length over) l) (sym (append_assoc k under rest))
    ∙ ap (λ (l : List ℕ). k ++ over ++ l) (drop_at (k ++ under) rest (n + length over) (omega (arith, is, same, length-append k under)))
    ∙ append_assoc k over rest

-- nothing of a write is a mix, and all of it
pub mix_old : (a b : List ℕ) → length a ≡ length b → IsMix a b a
mix_old [] [] same = refl
mix_old [] (y ∷ b) same = absurd (omega arith)
mix_old (x ∷ a) [] same = absurd (omega arith)
mix_old (x ∷ a) (y ∷ b) same = (inl refl, mix_old a b (omega arith))

pub mix_new : (a b : List ℕ) → length a ≡ length b → IsMix a b b
mix_new [] [] same = refl
mix_new [] (y ∷ b) same = absurd (omega arith)
mix_new (x ∷ a) [] same = absurd (omega arith)
mix_new (x ∷ a) (y ∷ b) same = (inr refl, mix_new a b (omega arith))

pub length-written : (n : ℕ) (bytes file : List ℕ) → n + length bytes ≤ length file → length file ≡ length (written n bytes file)
length-written n bytes file le = omega (arith, length-append (take n file ++ bytes) (drop (n + length bytes) file), length-append (take n file) bytes, length-take n file, length-drop (n + length bytes) file)
