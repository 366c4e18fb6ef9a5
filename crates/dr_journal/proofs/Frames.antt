-- A batch as it is written, and read again.
use Rattle.std.proofs.Common.{◌≡◌, ◌≢◌, ◌<◌, ◌≤◌, ◌+◌, ◌-◌, inl, inr, ℕ, List, [], ◌∷◌, ◌++◌, length, refl, sym, ◌∙◌, ap, arith, append_assoc, length-append}
use Rattle.std.specs.Prelude.{⊤}
use Rattle.std.proofs.lemmas.List.{append-nil}
use Rattle.std.proofs.lemmas.Bool.{cases_lt}
use Rattle.std.proofs.lemmas.Bool.Decides.{nat_tests}
use Rattle.dr_journal.specs.Meaning.Format.{whole_length, records_from, coded, coded_records, frame}
use Rattle.dr_journal.proofs.Codes.{IsWhole, more}

-- no byte is 0 or 2
abbrev pub IsClean : List ℕ → Type 0
IsClean [] = ⊤
IsClean (b ∷ bytes) = (b ≢ 0) × (b ≢ 2) × IsClean bytes

clean_append : (xs ys : List ℕ) → IsClean xs → IsClean ys → IsClean (xs ++ ys)
clean_append [] ys left right = right
clean_append (x ∷ xs) ys left right = (left.0, left.1, clean_append xs ys left.2 right)

small : (b : ℕ) (bytes : List ℕ) → b < 4 → coded (b ∷ bytes) ≡ 3 ∷ (b + 4) ∷ coded bytes
small b bytes lt = grind (arith, nat_tests)

large : (b : ℕ) (bytes : List ℕ) → 4 ≤ b → coded (b ∷ bytes) ≡ b ∷ coded bytes
large b bytes le = grind (arith, nat_tests)

clean_coded : (bytes : List ℕ) → IsClean (coded bytes)
clean_coded [] = tt
clean_coded (b ∷ bytes) = elim (cases_lt b 4) [
  | inl lt ↦ rw (small b bytes lt) (omega arith, omega arith, (omega arith, omega arith, clean_coded bytes))
  | inr le ↦ rw (large b bytes le) (omega arith, omega arith, clean_coded bytes)
]

pub clean_lines : (batch : List (List ℕ)) → IsClean (coded_records batch)
clean_lines [] = tt
clean_lines (bytes ∷ batch) = clean_append (coded bytes) (1 ∷ coded_records batch) (clean_coded bytes) (omega arith, omega arith, clean_lines batch)

clean_ends : (l : List ℕ) → IsClean l → whole_length (l ++ 2 ∷ []) ≡ length l + 1
clean_ends [] clean = refl
clean_ends (b ∷ l) clean = let tail = clean_ends l clean.2 in let step = more b (l ++ 2 ∷ []) clean.0 (omega (arith, tail)) in omega (arith, tail, step)

pub whole_frame : (batch : List (List ℕ)) → IsWhole (frame batch)
whole_frame batch = clean_ends (coded_records batch) (clean_lines batch) ∙ sym (length-append (coded_records batch) (2 ∷ []))

pub push_own : (so_far : List ℕ) (less b : ℕ) (rest : List ℕ) → b ≢ 1 → b ≢ 2 → b ≢ 3 → records_from so_far less (b ∷ rest) ≡ records_from (so_far ++ (b - less) ∷ []) 0 rest
push_own so_far less b rest not_1 not_2 not_3 = grind (arith, nat_tests)

read_coded : (so_far bytes rest : List ℕ) → records_from so_far 0 (coded bytes ++ 1 ∷ rest) ≡ (so_far ++ bytes) ∷ records_from [] 0 rest
read_coded so_far [] rest = ap (λ (l : List ℕ). l ∷ records_from [] 0 rest) (sym (append-nil so_far))
read_coded so_far (b ∷ bytes) rest =
    let ended = read_coded (so_far ++ b ∷ []) bytes rest ∙ ap (λ (l : List ℕ). l ∷ records_from [] 0 rest) (append_assoc so_far (b ∷ []) bytes) in
    let same : b - 0 ≡ b = omega arith in
    elim (cases_lt b 4) [
      | inl lt ↦
          let back : b + 4 - 4 ≡ b = omega arith in
          ap (λ (l : List ℕ). records_from so_far 0 (l ++ 1 ∷ rest)) (small b bytes lt)
          ∙ push_own so_far 4 (b + 4) (coded bytes ++ 1 ∷ rest) (omega arith) (omega arith) (omega arith)
          ∙ ap (λ (x : ℕ). records_from (so_far ++ x ∷ []) 0 (coded bytes ++ 1 ∷ rest)) back
          ∙ ended
      | inr le ↦
          ap (λ (l : List ℕ). records_from so_far 0 (l ++ 1 ∷ rest)) (large b bytes le)
          ∙ push_own so_far 0 b (coded bytes ++ 1 ∷ rest) (omega arith) (omega arith) (omega arith)
          ∙ ap (λ (x : ℕ). records_from (so_far ++ x ∷ []) 0 (coded bytes ++ 1 ∷ rest)) same
          ∙ ended
    ]

-- a batch is read as it was written
pub read_lines : (batch : List (List ℕ)) → records_from [] 0 (frame batch) ≡ batch
read_lines [] = refl
read_lines (bytes ∷ batch) =
    ap (λ (l : List ℕ). records_from [] 0 l) (append_assoc (coded bytes) (1 ∷ coded_records batch) (2 ∷ []))
    ∙ read_coded [] bytes (coded_records batch ++ 2 ∷ [])
    ∙ ap (λ (l : List (List ℕ)). bytes ∷ l) (read_lines batch)
