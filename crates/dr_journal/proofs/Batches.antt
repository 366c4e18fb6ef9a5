-- What a crash leaves behind a header: while room is made, while a batch is written, and while what is torn is zeroed.
use Rattle.std.proofs.Common.{◌≡◌, ◌<◌, ◌≤◌, ◌+◌, ◌-◌, ◌⊎◌, inl, inr, ℕ, List, [], ◌∷◌, ◌++◌, length, take, drop, refl, sym, ◌∙◌, ap, subst, arith, append_assoc, length-append, take-append-drop}
use Rattle.std.specs.Prelude.{replicate}
use Rattle.std.proofs.lemmas.List.{append-nil, length-replicate, length-drop, replicate-append-replicate}
use Rattle.std.proofs.lemmas.Bool.{cases_eq}
use Rattle.dr_journal.specs.Meaning.Disk.{IsMix, Mixed, written}
use Rattle.dr_journal.specs.Meaning.Format.{whole_length, whole_batches, records_from, records_in, coded_records, frame}
use Rattle.dr_journal.proofs.Codes.{IsWhole, is_whole, length-kept, after_kept, nothing_more, nothing_recovered, kept_append, kept_behind, recovered_append, recovered_whole, records_append, whole_kept}
use Rattle.dr_journal.proofs.Frames.{clean_lines, whole_frame, read_lines}
use Rattle.dr_journal.proofs.Mixes.{mix_front, holed, zeroed, zeros_first, zeros_none, written_behind}

-- whole batches and zeros have these whole batches
pub kept_is : (k : List ℕ) (n : ℕ) → IsWhole k → whole_batches (k ++ replicate n 0) ≡ k
kept_is k n whole = kept_behind k (replicate n 0) whole ∙ ap (λ (l : List ℕ). k ++ l) (ap (λ (m : ℕ). take m (replicate n 0)) (zeros_none n)) ∙ append-nil k

module _ (body : List ℕ) (n : ℕ) (is : body ≡ whole_batches body ++ replicate n 0) where
  -- bytes past the end add nothing
  pub grown : (tail : List ℕ) → 0 < n → records_in (body ++ tail) ≡ records_in body
  grown tail some =
      ap (λ (l : List ℕ). records_in (l ++ tail)) is
      ∙ ap records_in (append_assoc (whole_batches body) (replicate n 0) tail)
      ∙ recovered_whole (whole_batches body) (replicate n 0 ++ tail) (is_whole body) (zeros_first n tail some)

  pub extended : (m : ℕ) → body ++ replicate m 0 ≡ whole_batches body ++ replicate (n + m) 0
  extended m = ap (λ (l : List ℕ). l ++ replicate m 0) is ∙ append_assoc (whole_batches body) (replicate n 0) (replicate m 0) ∙ ap (λ (l : List ℕ). whole_batches body ++ l) (replicate-append-replicate n m 0)

  module _ (batch : List (List ℕ)) (spare : ℕ) (fits : n ≡ length (frame batch) + spare) where
    abbrev pub after_write : List ℕ
    after_write = whole_batches body ++ (frame batch ++ replicate spare 0)

    apart : body ≡ whole_batches body ++ (replicate (length (frame batch)) 0 ++ replicate spare 0)
    apart = is ∙ ap (λ (m : ℕ). whole_batches body ++ replicate m 0) fits ∙ ap (λ (l : List ℕ). whole_batches body ++ l) (sym (replicate-append-replicate (length (frame batch)) spare 0))

    pub is_written : written (whole_length body) (frame batch) body ≡ after_write
    is_written =
        ap (λ (f : List ℕ). written (whole_length body) (frame batch) f) apart
        ∙ written_behind (whole_batches body) (frame batch) (replicate (length (frame batch)) 0) (replicate spare 0) (whole_length body) (sym (length-kept body)) (length-replicate {A = ℕ} (length (frame batch)) 0)

    with_batch : records_in after_write ≡ records_in body ++ batch
    with_batch =
        recovered_append (whole_batches body) (frame batch ++ replicate spare 0) (is_whole body)
        ∙ ap (λ (l : List (List ℕ)). records_in body ++ l) (recovered_whole (frame batch) (replicate spare 0) (whole_frame batch) (zeros_none spare) ∙ read_lines batch)

    -- a batch that is cut short adds nothing, or is there whole
    pub mixed : (c : List ℕ) → Mixed (whole_length body) (frame batch) body c → (records_in c ≡ records_in body) ⊎ (records_in c ≡ records_in body ++ batch)
    mixed c mix =
        let over : after_write ≡ whole_batches body ++ (coded_records batch ++ 2 ∷ replicate spare 0) = ap (λ (l : List ℕ). whole_batches body ++ l) (append_assoc (coded_records batch) (2 ∷ []) (replicate spare 0)) in
        let here = subst (λ f. IsMix f (written (whole_length body) (frame batch) body) c) is mix in
        let there = subst (λ f. IsMix (whole_batches body ++ replicate n 0) f c) (is_written ∙ over) here in
        let m = mix_front (whole_batches body) (replicate n 0) (coded_records batch ++ 2 ∷ replicate spare 0) c there in
        let size : n ≡ length (coded_records batch) + 1 + spare = omega (arith, fits, length-append (coded_records batch) (2 ∷ [])) in
        elim (holed (coded_records batch) n spare m.0 (clean_lines batch) size m.2) [
          | inl none ↦ inl (ap records_in m.1 ∙ recovered_whole (whole_batches body) m.0 (is_whole body) none)
          | inr whole ↦ inr (ap records_in (m.1 ∙ ap (λ (l : List ℕ). whole_batches body ++ l) whole ∙ sym over) ∙ with_batch)
        ]

    pub whole_with_batch : IsWhole (whole_batches body ++ frame batch)
    whole_with_batch = omega (arith, kept_append (whole_batches body) (frame batch) (is_whole body), whole_frame batch, length-append (whole_batches body) (frame batch))

    pub records_with_batch : records_from [] 0 (whole_batches body ++ frame batch) ≡ records_in body ++ batch
    records_with_batch = records_append (whole_batches body) (frame batch) (is_whole body) ∙ ap (λ (l : List (List ℕ)). records_in body ++ l) (read_lines batch)

-- one byte stands for nothing
pub one_byte : (tail : List ℕ) → length tail ≤ 1 → records_in tail ≡ []
one_byte [] le = refl
one_byte (x ∷ y ∷ tail) le = absurd (omega arith)
one_byte (x ∷ []) le = elim (cases_eq x 2) [
  | inl is ↦ ap (λ (b : ℕ). records_in (b ∷ [])) is
  | inr other ↦ nothing_recovered (x ∷ []) (nothing_more x [] other refl)
]

-- nor does it behind whole batches
pub closed : (body tail : List ℕ) → IsWhole body → length tail ≤ 1 → records_in (body ++ tail) ≡ records_in body
closed body tail whole le =
    recovered_append body tail whole
    ∙ ap (λ (l : List (List ℕ)). records_from [] 0 body ++ l) (one_byte tail le)
    ∙ append-nil (records_from [] 0 body)
    ∙ ap (λ (l : List ℕ). records_from [] 0 l) (sym (whole_kept body whole))

module _ (body : List ℕ) (n : ℕ) (is : n ≡ length body - whole_length body) where
  abbrev rest : List ℕ
  rest = drop (whole_length body) body

  size : length rest ≡ n
  size = omega (arith, is, length-drop (whole_length body) body)

  split : body ≡ whole_batches body ++ (rest ++ [])
  split = sym (take-append-drop (whole_length body) body) ∙ ap (λ (l : List ℕ). whole_batches body ++ l) (sym (append-nil rest))

  pub is_cleared : written (whole_length body) (replicate n 0) body ≡ whole_batches body ++ replicate n 0
  is_cleared =
      ap (λ (f : List ℕ). written (whole_length body) (replicate n 0) f) split
      ∙ written_behind (whole_batches body) (replicate n 0) rest [] (whole_length body) (sym (length-kept body)) (size ∙ sym (length-replicate {A = ℕ} n 0))
      ∙ ap (λ (l : List ℕ). whole_batches body ++ l) (append-nil (replicate n 0))

  -- zeros over what stands for nothing change no record, however they are cut short
  pub cleared : (c : List ℕ) → Mixed (whole_length body) (replicate n 0) body c → records_in c ≡ records_in body
  cleared c mix =
      let here = subst (λ f. IsMix f (written (whole_length body) (replicate n 0) body) c) (sym (take-append-drop (whole_length body) body)) mix in
      let there = subst (λ f. IsMix (whole_batches body ++ rest) f c) is_cleared here in
      let m = mix_front (whole_batches body) rest (replicate n 0) c there in
      let zeros = subst (λ (k : ℕ). IsMix rest (replicate k 0) m.0) (sym size) m.2 in
      ap records_in m.1 ∙ recovered_whole (whole_batches body) m.0 (is_whole body) (zeroed rest m.0 (after_kept body) zeros)
