-- What a crash leaves while a file is opened.
use Rattle.std.proofs.Common.{◌≡◌, ◌≤◌, ◌<◌, ◌+◌, ◌-◌, ℕ, List, [], ◌∷◌, ◌++◌, length, drop, refl, sym, ◌∙◌, ap, subst, arith, length-append, append_assoc}
use Rattle.std.specs.Prelude.{replicate}
use Rattle.std.proofs.lemmas.List.{length-drop}
use Rattle.std.proofs.Math.Seq.{drop-append_seam}
use Rattle.dr_journal.specs.Meaning.Disk.{Mixed, Grown, Follows, Only, written}
use Rattle.dr_journal.specs.Meaning.Format.{header, IsJournal, IsNew, behind_header, whole_length, whole_batches, recovered}
use Rattle.dr_journal.specs.Calls.Journals.{StandsFor}
use Rattle.dr_journal.specs.Calls.Opening.{StandsForTheSame}
use Rattle.dr_journal.proofs.Codes.{IsWhole, within, whole_kept}
use Rattle.dr_journal.proofs.Headers.{length-header, lift_written, lift_mixed, stands, split_journal}
use Rattle.dr_journal.proofs.Batches.{one_byte, closed, is_cleared, cleared}

module _ (file : List ℕ) (old : List ℕ → Type 0) (journal : IsJournal file) (only : Only file old) where
  abbrev body : List ℕ
  body = behind_header file

  is : file ≡ header ++ body
  is = split_journal file journal

  pub as_it_is : (c : List ℕ) → old c → StandsFor (recovered file) c
  as_it_is c left = stands body (recovered file) c (only c left ∙ is) refl

  module _ (full : length file ≡ 8 + whole_length body) where
    whole : IsWhole body
    whole = omega (arith, full, length-drop 8 file)

    pub close_crash : (new : List ℕ → Type 0) (n : ℕ) → n ≡ 1 → Follows (Grown n) old new → (c : List ℕ) → new c → StandsFor (recovered file) c
    close_crash new n one follows c left =
        let from = follows c left in
        let grows = subst (λ f. Grown n f c) (only from.0 from.1 ∙ is) from.2 in
        stands (body ++ grows.0) (recovered file) c grows.2 (closed body grows.0 whole (omega (arith, grows.1, one)))

    pub file_closed : file ++ replicate 1 0 ≡ header ++ (whole_batches body ++ replicate 1 0)
    file_closed = ap (λ (l : List ℕ). l ++ replicate 1 0) is ∙ ap (λ (l : List ℕ). header ++ (l ++ replicate 1 0)) (sym (whole_kept body whole))

  module _ (end : ℕ) (n : ℕ) (ends : end ≡ 8 + whole_length body) (size : n ≡ length file - end) where
    behind : n ≡ length body - whole_length body
    behind = omega (arith, size, ends, length-drop 8 file)

    pub clear_crash : (new : List ℕ → Type 0) (zeros : List ℕ) → zeros ≡ replicate n 0 → Follows (Mixed end zeros) old new → (c : List ℕ) → new c → StandsFor (recovered file) c
    clear_crash new zeros are follows c left =
        let from = follows c left in
        let mix = subst (λ f. Mixed end zeros f c) (only from.0 from.1 ∙ is) from.2 in
        let m = lift_mixed end (whole_length body) zeros body c ends mix in
        stands m.0 (recovered file) c m.1 (cleared body n behind m.0 (subst (λ z. Mixed (whole_length body) z body m.0) are m.2))

    pub file_cleared : (zeros : List ℕ) → zeros ≡ replicate n 0 → written end zeros file ≡ header ++ (whole_batches body ++ replicate n 0)
    file_cleared zeros are =
        ap (λ (z : List ℕ). written end z file) are
        ∙ ap (λ (f : List ℕ). written end (replicate n 0) f) is
        ∙ lift_written end (whole_length body) (replicate n 0) body ends
        ∙ ap (λ (l : List ℕ). header ++ l) (is_cleared body n behind)

-- the batches end within the file
pub ends_within : (file : List ℕ) → IsJournal file → 8 + whole_length (behind_header file) ≤ length file
ends_within file journal =
    omega (arith, within (behind_header file), length-drop 8 file, ap length journal.1, length-header journal.0)

-- a journal that stands for the same is what is asked of an opening
pub the_same : (file c : List ℕ) → IsJournal file → StandsFor (recovered file) c → StandsForTheSame file c
the_same file c journal s = record {
  records = s.1;
  journal = λ j. s.0;
  fresh = λ n. absurd (no_both file journal n);
}
  where
    no_both : (file : List ℕ) → IsJournal file → IsNew file → ⊥
    no_both file journal fresh =
        let size = ap length journal.1 ∙ length-header journal.0 in
        let eight : 8 ≡ length (file ++ fresh.0) = ap length fresh.2 in
        omega (arith, size, eight, length-append file fresh.0, fresh.1)

module _ (file : List ℕ) (fresh : IsNew file) where
  pub short : length file < 8
  short =
      let eight : 8 ≡ length (file ++ fresh.0) = ap length fresh.2 in
      omega (arith, eight, length-append file fresh.0, fresh.1)

  pub nothing : (c : List ℕ) → length c ≤ 9 → recovered c ≡ []
  nothing c le = one_byte (behind_header c) (omega (arith, length-drop 8 c, le))

  no_journal : IsJournal file → ⊥
  no_journal journal = omega (arith, short, ap length journal.1, length-header journal.0)

  -- what is short stands for nothing
  pub short_stands : (c : List ℕ) → length c ≤ 9 → StandsForTheSame file c
  short_stands c le = record {
    records = nothing c le ∙ sym (nothing file (omega (arith, short)));
    journal = λ j. absurd (no_journal j);
    fresh = λ n. le;
  }

  pub still_new : (old : List ℕ → Type 0) → Only file old → (c : List ℕ) → old c → StandsForTheSame file c
  still_new old only c left = short_stands c (omega (arith, ap length (only c left), short))

  -- the header and a zero
  module _ (rest : List ℕ) (is : rest ≡ drop (length file) header ++ 0 ∷ []) where
    pub begun : file ++ rest ≡ header ++ 0 ∷ []
    begun =
        ap (λ (l : List ℕ). file ++ l) is
        ∙ ap (λ (h : List ℕ). file ++ (drop (length file) h ++ 0 ∷ [])) fresh.2
        ∙ ap (λ (l : List ℕ). file ++ (l ++ 0 ∷ [])) (drop-append_seam file fresh.0)
        ∙ sym (append_assoc file fresh.0 (0 ∷ []))
        ∙ ap (λ (h : List ℕ). h ++ 0 ∷ []) (sym fresh.2)

    size : length rest + length file ≡ 9
    size =
        let nine : length (file ++ rest) ≡ 9 = ap length begun in
        omega (arith, nine, length-append file rest)

    pub begin_crash : (old new : List ℕ → Type 0) → Only file old → Follows (Grown (length rest)) old new → (c : List ℕ) → new c → StandsForTheSame file c
    begin_crash old new only follows c left =
        let from = follows c left in
        let grows = subst (λ f. Grown (length rest) f c) (only from.0 from.1) from.2 in
        short_stands c (omega (arith, size, ap length grows.2, length-append file grows.0, grows.1))

-- a file that is as it was
pub unchanged : (file c : List ℕ) → c ≡ file → StandsForTheSame file c
unchanged file c is = record {
  records = ap recovered is;
  journal = λ j. subst IsJournal (sym is) j;
  fresh = le;
}
  where
    le : IsNew file → length c ≤ 9
    le n = omega (arith, ap length is, short file n)
