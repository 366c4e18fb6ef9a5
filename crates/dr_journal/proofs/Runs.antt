-- One batch more in a run.
use Rattle.std.proofs.Common.{◌≡◌, ◌<◌, ◌+◌, ◌++◌, inl, inr, ℕ, List, [], ◌∷◌, Vec, length, take, get_or, sym, ◌∙◌, ap, arith, append_assoc}
use Rattle.std.specs.List.{flat_map}
use Rattle.std.specs.declared.alloc.Global.{Global}
use Rattle.std.proofs.lemmas.List.{take_more, append-nil}
use Rattle.std.proofs.lemmas.List.Concat.{flat_map-append}
use Rattle.dr_journal.specs.Calls.Journals.{StandsFor, IsBeforeOrAfter, HasBeginning, batch_of, first_of}

module _ (batches : List (Vec (Vec ℕ Global) Global)) (i : ℕ) (batch : Vec (Vec ℕ Global) Global) (within : i < length batches) (is : batch ≡ get_or batches i batch) where
  one_more : first_of batches (i + 1) ≡ first_of batches i ++ batch_of batch
  one_more =
      ap (λ (l : List (Vec (Vec ℕ Global) Global)). flat_map batch_of l) (take_more batches i batch within)
      ∙ flat_map-append batch_of (take i batches) (get_or batches i batch ∷ [])
      ∙ ap (λ (l : List (List ℕ)). first_of batches i ++ l) (append-nil (batch_of (get_or batches i batch)))
      ∙ ap (λ (b : Vec (Vec ℕ Global) Global). first_of batches i ++ batch_of b) (sym is)

  module _ (records before : List (List ℕ)) (so_far : before ≡ records ++ first_of batches i) where
    pub and_batch : before ++ batch_of batch ≡ records ++ first_of batches (i + 1)
    and_batch =
        ap (λ (l : List (List ℕ)). l ++ batch_of batch) so_far
        ∙ append_assoc records (first_of batches i) (batch_of batch)
        ∙ ap (λ (l : List (List ℕ)). records ++ l) (sym one_more)

    pub stopped : (c : List ℕ) → StandsFor before c → HasBeginning records batches c
    stopped c old = (i, omega (arith, within), (old.0, old.1 ∙ so_far))

    pub begins : (c : List ℕ) → IsBeforeOrAfter before (batch_of batch) c → HasBeginning records batches c
    begins c (inl old) = stopped c old
    begins c (inr new) = (i + 1, omega (arith, within), (new.0, new.1 ∙ and_batch))
