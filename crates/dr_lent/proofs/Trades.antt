-- Parts come to the places of their cells and go from there, one after another.
use Rattle.std.proofs.Common.{◌≡◌, ℕ, ◌+◌, ◌%◌, ◌<◌, ◌≤◌, inl, inr, List, length, set, sym, refl, ap, ◌∙◌, arith, length-set}
use Rattle.std.proofs.lemmas.Bool.{cases_eq}
use mathlib.Core.Option.{some, some-injective}
use lib.ListN.{get_elem?}
use denote.RawPtr.{Ptr}
use Rattle.atomic_table.proofs.Lists.{set_here, set_else}
use Rattle.dr_cells.specs.declared.token.Token.{Token}
use Rattle.dr_seq.proofs.Apart.{slots_differ}
use Rattle.dr_lent.specs.declared.lent.Lent.{Lent}
use Rattle.dr_lent.specs.Trades.{part_in, PartsTaken, SamePlaces, ArePartsBetween}

module _ {T : Type 0} (size first : ℕ) where
  pub places_none : (parts : List (Token T)) → SamePlaces size first first parts parts
  places_none parts = record { count = refl; others = λ i none. refl }

  pub places_more : (s : ℕ) (parts was now : List (Token T)) (t : Token T) → SamePlaces size first s parts was → first ≤ s → now ≡ set was (s % size) t
      → SamePlaces size first (s + 1) parts now
  places_more s parts was now t P low put = let c : ℕ = s % size in record {
    count = ap length put ∙ length-set was c t ∙ P.count;
    others = λ i none. ap (λ (xs : List (Token T)). get_elem? xs i) put ∙ set_else was c i t (λ (e : i ≡ c). none s low (omega arith) (sym e))
        ∙ P.others i (λ q from to. none q from (omega arith));
  }

module _ {T : Type 0} (strip : Ptr) (size : ℕ) (received : List (Lent T)) (first : ℕ) where
  pub parts_none : (parts : List (Token T)) → PartsTaken strip size received first first parts parts
  parts_none parts = record { count = refl; taken = λ s l low high at. absurd (omega arith); others = λ i none. refl }

  pub parts_more : (s : ℕ) (parts was now : List (Token T)) (t : Token T) (l : Lent T) → PartsTaken strip size received first s parts was
      → first ≤ s → s < first + size → length parts ≡ size → s % size < size → get_elem? received s ≡ some l → t ≡ part_in strip size s l
      → now ≡ set was (s % size) t → PartsTaken strip size received first (s + 1) parts now
  parts_more s parts was now t l P low near long inside here token put = let c : ℕ = s % size in let count = P.count in record {
    count = ap length put ∙ length-set was c t ∙ P.count;
    taken = λ q m from to at. ap (λ (xs : List (Token T)). get_elem? xs (q % size)) put ∙ elim (cases_eq q s) [
      | inl e ↦ ap (λ (n : ℕ). get_elem? (set was c t) (n % size)) e ∙ set_here was c t (omega arith) ∙ ap (λ (x : Token T). some x) token
          ∙ ap (λ (x : Lent T). some (part_in strip size s x))
          (some-injective l m (sym here ∙ ap (λ (n : ℕ). get_elem? received n) (sym e) ∙ at))
          ∙ ap (λ (n : ℕ). some (part_in strip size n m)) (sym e)
      | inr ne ↦ set_else was c (q % size) t (slots_differ size q s ne (omega arith) (omega arith)) ∙ P.taken q m from (omega arith) at
    ];
    others = λ i none. ap (λ (xs : List (Token T)). get_elem? xs i) put ∙ set_else was c i t (λ (e : i ≡ c). none s low (omega arith) (sym e))
        ∙ P.others i (λ q from to. none q from (omega arith));
  }

  -- the part of the next event still stands in its place
  pub part_is : (s upto : ℕ) (parts was : List (Token T)) (t : Token T) (l : Lent T) → SamePlaces size first s parts was → first ≤ s → s < upto
      → s < first + size → ArePartsBetween strip size received first upto parts → get_elem? received s ≡ some l → get_elem? was (s % size) ≡ some t
      → t ≡ part_in strip size s l
  part_is s upto parts was t l P low lt near all here at = some-injective t (part_in strip size s l)
      (sym at ∙ P.others (s % size) (λ q from to. slots_differ size q s (λ (e : q ≡ s). omega arith) (omega arith) (omega arith)) ∙ all s l low lt here)
