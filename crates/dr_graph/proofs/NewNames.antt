-- Names that a list does not have yet.
use Rattle.std.proofs.Common.{
  ◌≡◌,
  ℕ,
  suc,
  ◌-◌,
  ◌<◌,
  inl,
  inr,
  List,
  [],
  ◌∷◌,
  ◌++◌,
  true,
  false,
  refl,
  sym,
  ◌∙◌,
  ap,
  subst,
  arith,
  length,
  append_assoc,
  append-nil,
  length-append,
  None,
}
use Rattle.std.proofs.lemmas.Bool.{false≢true, cases_Bool, cond-true, cond-false, or_parts, or_cases}
use Rattle.std.proofs.lemmas.List.{get_or_append_left, get_or-append_right}
use Rattle.std.proofs.lemmas.List.Folds.{list_any-append, list_any_at}
use Rattle.std.proofs.lemmas.List.Quantifiers.{all_pairs_push}
use Rattle.std.proofs.lemmas.Slice.Eq.{bytes_eq-Decides}
use Rattle.std.specs.Prelude.{◌≢◌, ◌||◌, slice_index_or}
use Rattle.std.specs.Str.{bytes_eq}
use Rattle.dr_graph.specs.Meaning.Name.{Name, is_named, AreDistinct, new_names}
use Rattle.dr_graph.specs.Meaning.Declaration.{name_faults}
use Rattle.dr_graph.proofs.Naming.{free_next}

same_name : (m n : Name) → bytes_eq m n ≡ true → m ≡ n
same_name m n same = (bytes_eq-Decides m n).0 same

-- whether one more name is named
named_push : (names : List Name) (more n : Name) → is_named (names ++ more ∷ []) n ≡ (is_named names n || (bytes_eq n more || false))
named_push names more n = list_any-append (bytes_eq n) names (more ∷ [])

pub new_skips : (names : List Name) (more : Name) (rest : List Name) → is_named names more ≡ true → new_names names (more ∷ rest) ≡ new_names names rest
unfolding new_names
new_skips names more rest known = cond-true (is_named names more) (new_names names rest) (more ∷ new_names (names ++ more ∷ []) rest) known

pub new_grows : (names : List Name) (more : Name) (rest : List Name) → is_named names more ≡ false
    → new_names names (more ∷ rest) ≡ more ∷ new_names (names ++ more ∷ []) rest
unfolding new_names
new_grows names more rest new = cond-false (is_named names more) (new_names names rest) (more ∷ new_names (names ++ more ∷ []) rest) new

pub new_none : (names : List Name) → new_names names [] ≡ []
unfolding new_names
new_none names = refl

-- what is named is found at a place
named_at : (names : List Name) (n : Name) → is_named names n ≡ true → (i : ℕ) × (i < length names) × ((d : Name) → slice_index_or names i d ≡ n)
named_at [] n named = absurd (false≢true named)
named_at (m ∷ names) n named =
    elim (or_cases (bytes_eq n m) (is_named names n) named) [
      | inl here ↦ (0, omega arith, λ d. sym (same_name n m here))
      | inr later ↦ (let at : (i : ℕ) × (i < length names) × ((d : Name) → slice_index_or names i d ≡ n) = named_at names n later in (suc at.0, omega (arith, at.1), at.2))
    ]

other_at : (names : List Name) (n : Name) → is_named names n ≡ false → (k : ℕ) (d : Name) → k < length names → slice_index_or names k d ≢ n
other_at names n new k d lt same = false≢true (sym new ∙ list_any_at (bytes_eq n) names k d lt ((bytes_eq-Decides n (slice_index_or names k d)).1 (sym same)))

-- names stay distinct when new ones are added
pub distinct_new : (names more : List Name) → AreDistinct names → AreDistinct (names ++ new_names names more)
distinct_new names [] old = subst (λ (ns : List Name). AreDistinct ns) (sym (ap (λ (ns : List Name). names ++ ns) (new_none names) ∙ append-nil names)) old
distinct_new names (m ∷ more) old =
    elim (cases_Bool (is_named names m)) [
      | inl known ↦ subst (λ (ns : List Name). AreDistinct (names ++ ns)) (sym (new_skips names m more known)) (distinct_new names more old)
      | inr new ↦ subst (λ (ns : List Name). AreDistinct ns)
          (sym (ap (λ (ns : List Name). names ++ ns) (new_grows names m more new) ∙ sym (append_assoc names (m ∷ []) (new_names (names ++ m ∷ []) more))))
          (distinct_new (names ++ m ∷ []) more (all_pairs_push (λ a b. a ≢ b) names m old (other_at names m new)))
    ]

-- names without fault are all new, to any list that has no more than those that they were tested against
pub new_all : (declared names more : List Name) → ((n : Name) → is_named declared n ≡ false → is_named names n ≡ false)
    → name_faults declared more ≡ None → new_names names more ≡ more
new_all declared names [] fewer free = new_none names
new_all declared names (m ∷ more) fewer free =
    let next : (is_named declared m ≡ false) × (name_faults (declared ++ m ∷ []) more ≡ None) = free_next declared m more free in
    new_grows names m more (fewer m next.0)
    ∙ ap (λ (ns : List Name). m ∷ ns) (new_all (declared ++ m ∷ []) (names ++ m ∷ []) more (λ n none. (
    let parts : (is_named declared n ≡ false) × ((bytes_eq n m || false) ≡ false) =
    or_parts (is_named declared n) (bytes_eq n m || false) (sym (named_push declared m n) ∙ none) in
    named_push names m n ∙ ap (λ b. b || (bytes_eq n m || false)) (fewer n parts.0) ∙ parts.1)) next.1)

-- distinct names are all new
pub new_distinct : (names more : List Name) → AreDistinct (names ++ more) → new_names names more ≡ more
new_distinct names [] old = new_none names
new_distinct names (m ∷ more) old =
    elim (cases_Bool (is_named names m)) [
      | inl known ↦ (
          let at : (i : ℕ) × (i < length names) × ((d : Name) → slice_index_or names i d ≡ m) = named_at names m known in
          let left : slice_index_or (names ++ m ∷ more) at.0 [] ≡ m = get_or_append_left names (m ∷ more) [] at.0 at.1 ∙ at.2 [] in
          let right : slice_index_or (names ++ m ∷ more) (length names) [] ≡ m =
          get_or-append_right names (m ∷ more) (length names) (length names) [] refl (omega arith)
          ∙ ap (λ (k : ℕ). slice_index_or (m ∷ more) k []) (let none : length names - length names ≡ 0 = omega arith in none) in
          absurd (old at.0 (length names) [] at.1 (omega (arith, length-append names (m ∷ more))) (left ∙ sym right)))
      | inr new ↦ new_grows names m more new
          ∙ ap (λ (ns : List Name). m ∷ ns) (new_distinct (names ++ m ∷ []) more (subst (λ (ns : List Name). AreDistinct ns) (sym (append_assoc names (m ∷ []) more)) old))
    ]

-- some names make a group that is not empty
pub new_some : (names : List Name) → 0 < length names → 0 < length (new_names [] names)
new_some [] some = absurd (omega arith)
new_some (n ∷ names) some = subst (λ (ns : List Name). 0 < length ns) (sym (new_grows [] n names refl)) (omega arith)
