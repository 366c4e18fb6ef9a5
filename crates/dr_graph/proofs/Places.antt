-- Places of names in a list of them.
use Rattle.std.proofs.Common.{◌≡◌, ℕ, ◌+◌, ◌<◌, ◌≤◌, inl, inr, List, [], ◌∷◌, Bool, true, refl, sym, ◌∙◌, ap, map, Some, None, arith, length}
use Rattle.std.proofs.lemmas.Bool.{false≢true, cases_Bool, or_cases, ltb-false}
use Rattle.std.proofs.lemmas.List.{length-map}
use Rattle.std.specs.Prelude.{position, nat_lt, not, cond, unwrap_or}
use Rattle.std.specs.List.{position_or_len}
use Rattle.std.specs.Str.{bytes_eq}
use Rattle.dr_graph.specs.Meaning.Name.{Name, is_named, index_of}

-- a place stays where the names are those of other values
place_map : {X : Type 0} (f : X → Name) (n : Name) (xs : List X) → index_of (map f xs) n ≡ position_or_len (λ x. bytes_eq n (f x)) xs
place_map f n [] = refl
place_map f n (x ∷ xs) = ap (λ (k : ℕ). cond (not (bytes_eq n (f x))) (1 + k) 0) (place_map f n xs)

place_within : {X : Type 0} (p : X → Bool) (xs : List X) → position_or_len p xs ≤ length xs
place_within p [] = omega arith
place_within p (x ∷ xs) =
    let rest : position_or_len p xs ≤ length xs = place_within p xs in
    elim (cases_Bool (p x)) [
      | inl here ↦ (let zero : position_or_len p (x ∷ xs) ≡ 0 = ap (λ b. cond (not b) (1 + position_or_len p xs) 0) here in omega arith)
      | inr later ↦ (let more : position_or_len p (x ∷ xs) ≡ 1 + position_or_len p xs = ap (λ b. cond (not b) (1 + position_or_len p xs) 0) later in omega arith)
    ]

-- what a look-up finds, or else the length, is the place
pub place_found : {X : Type 0} (f : X → Name) (n : Name) (xs : List X) → unwrap_or (position (λ x. bytes_eq n (f x)) xs) (length xs) ≡ index_of (map f xs) n
place_found f n xs =
    let k : ℕ = position_or_len (λ x. bytes_eq n (f x)) xs in
    elim (cases_Bool (nat_lt k (length xs))) [
      | inl inside ↦ ap (λ b. unwrap_or (cond b (Some k) None) (length xs)) inside ∙ sym (place_map f n xs)
      | inr past ↦ (
          let at : length xs ≡ k =
          (let a : length xs ≤ k = ltb-false k (length xs) past in let b : k ≤ length xs = place_within (λ x. bytes_eq n (f x)) xs in omega arith) in
          ap (λ b. unwrap_or (cond b (Some k) None) (length xs)) past ∙ at ∙ sym (place_map f n xs))
    ]

-- a name that is named has a place
pub place_named : (names : List Name) (n : Name) → is_named names n ≡ true → index_of names n < length names
place_named [] n known = absurd (false≢true known)
place_named (m ∷ names) n known =
    elim (cases_Bool (bytes_eq n m)) [
      | inl here ↦ (let zero : index_of (m ∷ names) n ≡ 0 = ap (λ b. cond (not b) (1 + index_of names n) 0) here in omega arith)
      | inr later ↦ (
          let rest : index_of names n < length names =
          place_named names n (elim (or_cases (bytes_eq n m) (is_named names n) known) [ inl first ↦ absurd (false≢true (sym later ∙ first)) | inr there ↦ there ]) in
          let more : index_of (m ∷ names) n ≡ 1 + index_of names n = ap (λ b. cond (not b) (1 + index_of names n) 0) later in
          omega arith)
    ]

-- what a look-up finds stays where the names are those of other values
pub position_map : {X : Type 0} (f : X → Name) (n : Name) (xs : List X) → position (bytes_eq n) (map f xs) ≡ position (λ x. bytes_eq n (f x)) xs
position_map f n xs =
    ap (λ (k : ℕ). cond (nat_lt k (length (map f xs))) (Some k) None) (place_map f n xs)
    ∙ ap (λ (l : ℕ). cond (nat_lt (position_or_len (λ x. bytes_eq n (f x)) xs) l) (Some (position_or_len (λ x. bytes_eq n (f x)) xs)) None) (length-map xs f)
