-- Steps that take or give many slots at once.
use Rattle.std.proofs.Common.{◌≡◌, ◌≢◌, ◌⊎◌, ℕ, zero, suc, ◌<◌, inl, inr, List, [], ◌∷◌, ◌++◌, length, set, refl, sym, ap, ◌∙◌, subst, arith, length-set}
use mathlib.Core.Option.{Option, some, none, some-injective, some-ne-none}
use lib.ListN.{get_elem?}
use Rattle.atomic_table.specs.Table.{Act, keeps, takes, gives, chain, carried_after, homes_after, Valid}
use Rattle.atomic_table.proofs.Lists.{set_here, set_else}

-- an element of two lists is one of the first or one of the second
pub at_either : {X : Type 0} (xs ys : List X) (i : ℕ) (y : X) → get_elem? (xs ++ ys) i ≡ some y
    → ((j : ℕ) × (get_elem? xs j ≡ some y)) ⊎ ((j : ℕ) × (get_elem? ys j ≡ some y))
at_either [] ys i y at = inr (i, at)
at_either (x ∷ xs) ys zero y at = inl (0, at)
at_either (x ∷ xs) ys (suc i) y at = elim (at_either xs ys i y at) [ inl t ↦ inl (suc t.0, t.1) | inr t ↦ inr t ]

module _ {C : Type 0} where
  -- some slots, each with what lies in it, are taken one after another, from the last on
  abbrev pub take_all : List (ℕ × C) → Act C
  take_all [] = keeps
  take_all (x ∷ xs) = chain (take_all xs) (takes x.0 x.1)

  -- as many as these are given, from the first in hand on
  abbrev pub give_all : List (ℕ × C) → Act C
  give_all [] = keeps
  give_all (x ∷ xs) = chain gives (give_all xs)

  -- what lies at home once these are taken, and once these are given
  abbrev pub emptied : List (Option C) → List (ℕ × C) → List (Option C)
  emptied hs [] = hs
  emptied hs (x ∷ xs) = set (emptied hs xs) x.0 none

  abbrev pub filled : List (Option C) → List (ℕ × C) → List (Option C)
  filled hs [] = hs
  filled hs (x ∷ xs) = filled (set hs x.0 (some x.1)) xs

  -- a slot is none of these
  abbrev pub Lacks : List (ℕ × C) → ℕ → Type 0
  Lacks xs k = (i : ℕ) (x : ℕ × C) → get_elem? xs i ≡ some x → x.0 ≢ k

  -- no slot stands here twice
  abbrev pub Apart : List (ℕ × C) → Type 0
  Apart [] = Unit {0}
  Apart (x ∷ xs) = Lacks xs x.0 × Apart xs

  -- each lies at home
  abbrev pub AreHome : List (Option C) → List (ℕ × C) → Type 0
  AreHome hs xs = (i : ℕ) (x : ℕ × C) → get_elem? xs i ≡ some x → get_elem? hs x.0 ≡ some (some x.1)

  pub take_carried : (c xs : List (ℕ × C)) → carried_after c (take_all xs) ≡ xs ++ c
  take_carried c [] = refl
  take_carried c (x ∷ xs) = ap (λ (ys : List (ℕ × C)). x ∷ ys) (take_carried c xs)

  pub take_homes : (hs : List (Option C)) (c xs : List (ℕ × C)) → homes_after hs c (take_all xs) ≡ emptied hs xs
  take_homes hs c [] = refl
  take_homes hs c (x ∷ xs) = ap (λ (ys : List (Option C)). set ys x.0 none) (take_homes hs c xs)

  pub give_carried : (c xs : List (ℕ × C)) → carried_after (xs ++ c) (give_all xs) ≡ c
  give_carried c [] = refl
  give_carried c (x ∷ xs) = give_carried c xs

  pub give_homes : (hs : List (Option C)) (c xs : List (ℕ × C)) → homes_after hs (xs ++ c) (give_all xs) ≡ filled hs xs
  give_homes hs c [] = refl
  give_homes hs c (x ∷ xs) = give_homes (set hs x.0 (some x.1)) c xs

  pub give_valid : (hs : List (Option C)) (c xs : List (ℕ × C)) → Valid hs c (give_all xs)
  give_valid hs c [] = tt
  give_valid hs c (x ∷ xs) = (tt, give_valid (homes_after hs c gives) (carried_after c gives) xs)

  pub emptied_else : (hs : List (Option C)) (xs : List (ℕ × C)) (k : ℕ) → Lacks xs k → get_elem? (emptied hs xs) k ≡ get_elem? hs k
  emptied_else hs [] k lacks = refl
  emptied_else hs (x ∷ xs) k lacks =
      set_else (emptied hs xs) x.0 k none (λ (e : k ≡ x.0). lacks 0 x refl (sym e)) ∙ emptied_else hs xs k (λ i y at. lacks (suc i) y at)

  pub filled_else : (hs : List (Option C)) (xs : List (ℕ × C)) (k : ℕ) → Lacks xs k → get_elem? (filled hs xs) k ≡ get_elem? hs k
  filled_else hs [] k lacks = refl
  filled_else hs (x ∷ xs) k lacks =
      filled_else (set hs x.0 (some x.1)) xs k (λ i y at. lacks (suc i) y at) ∙ set_else hs x.0 k (some x.1) (λ (e : k ≡ x.0). lacks 0 x refl (sym e))

  pub emptied_length : (hs : List (Option C)) (xs : List (ℕ × C)) → length (emptied hs xs) ≡ length hs
  emptied_length hs [] = refl
  emptied_length hs (x ∷ xs) = length-set (emptied hs xs) x.0 none ∙ emptied_length hs xs

  pub filled_length : (hs : List (Option C)) (xs : List (ℕ × C)) → length (filled hs xs) ≡ length hs
  filled_length hs [] = refl
  filled_length hs (x ∷ xs) = filled_length (set hs x.0 (some x.1)) xs ∙ length-set hs x.0 (some x.1)

  pub filled_here : (hs : List (Option C)) (xs : List (ℕ × C)) (i : ℕ) (x : ℕ × C) → Apart xs → get_elem? xs i ≡ some x → x.0 < length hs
      → get_elem? (filled hs xs) x.0 ≡ some (some x.1)
  filled_here hs [] i x apart at lt = absurd (some-ne-none x (sym at))
  filled_here hs (y ∷ ys) zero x apart at lt =
      subst (λ (z : ℕ × C). z.0 < length hs → get_elem? (filled hs (y ∷ ys)) z.0 ≡ some (some z.1)) (some-injective y x at)
      (λ lt. filled_else (set hs y.0 (some y.1)) ys y.0 apart.0 ∙ set_here hs y.0 (some y.1) lt) lt
  filled_here hs (y ∷ ys) (suc i) x apart at lt =
      filled_here (set hs y.0 (some y.1)) ys i x apart.1 at (let e = length-set hs y.0 (some y.1) in omega arith)

  pub take_valid : (hs : List (Option C)) (c xs : List (ℕ × C)) → Apart xs → AreHome hs xs → Valid hs c (take_all xs)
  take_valid hs c [] apart home = tt
  take_valid hs c (x ∷ xs) apart home = (
    take_valid hs c xs apart.1 (λ i y at. home (suc i) y at),
    ap (λ (ys : List (Option C)). get_elem? ys x.0) (take_homes hs c xs) ∙ emptied_else hs xs x.0 apart.0 ∙ home 0 x refl,
  )

  -- no two of them are the same slot
  pub apart_of : (xs : List (ℕ × C)) → ((i j : ℕ) (x y : ℕ × C) → i < j → get_elem? xs i ≡ some x → get_elem? xs j ≡ some y → y.0 ≢ x.0) → Apart xs
  apart_of [] all = tt
  apart_of (x ∷ xs) all = (λ j y at. all 0 (suc j) x y (omega arith) refl at, apart_of xs (λ i j y z lt a b. all (suc i) (suc j) y z (omega arith) a b))

  pub apart_both : (xs ys : List (ℕ × C)) → Apart xs → Apart ys → ((i : ℕ) (x : ℕ × C) → get_elem? xs i ≡ some x → Lacks ys x.0) → Apart (xs ++ ys)
  apart_both [] ys a b lacks = b
  apart_both (x ∷ xs) ys a b lacks = (
    λ i y at. elim (at_either xs ys i y at) [ inl t ↦ a.0 t.0 y t.1 | inr t ↦ lacks 0 x refl t.0 y t.1 ],
    apart_both xs ys a.1 b (λ i y at. lacks (suc i) y at),
  )
