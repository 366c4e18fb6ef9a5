-- The field at a place.
use Rattle.std.proofs.Common.{◌≡◌, ℕ, zero, suc, List, [], ◌∷◌, Some, None, refl, slice_index_or}
use Rattle.csv.specs.Records.{field_at}

pub field_some : (fs : List (List ℕ)) (i : ℕ) (a : List ℕ) → Some a ≡ field_at fs i → a ≡ slice_index_or fs i []
unfolding field_at
field_some [] i a e = cc
field_some (f ∷ fs) zero a e = cc
field_some (f ∷ fs) (suc i) a e = field_some fs i a e

pub field_none : (fs : List (List ℕ)) (i : ℕ) → None ≡ field_at fs i → slice_index_or fs i [] ≡ []
unfolding field_at
field_none [] i e = refl
field_none (f ∷ fs) zero e = cc
field_none (f ∷ fs) (suc i) e = field_none fs i e
