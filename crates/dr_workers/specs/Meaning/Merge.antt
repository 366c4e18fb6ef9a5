-- Lists that are merged into one.
use Rattle.std.specs.Prelude.{◌≡◌, ℕ, ◌<◌, ◌==◌, List, [], length, filter, slice_get, slice_index_or}
use Rattle.std.specs.List.{range_with_len, filter_map}

-- the events of a list at the places of one part, in rising place
abbrev pub at_part : {E : Type 0} → List E → (ℕ → ℕ) → ℕ → List E
at_part m part i = filter_map (slice_get m) (filter (λ s. part s == i) (range_with_len 0 (length m)))

-- the places of a list are parted into as many sets as there are lists, and each of these is the list's events at its set
pub record IsMerge {E : Type 0} (lists : List (List E)) (m : List E) : Type 0 where
  pub part : ℕ → ℕ
  pub within : (s : ℕ) → s < length m → part s < length lists
  pub each : (i : ℕ) → i < length lists → slice_index_or lists i [] ≡ at_part m part i
