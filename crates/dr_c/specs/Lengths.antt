-- How many bytes lie in the cells of a ring of bytes.
use Rattle.std.specs.Prelude.{ℕ, ◌==◌, Bool, true, ◌&&◌, Option, None, Some, List, [], ◌∷◌, length}

-- whether each event that lies in a cell has so many
abbrev pub all_have : ℕ → List (Option (List ℕ)) → Bool
all_have n [] = true
all_have n (None ∷ cells) = all_have n cells
all_have n (Some bytes ∷ cells) = (length bytes == n) && all_have n cells
