-- What an end takes or gives at once: something for each of many sequences, in one lane or in several.
use Rattle.std.specs.Prelude.{ℕ, ◌+◌, List, [], ◌∷◌, ◌++◌, replicate}

module _ {A X : Type 0} where
  -- what stands for each of the sequences from s on
  abbrev pub stretch : (ℕ → A → X) → ℕ → List A → List X
  stretch place s [] = []
  stretch place s (a ∷ xs) = place s a ∷ stretch place (s + 1) xs

  -- the same in the first n lanes, a sequence after another
  abbrev pub rows : (ℕ → ℕ → A → X) → ℕ → ℕ → List A → List X
  rows place n s [] = []
  rows place n s (a ∷ xs) = stretch (λ h b. place h s b) 0 (replicate n a) ++ rows place n (s + 1) xs
