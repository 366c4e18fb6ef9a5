-- How many slots a ring may have.
use Rattle.std.specs.Prelude.{◌≡◌, ℕ, ◌^◌, ◌≤◌}

-- a power of two, from 1 to 65,536
abbrev pub IsSize : ℕ → Type 0
IsSize n = (exponent : ℕ) × (exponent ≤ 16) × (n ≡ 2 ^ exponent)
