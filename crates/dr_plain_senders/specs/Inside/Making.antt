-- How a ring's slots begin.
use Rattle.std.specs.Prelude.{◌≡◌, ℕ, ◌<◌, ◌≤◌, List, length}
use mathlib.Core.Option.{some}
use lib.ListN.{get_elem?}
use denote.RawPtr.{Ptr}
use Rattle.dr_cells.specs.declared.token.Token.{Token}
use Rattle.dr_cells.specs.Hold.{whole}
use Rattle.dr_cells.specs.Tokens.{token_at, no_token}
use Rattle.dr_plain_senders.specs.Meaning.Shape.{Shape}
use Rattle.dr_plain_senders.specs.Meaning.Words.{slots_of}

-- the keeping lane has every cell of the strip whole, with what the ring begins with, and the handlers' lanes have nothing
pub record AreFirst {T : Type 0} (k : Shape T) (tokens : List (Token T)) : Type 0 where
  pub count : length tokens ≡ slots_of k
  pub kept : (i : ℕ) → i < k.size → (x : T) × (get_elem? tokens i ≡ some (token_at k.strip i (whole x))) × (get_elem? k.begun i ≡ some x)
  pub parts : (i : ℕ) → k.size ≤ i → i < slots_of k → get_elem? tokens i ≡ some no_token

-- the tokens of the first n cells, each of which is whole, stand before all others
pub record StandFirst {T : Type 0} (strip : Ptr) (n : ℕ) (tokens : List (Token T)) : Type 0 where
  pub count : n ≤ length tokens
  pub each : (i : ℕ) → i < n → (x : T) × (get_elem? tokens i ≡ some (token_at strip i (whole x)))
