-- The places for what the ends of a ring bring, once they come together.
use Rattle.std.specs.Prelude.{◌≡◌, ℕ, length, replicate, false}
use Rattle.dr_plain_senders.specs.declared.brought_together.BroughtTogether.{BroughtTogether}

-- the places of so many handlers and cells, of which nobody has brought one
pub record HasPlaces {T : Type 0} (handlers cells : ℕ) (p : BroughtTogether T) : Type 0 where
  pub counts : length p.counts.items ≡ handlers
  pub hands : length p.hands.items ≡ handlers
  pub tokens : length p.tokens.items ≡ cells
  pub brought : p.brought.items ≡ replicate cells false
