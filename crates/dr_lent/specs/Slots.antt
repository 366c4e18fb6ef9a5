-- What a handler has in hand.
use Rattle.std.specs.Prelude.{ℕ, Bool, nat_le, nat_lt, ◌&&◌}
use Rattle.dr_runs.specs.declared.counts.HandlerCounts.{HandlerCounts}

-- its part of a sequence
abbrev pub is_in_hand : HandlerCounts → ℕ → Bool
is_in_hand c s = nat_le c.completed s && nat_lt s c.taken
