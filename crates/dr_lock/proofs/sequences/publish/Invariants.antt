use Rattle.std.proofs.Common.{◌≡◌, ◌<◌, ℕ, length, ◌&&◌, ◌||◌}
use Rattle.std.specs.Prelude.{nat_le, nat_lt}
use Rattle.dr_lock.specs.Inside.Sequences.{known}
use Rattle.dr_lock.proofs.sequences.publish.Given as goal

-- the sequences so far are published
abbrev pub invariant-loop-s : goal.invariant-loop-s
invariant-loop-s g l = (k : ℕ) → k < length l.list → known l.list k ≡ record { owner = (known l.fn.list k).owner; event = (known l.fn.list k).event; is_published = (known l.fn.list k).is_published || (nat_le l.lo k && nat_lt k l.s) }
