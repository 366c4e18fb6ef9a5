use Rattle.std.proofs.Common.{◌≡◌, ℕ, ◌<◌, false, get_or}
use Rattle.core.specs.Mem.Slots.{slots_filled, slots_len}
use Rattle.core.specs.Mem.Slots.Ownership.{Filled}
use Rattle.dr_places.proofs.gathered.let_go.Given as goal

abbrev pub invariant-loop-place : goal.invariant-loop-place
invariant-loop-place g l = (slots_len l.closed.slots ≡ slots_len l.fn.closed.slots) × Filled (slots_filled l.closed.slots) l.place (slots_len l.closed.slots)
    × ((k : ℕ) → k < l.place → get_or (slots_filled l.closed.slots) k false ≡ false)
