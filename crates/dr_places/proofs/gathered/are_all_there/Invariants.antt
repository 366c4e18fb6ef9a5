use Rattle.std.proofs.Common.{◌≡◌, ℕ, ◌<◌, get_or}
use Rattle.core.specs.Mem.Slots.{slots_items}
use Rattle.dr_places.proofs.gathered.are_all_there.Given as goal

abbrev pub invariant-loop-place : goal.invariant-loop-place
invariant-loop-place g l = (i : ℕ) → i < l.place → get_or (slots_items l.closed.words) i 0 ≡ 2
