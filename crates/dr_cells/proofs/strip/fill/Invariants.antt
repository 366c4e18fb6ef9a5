use Rattle.std.proofs.Common.{◌≡◌, ℕ, ◌≤◌, ◌++◌, length}
use lib.ListN.{drop}
use Rattle.core.specs.Mem.Slots.{slots_items, slots_filled, slots_ptr, slots_len}
use Rattle.core.specs.Mem.Slots.Ownership.{Filled}
use Rattle.dr_cells.proofs.strip.fill.Given as goal

abbrev pub invariant-loop-x : goal.invariant-loop-x
invariant-loop-x g l = let n : ℕ = length l.items.items in
    (n ≤ slots_len l.row) × (l.items.items ++ drop n (slots_items l.row) ≡ l.initial.items.items) × Filled (slots_filled l.row) n (slots_len l.row)
    × (slots_ptr l.row ≡ slots_ptr l.initial.row) × (slots_len l.row ≡ slots_len l.initial.row)

abbrev pub decreases-loop-x : goal.decreases-loop-x
decreases-loop-x g l = length l.items.items
