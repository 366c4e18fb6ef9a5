use Rattle.std.proofs.Common.{◌≡◌, ℕ, ◌-◌, ◌<◌, ◌≤◌, false, get_or}
use Rattle.core.specs.Mem.Slots.{slots_items, slots_filled, slots_len}
use Rattle.core.specs.Mem.Slots.Ownership.{Filled}
use Rattle.dr_plain_senders.proofs.Untouched.{TakenBack}
use Rattle.dr_plain_senders.proofs.giving_up.take_back.Given as goal

abbrev pub invariant-loop-slot : goal.invariant-loop-slot
invariant-loop-slot g l = let k = l.fn.table.shared.key in
    Filled (slots_filled l.closed.slots) l.slot (slots_len l.closed.slots) × ((j : ℕ) → j < l.slot → get_or (slots_filled l.closed.slots) j false ≡ false)
    × (k.size ≤ slots_len l.closed.slots) × TakenBack k.strip k.size l.slot (slots_items l.closed.slots) l.tokens.items

abbrev pub decreases-loop-slot : goal.decreases-loop-slot
decreases-loop-slot g l = slots_len l.closed.slots - l.slot
