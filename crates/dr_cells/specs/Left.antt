-- How the values of a closed strip lie in its slots.
use Rattle.std.specs.Prelude.{◌≡◌, ℕ, ◌≤◌}
use Rattle.core.specs.Mem.Slots.{slots_filled, slots_ptr, slots_len, lease_ptr, lease_len, lease_heap}
use Rattle.core.specs.Mem.Slots.Ownership.{Filled}
use Rattle.core.specs.declared.slots.Slots.{Slots}
use Rattle.core.specs.declared.slots.Lease.{Lease}

-- those from the next one on are there
abbrev pub IsLeft : {X : Type 0} → Slots X → ℕ → Type 0
IsLeft a next = (next ≤ slots_len a) × Filled (slots_filled a) next (slots_len a)

abbrev pub IsLeaseOf : {X Z : Type 0} → Lease X Z → Slots X → Z → Type 0
IsLeaseOf l a heap = (lease_ptr l ≡ slots_ptr a) × (lease_len l ≡ slots_len a) × (lease_heap l ≡ heap)
