-- That what an end leaves belongs to its ring: by the ring's table, and what it was made for.
use Rattle.std.specs.Prelude.{◌≡◌, ℕ}
use Rattle.atomic_table.specs.Seated.{TableId}
use Rattle.dr_plain.specs.Meaning.Shape.{Shape}
use Rattle.dr_plain.specs.Calls.Ends.{SenderEnd, ReceiverEnd, HalterEnd}
use Rattle.dr_plain.specs.Inside.Seats.{IsAtTable}

module _ {T : Type 0} where
  abbrev pub BelongsSender : TableId → Shape → SenderEnd T → Type 0
  BelongsSender ring k e = IsAtTable e.ring ring k × (e.knows.plan ≡ k)

  -- in the place of its number
  abbrev pub BelongsReceiver : TableId → ℕ → ReceiverEnd T → Type 0
  BelongsReceiver ring place e = (e.ring ≡ ring) × (e.knows.number ≡ place)

  abbrev pub BelongsHalter : TableId → HalterEnd T → Type 0
  BelongsHalter ring e = e.ring ≡ ring
