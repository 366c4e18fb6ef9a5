-- What lies in the slots of a ring.
use Rattle.std.specs.Prelude.{ℕ, ◌%◌, List, length, slice_index_or}

-- the event in the slot of a sequence, or another one where there are no slots
abbrev pub event_at : {E : Type 0} → E → List E → ℕ → E
event_at d slots s = slice_index_or slots (s % length slots) d
