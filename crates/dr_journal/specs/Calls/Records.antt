-- Events as records.
use Rattle.std.specs.Prelude.{◌≡◌, ℕ, List, ◌∷◌, ◌++◌, Option, Some, None, length, map, take, drop, if◌then◌else◌, ◌==◌}
use Rattle.std.specs.Int.{w64, to_le_bytes, from_le_bytes}
use Rattle.dr_seq.specs.declared.event.Event.{Event}

-- the record of an event of two words: their sixteen bytes, of each word the least first
abbrev pub event_record : Event → List ℕ
event_record event = to_le_bytes w64 event.first ++ to_le_bytes w64 event.second

-- the event of a record of sixteen bytes; no other is one
abbrev pub event_in : List ℕ → Option Event
event_in bytes = if length bytes == 16 then Some (record { first = from_le_bytes w64 (take 8 bytes); second = from_le_bytes w64 (drop 8 bytes) }) else None

-- these are the values of the records, each in its place
abbrev pub AreValues : {V : Type 0} → (List ℕ → Option V) → List (List ℕ) → List V → Type 0
AreValues value_in records values = map value_in records ≡ map (λ v. Some v) values

-- the record at this place, counted from 0, is the first that has no value
pub record IsFirstBad {V : Type 0} (value_in : List ℕ → Option V) (records : List (List ℕ)) (at : ℕ) : Type 0 where
  pub before : List (List ℕ)
  pub bytes : List ℕ
  pub after : List (List ℕ)
  pub parts : records ≡ before ++ bytes ∷ after
  pub place : length before ≡ at
  pub good : (values : List V) × AreValues value_in before values
  pub bad : value_in bytes ≡ None
