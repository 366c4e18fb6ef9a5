-- A handler that lists what it is shown.
use Rattle.std.specs.Prelude.{◌≡◌, Bool, false, List, [], ◌∷◌, ◌++◌}
use Rattle.dr_seq.specs.declared.event.Event.{Event}
use Rattle.dr_meaning.specs.Calls.Handling.{Relation}

-- what contracts see of such a handler
pub record Listed : Type 0 where
  pub list : List Event
  pub failed : Bool

-- an event more is listed; a list that found no memory takes no more
abbrev pub Lists : Relation Event Listed
Lists old event s end new = new.failed ≡ false → (old.failed ≡ false) × (new.list ≡ old.list ++ event ∷ [])
