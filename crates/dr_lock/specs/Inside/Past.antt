-- What an end remembers.
use Rattle.std.specs.Prelude.{List, [], ◌∷◌, ◌++◌}
use Rattle.dr_lock.specs.declared.call.Call.{Call}
use Rattle.dr_lock.specs.declared.call.Given.{Given, More', Nothing}
use Rattle.dr_lock.specs.declared.call.Past.{After', Past, Unused}

-- its calls, in order
abbrev pub calls_of : {E : Type 0} → Past E → List (Call E)
calls_of Unused = []
calls_of (After' snapshot before call) = calls_of before ++ call ∷ []

-- and the events that it was handed
abbrev pub events_of : {E : Type 0} → Given E → List E
events_of Nothing = []
events_of (More' snapshot before event) = events_of before ++ event ∷ []
