-- What was lent, as events.
use Rattle.std.specs.Prelude.{List, map}
use Rattle.dr_lent.specs.declared.lent.Lent.{Lent}

module _ {T : Type 0} where
  -- the events that were lent
  abbrev pub events_of : List (Lent T) → List T
  events_of lents = map (λ (l : Lent T). l.event) lents
