-- Events of two words.
use Rattle.dr_seq.specs.declared.event.Event.{Event}

-- both words 0, which stands where no event is known
abbrev pub no_event : Event
no_event = record { first = 0; second = 0 }
