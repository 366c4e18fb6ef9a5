-- Which states a core comes to.
use Rattle.dr_meaning.specs.Meaning.Machine.{Setup, State}
use Rattle.dr_meaning.specs.Meaning.Transcript.{Transcript, LeadsTo}
use Rattle.dr_meaning.specs.Meaning.Laws.{Laws}
use Rattle.dr_core.specs.Calls.CoreView.{CoreView}
use Rattle.dr_core.specs.Calls.Shows.{Shows}

-- a transcript that leads to a state that the core shows, and has the five laws
pub record RunsTo {E : Type 0} (c : Setup) (t : Transcript E) (v : CoreView E) : Type 0 where
  pub state : State E
  pub leads : LeadsTo c t state
  pub shows : Shows v state
  pub lawful : Laws c t

-- a core is reached where some transcript leads from its opening to a state that it shows
pub record IsReached {E : Type 0} (v : CoreView E) : Type 0 where
  pub transcript : Transcript E
  pub runs : RunsTo v.setup transcript v
