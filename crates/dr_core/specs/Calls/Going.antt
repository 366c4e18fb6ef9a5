-- That whoever waits, waits for one that can go on, of each core.
use Rattle.dr_meaning.specs.Meaning.Machine.{State}
use Rattle.dr_meaning.specs.Meaning.Transcript.{Transcript, LeadsTo}
use Rattle.dr_meaning.specs.Meaning.Progress.{NobodyIsStuck, CanFinish}
use Rattle.dr_core.specs.Calls.CoreView.{CoreView}
use Rattle.dr_core.specs.Calls.Shows.{Shows}

-- some transcript leads to a state that the core shows, in which nobody is stuck; with an event to write, all that is claimed can be finished from there
pub record IsNeverStuck {E : Type 0} (v : CoreView E) : Type 0 where
  pub transcript : Transcript E
  pub state : State E
  pub leads : LeadsTo v.setup transcript state
  pub shows : Shows v state
  pub going : NobodyIsStuck v.setup state
  pub finishes : (event : E) → CanFinish v.setup state
