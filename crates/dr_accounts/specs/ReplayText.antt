-- What a file of operations has a replay write: the report of its events.
use Rattle.std.specs.Prelude.{ℕ, Result, Ok, Err, List, [], ◌∷◌, None, Some}
use Rattle.dr_seq.specs.declared.event.Event.{Event}
use Rattle.dr_files.specs.Outcome.{Said}
use Rattle.dr_operations.specs.EventFile.{events_of}
use Rattle.dr_operations.specs.declared.cause.Cause.{Cause}
use Rattle.dr_operations.specs.declared.cause.Cause.TheVariants.{BadRecord}
use Rattle.dr_accounts.specs.Report.{report_of}

-- a file of operations says the report of its events, as one line of text, or is at fault at its first bad record
abbrev pub reported : Result (List Event) ℕ → Said Cause
reported (Ok events) = record { lines = report_of events ∷ []; fault = None }
reported (Err k) = record { lines = []; fault = Some (record { k = k; cause = BadRecord }) }

abbrev pub replay_text : List ℕ → Said Cause
replay_text input = reported (events_of input)
