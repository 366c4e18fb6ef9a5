-- What the records of a setup say of the whole file.
use Rattle.std.proofs.Common.{◌≡◌, ◌+◌, ℕ, Bool, List, [], ◌∷◌, None, Some, Ok, ap, ◌∙◌}
use Rattle.dr_meaning.specs.Meaning.Machine.{Setup, opening}
use Rattle.dr_records.specs.Records.{Field, Record}
use Rattle.dr_drive.specs.Meaning.Setup.{Empty, Goes, Opens, SettingUp, missing, prepared}
use Rattle.dr_drive.specs.Meaning.DriveText.{Preparing, Running, prepares, text_from}
use Rattle.dr_drive.specs.Calls.Shows.{FaultAs}
use Rattle.dr_drive.specs.Inside.Faults.{fault_at}
use Rattle.dr_files.specs.Outcome.{Said}
use Rattle.dr_drive.specs.Inside.Tells.{SetupFaultTells}
use Rattle.dr_drive.specs.declared.fault.Cause.{Cause}
use Rattle.dr_drive.specs.declared.fault.RecordFault.{RecordFault}
use Rattle.dr_drive.specs.declared.fault.RecordFault.TheVariants as fault
use Rattle.dr_drive.proofs.Runs.{says-end, says-err, says-ok}

-- the first of the records that are left goes on with the setup, opens an exchange, or is at fault
pub setup-goes : (states : Bool) (whole : Said Cause) (k : ℕ) (s s2 : SettingUp) (left : List Record) (row : Record) (rest : List Record)
    → whole ≡ text_from states k (Preparing s) left → left ≡ row ∷ rest
    → prepared s row ≡ Ok (Goes s2) → whole ≡ text_from states (k + 1) (Preparing s2) rest
setup-goes states whole k s s2 left row rest is cut e =
    is ∙ ap (text_from states k (Preparing s)) cut ∙ says-ok states k (Preparing s) (record { phase = Preparing s2; line = None }) row rest (ap prepares e)

pub setup-opens : (states : Bool) (whole : Said Cause) (k : ℕ) (s : SettingUp) (names : List Field) (c : Setup) (left : List Record) (row : Record) (rest : List Record)
    → whole ≡ text_from states k (Preparing s) left → left ≡ row ∷ rest → prepared s row ≡ Ok (Opens names c) → whole ≡ text_from states (k + 1) (Running names c (opening c)) rest
setup-opens states whole k s names c left row rest is cut e =
    is ∙ ap (text_from states k (Preparing s)) cut ∙ says-ok states k (Preparing s) (record { phase = Running names c (opening c); line = None }) row rest (ap prepares e)

pub setup-fails : (states : Bool) (f : RecordFault) (rows : List Record) (k : ℕ) (s : SettingUp) (left : List Record) (row : Record) (rest : List Record)
    → text_from states 1 (Preparing Empty) rows ≡ text_from states k (Preparing s) left → left ≡ row ∷ rest → FaultAs f (prepared s row) → SetupFaultTells states (fault_at k f) rows
setup-fails states (fault.Cause cause) rows k s left row rest is cut e = is ∙ ap (text_from states k (Preparing s)) cut ∙ says-err states k (Preparing s) cause row rest (ap prepares e)
setup-fails states fault.Memory rows k s left row rest is cut e = tt

pub setup-ends : (states : Bool) (whole : Said Cause) (k : ℕ) (s : SettingUp) (left : List Record) → whole ≡ text_from states k (Preparing s) left → left ≡ []
    → whole ≡ record { lines = []; fault = Some (record { k = k; cause = missing s }) }
setup-ends states whole k s left is none = is ∙ ap (text_from states k (Preparing s)) none ∙ says-end states k (Preparing s)
