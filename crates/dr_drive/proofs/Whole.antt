-- What a run over the records after a setup says of the whole input.
use Rattle.std.proofs.Common.{◌≡◌, ℕ, Bool, List, Option, Some, None, IfSome, IfErr, Result, Ok, Err, refl, sym, ap, ◌∙◌, ◌+◌, subst, arith}
use Rattle.std.proofs.KnownBytes.{Appends-nil}
use Rattle.dr_records.specs.Records.{Record, records_of}
use Rattle.dr_drive.specs.Meaning.Setup.{Empty}
use Rattle.dr_drive.specs.Meaning.DriveText.{Phase, Preparing, text_from, text_of}
use Rattle.dr_files.specs.Outcome.{CountsFaults, FaultCounts, FaultWrites, ReadFaultKeeps, Said, RunWrites}
use Rattle.dr_drive.specs.Inside.Tells.{IsSetUp, SetupFaultTells, ShowsPhase}
use Rattle.dr_drive.specs.declared.tool.Opened.{Opened}
use Rattle.dr_drive.specs.declared.fault.Cause.{Cause}
use Rattle.dr_files.specs.declared.fault.FileFault.{FileFault}
use Rattle.dr_files.specs.declared.fault.FileFault.TheVariants as fault

-- what is known of a text is known of the input that it is
pub at_input : (o : Option (List ℕ)) (text : List ℕ) (P : List ℕ → Type 0) → IfSome o (λ input. text ≡ input) → P text → IfSome o P
at_input None text P is p = tt
at_input (Some input) text P is p = subst P is p

pub after_setup : {A : Type 0} (states : Bool) (r : Result A (FileFault Cause)) (o : Opened) (all left : List Record) (text : List ℕ) (old new : Option (List ℕ))
    → all ≡ records_of text → IsSetUp states o all left
    → ((phase : Phase) → ShowsPhase o.exchange phase → RunWrites r old new (text_from states o.k phase left)) → RunWrites r old new (text_of states text)
after_setup states r o all left text old new are s ran =
    let P : Said Cause → Type 0 = λ t. RunWrites r old new t in
    subst P (sym s.says ∙ ap (text_from states 1 (Preparing Empty)) are) (ran s.phase s.shows)

pub failed_setup : (states : Bool) (f : FileFault Cause) (all : List Record) (text : List ℕ) (known : Option (List ℕ)) → all ≡ records_of text → SetupFaultTells states f all
    → FaultWrites f known known (text_of states text)
failed_setup states (fault.Input k cause) all text known are is =
    let says = ap (text_from states 1 (Preparing Empty)) (sym are) ∙ is in
    (ap (λ t. t.fault) says, rw (ap (λ t. t.lines) says) (Appends-nil known))
failed_setup states fault.Memory all text known are wants = (0, Appends-nil known)
failed_setup states fault.Read all text known are h = absurd h
failed_setup states fault.Write all text known are h = absurd h

-- a setup that fails is no fault of a reader or a writer
pub setup_counts : (states : Bool) (f : FileFault Cause) (all : List Record) (reads reads2 writes : ℕ) → SetupFaultTells states f all → reads2 ≡ reads → FaultCounts f reads reads2 writes writes
setup_counts states (fault.Input k cause) all reads reads2 writes tells same = (same, refl)
setup_counts states fault.Memory all reads reads2 writes tells same = (same, refl)
setup_counts states fault.Read all reads reads2 writes tells same = absurd tells
setup_counts states fault.Write all reads reads2 writes tells same = absurd tells

-- where no read failed, none is answered
pub never_unread : {A : Type 0} (r : Result A (FileFault Cause)) (old new : Option (List ℕ)) (writes writes2 : ℕ) → CountsFaults r 0 0 writes writes2 → IfErr r (λ e. ReadFaultKeeps e old new)
never_unread (Ok done) old new writes writes2 counts = tt
never_unread (Err (fault.Input k cause)) old new writes writes2 counts = tt
never_unread (Err fault.Memory) old new writes writes2 counts = tt
never_unread (Err fault.Read) old new writes writes2 counts = let failed : 0 ≡ 0 + 1 = counts.0 in absurd (omega arith)
never_unread (Err fault.Write) old new writes writes2 counts = tt
