-- A run of commands: how far it has come, and how it ends.
use Rattle.std.proofs.Common.{◌≡◌, ◌+◌, ◌∷◌, ℕ, Bool, List, [], Option, Some, None, Ok, refl, sym, subst, append-nil, ◌∙◌}
use Rattle.std.specs.Prelude.{option_to_list}
use Rattle.std.specs.Io.KnownBytes.{Appends, Keeps}
use Rattle.dr_seq.specs.declared.event.Event.{Event}
use Rattle.dr_meaning.specs.Meaning.Machine.{Setup, State}
use Rattle.dr_records.specs.Records.{Field, Record}
use Rattle.dr_drive.specs.Meaning.Commands.{command_of}
use Rattle.dr_drive.specs.Meaning.DriveText.{Phase, Preparing, Running, Taken, end_fault, obeys, taken, text_from}
use Rattle.dr_files.specs.Lines.{joined}
use Rattle.dr_files.specs.Outcome.{FaultWrites}
use Rattle.dr_drive.specs.Calls.Shows.{ExchangeShows, IsObeyed}
use Rattle.dr_drive.specs.Inside.Tells.{CommandFaultTells, ShowsPhase}
use Rattle.dr_drive.specs.declared.exchange.Exchange.{Exchange}
use Rattle.dr_drive.specs.declared.fault.Cause.{Cause}
use Rattle.dr_files.specs.declared.fault.FileFault.{FileFault}
use Rattle.dr_files.specs.declared.fault.FileFault.TheVariants as fault
use Rattle.dr_drive.proofs.Runs.{Progress, progress-end, progress-fails, progress-memory, progress-step}

-- a run over all records from the k-th on has come to the j-th and those that are left, whichever phase its exchange showed at first
pub record HasCome (states : Bool) (first : Exchange) (k : ℕ) (all : List Record) (exchange : Exchange) (j : ℕ) (left : List Record) (old now : Option (List ℕ)) : Type 0 where
  pub from : (phase : Phase) → ShowsPhase first phase → (s : Phase) × ShowsPhase exchange s × Progress states (text_from states k phase all) j s left old now

-- an exchange obeyed a record, and the line of it was written
pub written : (states : Bool) {first exchange : Exchange} {line bytes : List ℕ} (row : Record) (old new : Option (List ℕ))
    → ((names : List Field) (c : Setup) (m : State Event) → ExchangeShows first names c m → IsObeyed exchange line (obeys states names c m (command_of names row)))
    → bytes ≡ line → Appends old new bytes
    → (phase : Phase) → ShowsPhase first phase → (did : Taken) × (taken states phase row ≡ Ok did) × ShowsPhase exchange did.phase × Appends old new (joined (option_to_list did.line))
written states row old new obeyed same wrote (Preparing stage) shown = absurd shown
written states {line} row old new obeyed same wrote (Running names c m) shown =
    let did = obeyed names c m shown in
    (record { phase = Running did.names did.setup did.state; line = Some line }, did.is, did.shows, subst (Appends old new) (same ∙ sym (append-nil line)) wrote)

-- a command did its record
pub goes-on : {states : Bool} {first exchange after : Exchange} {k j : ℕ} {all left rest : List Record} {row : Record} {old now new : Option (List ℕ)}
    → HasCome states first k all exchange j left old now → left ≡ row ∷ rest
    → ((s : Phase) → ShowsPhase exchange s → (did : Taken) × (taken states s row ≡ Ok did) × ShowsPhase after did.phase × Appends now new (joined (option_to_list did.line)))
    → HasCome states first k all after (j + 1) rest old new
goes-on {states} {k} {j} {all} {rest} {row} {old} {now} {new} come cut obeyed = record {
  from = λ phase shown.
      let (s, shows, so_far) = come.from phase shown in
      let (did, ok, after, wrote) = obeyed s shows in
      let here = subst (λ (l : List Record). Progress states (text_from states k phase all) j s l old now) cut so_far in
      (did.phase, after, progress-step states (text_from states k phase all) j s did row rest old now new here ok wrote);
}

-- a command ended the run
pub fails : {states : Bool} {first exchange : Exchange} {k j : ℕ} {all left rest : List Record} {row : Record} {old now : Option (List ℕ)} (f : FileFault Cause) (new : Option (List ℕ))
    → HasCome states first k all exchange j left old now → left ≡ row ∷ rest → ((s : Phase) → ShowsPhase exchange s → CommandFaultTells f j (taken states s row) now new)
    → (phase : Phase) → ShowsPhase first phase → FaultWrites f old new (text_from states k phase all)
fails {states} {k} {j} {all} {rest} {row} {old} {now} f new come cut told phase shown =
    let (s, shows, so_far) = come.from phase shown in
    let here = subst (λ (l : List Record). Progress states (text_from states k phase all) j s l old now) cut so_far in
    progress-fails states f (text_from states k phase all) j s row rest old now new here (told s shows)

same_bytes : (known : Option (List ℕ)) → Keeps known known
same_bytes None = tt
same_bytes (Some bytes) = refl

-- there was no memory for the next record
pub wants : {states : Bool} {first exchange : Exchange} {k j : ℕ} {all left : List Record} {old now : Option (List ℕ)} → HasCome states first k all exchange j left old now
    → (phase : Phase) → ShowsPhase first phase → FaultWrites fault.Memory old now (text_from states k phase all)
wants {states} {k} {j} {all} {left} {old} {now} come phase shown =
    let (s, shows, so_far) = come.from phase shown in progress-memory states (text_from states k phase all) j s left old now now so_far (same_bytes now)

-- a file that ends after its setup is complete
running-ends : (e : Exchange) (k : ℕ) (s : Phase) → ShowsPhase e s → end_fault k s ≡ None
running-ends e k (Preparing stage) h = absurd h
running-ends e k (Running names c m) h = refl

-- no record was left
pub ends : {states : Bool} {first exchange : Exchange} {k j : ℕ} {all left : List Record} {old now : Option (List ℕ)} → HasCome states first k all exchange j left old now → left ≡ []
    → (phase : Phase) → ShowsPhase first phase → ((text_from states k phase all).fault ≡ None) × Appends old now (joined (text_from states k phase all).lines)
ends {states} {exchange} {k} {j} {all} {old} {now} come none phase shown =
    let (s, shows, so_far) = come.from phase shown in
    let here = subst (λ (l : List Record). Progress states (text_from states k phase all) j s l old now) none so_far in
    let (fault, wrote) = progress-end states (text_from states k phase all) j s old now here in
    (fault ∙ running-ends exchange j s shows, wrote)
