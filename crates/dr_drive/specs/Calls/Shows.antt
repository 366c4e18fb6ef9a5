-- Which phase of the drive text an exchange and a setup that has come so far show.
use Rattle.std.specs.Prelude.{◌≡◌, ℕ, false, true, if◌then◌else◌, List, [], take, Some, Result, Ok, Err}
use Rattle.std.specs.List.{list_all}
use Rattle.std.specs.Str.{is_utf8}
use Rattle.dr_seq.specs.declared.event.Event.{Event}
use Rattle.dr_meaning.specs.declared.command.Reply.{Reply}
use Rattle.dr_meaning.specs.Meaning.Machine.{Setup, State, Outcome, opening, setup_of}
use Rattle.dr_meaning.specs.Meaning.Runs.{count_in}
use Rattle.dr_meaning.specs.Calls.OpenFault.{has_bad_producers, is_bad_limit}
use Rattle.dr_core.specs.Calls.CoreView.{CoreView}
use Rattle.dr_core.specs.Calls.Shows.{Shows}
use Rattle.dr_graph.specs.Meaning.Graph.{GraphView}
use Rattle.dr_graph.specs.Meaning.Name.{Name, is_good_name}
use Rattle.dr_drive.specs.declared.setup.ring_records.Ring.{Ring}
use Rattle.dr_drive.specs.declared.setup.handler_records.Declaring.{Declaring as Kept}
use Rattle.dr_drive.specs.declared.setup.Preparation.{Preparation}
use Rattle.dr_drive.specs.declared.setup.Preparation.TheVariants as at
use Rattle.dr_drive.specs.declared.setup.Prepared.{Prepared as Step}
use Rattle.dr_drive.specs.declared.setup.Prepared.TheVariants as does
use Rattle.dr_drive.specs.declared.exchange.Exchange.{Exchange}
use Rattle.dr_drive.specs.declared.fault.Cause.{Cause}
use Rattle.dr_drive.specs.declared.fault.RecordFault.{RecordFault}
use Rattle.dr_drive.specs.declared.fault.RecordFault.TheVariants as fault
use Rattle.dr_records.specs.Records.{Field}
use Rattle.dr_drive.specs.Meaning.Setup.{Declared, SettingUp, Empty, Ringed, Declaring, Prepared, Goes, Opens}
use Rattle.dr_drive.specs.Meaning.DriveText.{Running, Taken}

-- a ring with the handlers of a graph
abbrev pub ring_setup : Ring → GraphView → Setup
ring_setup ring graph = setup_of graph.upstreams ring.size ring.mode ring.limit

-- a ring that a core can be opened for
pub record IsRing (ring : Ring) : Type 0 where
  pub producers : has_bad_producers ring.mode ≡ false
  pub limit : is_bad_limit ring.limit ≡ false

-- every declared name is one that a handler may have
abbrev pub AreNames : List Name → Type 0
AreNames names = list_all is_good_name names ≡ true

-- a field as text: one that is not UTF-8 is told as an empty one
abbrev pub legible : Field → Name
legible f = if is_utf8 f then f else []

-- what a builder and its current group declare
abbrev pub declared_of : Kept → Declared
declared_of d = record { declaration = d.builder; group = d.group }

-- the stage of the setup that a preparation is at
abbrev pub setting_up_of : Preparation → SettingUp
setting_up_of at.Empty = Empty
setting_up_of (at.Ringed ring) = Ringed ring
setting_up_of (at.Declaring ring d) = Declaring ring (declared_of d)

abbrev pub IsPreparation : Preparation → Type 0
IsPreparation at.Empty = Unit {0}
IsPreparation (at.Ringed ring) = IsRing ring
IsPreparation (at.Declaring ring d) = IsRing ring × AreNames d.builder.names

-- what contracts see of an exchange: its core, and its room for a batch
abbrev pub core_of : Exchange → CoreView Event
core_of e = e.core

abbrev pub batch_of : Exchange → List Event
batch_of e = e.batch.items

-- the exchange's core shows a state of the machine, and its handlers have these names
pub record ExchangeShows (e : Exchange) (names : List Field) (c : Setup) (m : State Event) : Type 0 where
  pub names_are : names ≡ e.core.names
  pub setup_is : e.core.setup ≡ c
  pub shows : Shows e.core m

-- why a record is not taken: at fault, or because memory ran out, of which nothing is said
abbrev pub FaultAs : {T : Type 0} → RecordFault → Result T Cause → Type 0
FaultAs (fault.Cause cause) t = t ≡ Err cause
FaultAs fault.Memory t = Unit {0}

-- a record declares what the drive text says
abbrev pub DeclaresAs : Result Kept RecordFault → Result Declared Cause → Type 0
DeclaresAs (Ok d) t = (t ≡ Ok (declared_of d)) × AreNames d.builder.names
DeclaresAs (Err f) t = FaultAs f t

pub record IsOpenedAs (e : Exchange) (t : Result Prepared Cause) : Type 0 where
  pub names : List Field
  pub setup : Setup
  pub is : t ≡ Ok (Opens names setup)
  pub shows : ExchangeShows e names setup (opening setup)

abbrev pub StepAs : Step → Result Prepared Cause → Type 0
StepAs (does.Goes p) t = (t ≡ Ok (Goes (setting_up_of p))) × IsPreparation p
StepAs (does.Opens e) t = IsOpenedAs e t

-- a record does to a preparation what it does to its stage
abbrev pub PreparesAs : Result Step RecordFault → Result Prepared Cause → Type 0
PreparesAs (Ok step) t = StepAs step t
PreparesAs (Err f) t = FaultAs f t

-- a command came out as the machine's outcome: the reply, the events at the front of the batch, and the state that is shown now
pub record Executes (e : Exchange) (names : List Field) (c : Setup) (o : Outcome Event) (reply : Reply) : Type 0 where
  pub replies : o.reply ≡ reply
  pub hands_out : o.values ≡ take (count_in reply) (batch_of e)
  pub shows : ExchangeShows e names c o.state

-- what a record did to an exchange that showed a state: its line, and the state that it shows now
pub record IsObeyed (e : Exchange) (line : List ℕ) (t : Result Taken Cause) : Type 0 where
  pub names : List Field
  pub setup : Setup
  pub state : State Event
  pub is : t ≡ Ok (record { phase = Running names setup state; line = Some line })
  pub shows : ExchangeShows e names setup state

abbrev pub ObeysAs : {T : Type 0} → Result T RecordFault → Exchange → List ℕ → Result Taken Cause → Type 0
ObeysAs (Ok done) e line t = IsObeyed e line t
ObeysAs (Err f) e line t = FaultAs f t

-- a record at fault leaves an exchange as it was
abbrev pub FaultLeaves : RecordFault → Exchange → Exchange → Type 0
FaultLeaves (fault.Cause cause) old new = new ≡ old
FaultLeaves fault.Memory old new = Unit {0}
