-- How far the events of a list are in a core of one producer.
use Rattle.std.specs.Prelude.{◌≡◌, ℕ, ◌^◌, nat_lt, false, if◌then◌else◌, List, replicate, Option, None, Some, slice_index_or}
use Rattle.dr_seq.specs.declared.event.Event.{Event}
use Rattle.dr_seq.specs.Event.{no_event}
use Rattle.dr_graph.specs.Meaning.Graph.{nobody}
use Rattle.dr_meaning.specs.Meaning.Machine.{Setup, State}
use Rattle.dr_meaning.specs.declared.mode.Mode.TheVariants.{Single}
use Rattle.dr_core.specs.Calls.CoreView.{CoreView}
use Rattle.dr_core.specs.Calls.Shows.{Shows}

-- one producer, and as many sequences as there may be
abbrev pub single_setup : List (List ℕ) → ℕ → Setup
single_setup graph size = record { upstreams = graph; size = size; mode = Single; limit = 2 ^ 62 }

-- the first events of a list, each written to the sequence that is its place
abbrev pub written_below : List Event → ℕ → ℕ → Option Event
written_below events n s = if nat_lt s n then Some (slice_index_or events s no_event) else None

-- the state after the first events of a list were claimed, written and published
abbrev pub passed : List Event → ℕ → ℕ → ℕ → List ℕ → List ℕ → State Event
passed events claimed written published taken completed = record {
  owners = replicate claimed 0;
  written = written_below events written;
  published = λ s. nat_lt s published;
  taken = taken;
  completed = completed;
  halted = false;
  retired = nobody;
}

-- a core shows that state
pub record Holds (graph : List (List ℕ)) (size : ℕ) (events : List Event) (claimed written published : ℕ) (taken completed : List ℕ) (core : CoreView Event) : Type 0 where
  pub setup : core.setup ≡ single_setup graph size
  pub shows : Shows core (passed events claimed written published taken completed)
