-- What contracts see of a core: what it remembers of the machine's state, however that is kept.
use Rattle.std.specs.Prelude.{◌≡◌, ℕ, ◌-◌, ◌<◌, min, Bool, false, List, [], length, map, replicate, slice_index, slice_index_or}
use Rattle.std.specs.List.{range_with_len}
use Rattle.dr_graph.specs.Meaning.Name.{Name}
use Rattle.dr_graph.specs.Meaning.Graph.{flagged, is_final_without, least_without}
use Rattle.dr_meaning.specs.Meaning.Machine.{Setup, handlers}

-- what a core knows of a sequence: nothing, claimed by a producer, written by a producer with an event, published with an event
pub data Known (E : Type 0) : Type 0 where
  Nothing : Known E
  ClaimedBy : ℕ → Known E
  WrittenBy : ℕ → E → Known E
  PublishedWith : E → Known E

pub record CoreView (E : Type 0) : Type 0 where
  pub setup : Setup
  pub names : List Name  -- of each handler, its name
  pub next : ℕ  -- how many sequences are claimed
  pub front : ℕ  -- the least sequence that is not published
  pub taken : List ℕ  -- of each handler, how many events it took
  pub completed : List ℕ  -- of each handler, how many events it completed
  pub halted : Bool
  pub retired : List Bool  -- of each handler, whether it is retired
  pub recent : List (Known E)  -- of each of the last `size` claimed sequences in order, what is known

-- a core as it is opened: nothing is claimed, so that nothing is known of any slot
abbrev pub opened : {E : Type 0} → Setup → List Name → CoreView E
opened c named = record {
  setup = c;
  names = named;
  next = 0;
  front = 0;
  taken = replicate (handlers c) 0;
  completed = replicate (handlers c) 0;
  halted = false;
  retired = replicate (handlers c) false;
  recent = [];
}

-- which handlers are retired
abbrev pub retired_in : {E : Type 0} → CoreView E → ℕ → Bool
retired_in v = flagged v.retired

-- flags, one a handler, of those that gate where some are gone
pub record AreGating (flags : List Bool) (graph : List (List ℕ)) (gone : ℕ → Bool) : Type 0 where
  pub complete : length flags ≡ length graph
  pub each : (h : ℕ) → h < length graph → flagged flags h ≡ is_final_without graph gone h

-- the least completed count of the finals that are not retired
abbrev pub gate_of : {E : Type 0} → CoreView E → ℕ
gate_of v = least_without v.setup.upstreams (retired_in v) (λ h. slice_index v.completed h)

-- the last claimed sequences, as many as there are slots, each with what is known of it
abbrev pub recent_of : {E : Type 0} → (ℕ → Known E) → ℕ → ℕ → List (Known E)
recent_of known next size = map known (range_with_len (next - size) (min next size))

-- what is known of a recent sequence
abbrev pub known_at : {E : Type 0} → CoreView E → ℕ → Known E
known_at v s = slice_index_or v.recent (s - (v.next - v.setup.size)) Nothing
