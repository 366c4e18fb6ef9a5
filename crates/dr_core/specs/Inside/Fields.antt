-- What a core's fields keep.
use Rattle.std.specs.Prelude.{◌≡◌, ℕ, ◌+◌, ◌<◌, ◌≤◌, min, Bool, true, false, ◌&&◌, ◌==◌, if◌then◌else◌, List, length, Contains, slice_index}
use Rattle.dr_seq.specs.Rounds.{is_marked}
use Rattle.dr_core.specs.declared.engine.Core.TheInside.{Inside}
use Rattle.dr_graph.specs.Meaning.Graph.{flagged, finals_without}
use Rattle.dr_meaning.specs.declared.command.Polled.{Polled}
use Rattle.dr_meaning.specs.declared.command.Polled.TheVariants.{Batch, Drained, Gating, Idle}
use Rattle.dr_meaning.specs.Meaning.Machine.{Setup, handlers, is_single, setup_of}
use Rattle.dr_core.specs.Calls.CoreView.{CoreView, AreGating, retired_in, recent_of}
use Rattle.dr_core.specs.Calls.Reached.{IsReached}
use Rattle.dr_core.specs.Inside.Availability.{KeptBySlot, slot_known, HasOwners, is_ahead}
use Rattle.dr_meaning.specs.Meaning.Counts.{IsSetup, AreInOrder, AreInBounds}

abbrev pub kept_of : {E : Type 0} → Inside E → KeptBySlot E
kept_of a = record { mode = a.mode; front = a.front; filled = a.filled; published = a.published; written = a.written; owners = a.owners.items; events = a.events; blank = a.blank }

abbrev pub view_of : {E : Type 0} → Inside E → CoreView E
view_of a = record {
  setup = setup_of a.graph.upstreams a.size a.mode a.limit;
  names = a.graph.names;
  next = a.next;
  front = a.front;
  taken = a.taken.items;
  completed = a.completed.items;
  halted = a.halted;
  retired = a.retired.items;
  recent = recent_of (slot_known (kept_of a)) a.next a.size;
}

-- what holds of every core, however it keeps the recent sequences; since it is reached, its counts are those of a state of the machine
pub record IsWhole {E : Type 0} (v : CoreView E) : Type 0 where
  pub setup : IsSetup v.setup
  pub open setup use *
  pub retired : length v.retired ≡ handlers v.setup
  pub reached : IsReached v
  pub front : v.front ≤ v.next
  pub order : AreInOrder v.setup v.front v.taken v.completed
  pub open order use *
  pub bounds : AreInBounds v.setup v.next v.completed (retired_in v)
  pub open bounds use *

-- a slot a sequence in each list, and no mark of a sequence that is not claimed yet
pub record IsAvailable {E : Type 0} (a : KeptBySlot E) (size next : ℕ) : Type 0 where
  pub published : length a.published ≡ size
  pub written : length a.written ≡ size
  pub owners : HasOwners a.mode a.owners size
  pub events : length a.events ≡ size
  pub filled : a.filled ≤ next
  pub unpublished : (s : ℕ) → next ≤ s → is_ahead a.mode a.published s ≡ false
  pub unwritten : (s : ℕ) → next ≤ s → is_marked a.written s ≡ false

-- a remembered count is no more than what any final of those that are left completed
abbrev pub IsSeen : Setup → (ℕ → Bool) → List ℕ → ℕ → Type 0
IsSeen c gone completed count = (f : ℕ) → Contains (finals_without c.upstreams gone) f → count ≤ slice_index completed f

-- the two rounds, the flags of those that gate, the remembered least count, and up to which sequence a claim is granted by it: within the limit, and after a halt none further
pub record IsKept {E : Type 0} (a : Inside E) : Type 0 where
  pub whole : IsWhole (view_of a)
  pub available : IsAvailable (kept_of a) a.size a.next
  pub gating : AreGating a.gating.items a.graph.upstreams (flagged a.retired.items)
  pub seen : IsSeen (view_of a).setup (flagged a.retired.items) a.completed.items a.gate
  pub claimable : a.claimable ≡ (if a.halted then a.next else min a.limit (a.size + a.gate))

-- why a poll hands nothing out to a handler that took so many events, as many as are offered
abbrev pub IsNothing : {E : Type 0} → CoreView E → ℕ → Polled → Type 0
IsNothing v first Drained = (v.halted ≡ true) × (first ≡ v.next)
IsNothing v first Gating = ((v.halted && (first == v.next)) ≡ false) × (first < (if is_single v.setup.mode then v.front else v.next))
IsNothing v first Idle = ((v.halted && (first == v.next)) ≡ false) × ((if is_single v.setup.mode then v.front else v.next) ≤ first)
IsNothing v first (Batch start count end) = ⊥
