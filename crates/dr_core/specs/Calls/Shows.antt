-- Which states of the machine a core shows. It has forgotten what lies further back than its slots.
use Rattle.std.specs.Prelude.{◌≡◌, ℕ, ◌+◌, ◌^◌, ◌<◌, ◌≤◌, Bool, true, false, Option, None, Some, Result, Ok, List, [], ◌∷◌, map, slice_index}
use Rattle.dr_meaning.specs.declared.command.Command.{Command}
use Rattle.dr_meaning.specs.declared.refusal.Refusal.{Refusal}
use Rattle.dr_meaning.specs.declared.command.Reply.{Reply}
use Rattle.dr_meaning.specs.declared.command.Polled.{Polled}
use Rattle.dr_meaning.specs.declared.command.Polled.TheVariants as answer
use Rattle.dr_graph.specs.Meaning.Graph.{least_of}
use Rattle.dr_graph.specs.Meaning.Name.{Name}
use Rattle.dr_meaning.specs.Meaning.Machine.{Setup, State, handlers, opening, step, next, front}
use Rattle.dr_core.specs.Calls.CoreView.{Known, Nothing, ClaimedBy, WrittenBy, PublishedWith, CoreView, known_at, opened, retired_in}

-- what is known of a claimed sequence agrees with its owner, its publication mark and what is written to it
abbrev pub Agrees : {E : Type 0} → Known E → ℕ → Bool → Option E → Type 0
Agrees Nothing owner published written = ⊥
Agrees (ClaimedBy p) owner published written = (owner ≡ p) × (published ≡ false) × (written ≡ None)
Agrees (WrittenBy p event) owner published written = (owner ≡ p) × (published ≡ false) × (written ≡ Some event)
Agrees (PublishedWith event) owner published written = (published ≡ true) × (written ≡ Some event)

-- what is counted of an exchange
pub record Counts : Type 0 where
  pub next : ℕ  -- how many sequences are claimed
  pub front : ℕ  -- the least sequence that is not published
  pub taken : List ℕ  -- of each handler, how many events it took
  pub completed : List ℕ  -- of each handler, how many events it completed

-- what is so of an exchange once and for all: whether it is halted, and which handlers are retired
pub record Flags : Type 0 where
  pub halted : Bool
  pub retired : ℕ → Bool

abbrev pub machine_counts : {E : Type 0} → State E → Counts
machine_counts m = record { next = next m; front = front m; taken = m.taken; completed = m.completed }

abbrev pub core_counts : {E : Type 0} → CoreView E → Counts
core_counts v = record { next = v.next; front = v.front; taken = v.taken; completed = v.completed }

abbrev pub machine_flags : {E : Type 0} → State E → Flags
machine_flags m = record { halted = m.halted; retired = m.retired }

abbrev pub core_flags : {E : Type 0} → CoreView E → Flags
core_flags v = record { halted = v.halted; retired = retired_in v }

-- what is known of each recent sequence agrees with its owner, its publication mark and what is written to it;
-- those that are not claimed yet are neither published nor written
pub record KnowsRecents {E : Type 0} (size claimed : ℕ) (known : ℕ → Known E) (owners : List ℕ) (published : ℕ → Bool) (written : ℕ → Option E) : Type 0 where
  pub recent : (s : ℕ) → s < claimed → claimed ≤ s + size → Agrees (known s) (slice_index owners s) (published s) (written s)
  pub unclaimed : (s : ℕ) → claimed ≤ s → (published s ≡ false) × (written s ≡ None)

-- a core shows a state that has its counts and its flags, and of each recent sequence what the core knows
pub record Shows {E : Type 0} (v : CoreView E) (m : State E) : Type 0 where
  pub counts : machine_counts m ≡ core_counts v
  pub flags : machine_flags m ≡ core_flags v
  pub recents : KnowsRecents v.setup.size v.next (known_at v) m.owners m.published m.written
  pub open recents use *

-- on each state that the core shows the machine gives this reply and these events, and the core then shows the machine's next state
pub record IsStep {E : Type 0} (old : CoreView E) (command : Command E) (reply : Reply) (values : List E) (new : CoreView E) : Type 0 where
  pub same_setup : new.setup ≡ old.setup
  pub same_names : new.names ≡ old.names
  pub replies : (m : State E) → Shows old m → (step old.setup m command).reply ≡ reply
  pub hands_out : (m : State E) → Shows old m → (step old.setup m command).values ≡ values
  pub shown : (m : State E) → Shows old m → Shows new (step old.setup m command).state

-- what the barrier of a handler with these upstreams lets through
abbrev pub offered_to : {E : Type 0} → CoreView E → List ℕ → ℕ
offered_to v [] = v.front
offered_to v (up ∷ ups) = least_of (map (λ h. slice_index v.completed h) (up ∷ ups))

-- what a batch leaves of the counts: the handler, which is not retired, took it, has not completed it, and no count wraps
pub record TakesBatch {E : Type 0} (h first count : ℕ) (new : CoreView E) : Type 0 where
  pub handler : h < handlers new.setup
  pub left : retired_in new h ≡ false
  pub taken : slice_index new.taken h ≡ first + count
  pub completed : slice_index new.completed h ≤ first
  pub small : first + count ≤ 2 ^ 62

abbrev pub TakesIfBatch : {E : Type 0} → ℕ → Result Polled Refusal → CoreView E → Type 0
TakesIfBatch h (Ok (answer.Batch first count end)) new = TakesBatch h first count new
TakesIfBatch h other new = Unit {0}

-- a handler that is not retired may complete what it took, and takes no completion back
pub record CanComplete {E : Type 0} (v : CoreView E) (h upto : ℕ) : Type 0 where
  pub handler : h < handlers v.setup
  pub left : retired_in v h ≡ false
  pub completed : slice_index v.completed h ≤ upto
  pub taken : upto ≤ slice_index v.taken h

-- a core as it is opened
pub record IsOpened {E : Type 0} (v : CoreView E) (c : Setup) (named : List Name) : Type 0 where
  pub setup : v.setup ≡ c
  pub names : v.names ≡ named
  pub seen : v ≡ opened c named
  pub shows : Shows v (opening c)
