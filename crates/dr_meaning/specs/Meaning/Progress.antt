-- Nobody is stuck: whoever waits for others, waits for a producer or a handler that can go on at once.
-- That it does go on is not said; nor is anything of a handler that took all there will be.
use Rattle.std.specs.Prelude.{◌≡◌, ◌⊎◌, ℕ, ◌+◌, ◌-◌, ◌<◌, ◌≤◌, Bool, true, false, Some, List, [], ◌∷◌, sum_by, slice_index, Contains}
use Rattle.std.specs.List.{range_with_len}
use Rattle.dr_meaning.specs.declared.command.Command.{Command}
use Rattle.dr_meaning.specs.declared.command.Command.TheVariants.{Claim, Write, Publish, Poll, Complete}
use Rattle.dr_meaning.specs.declared.command.Reply.{Reply}
use Rattle.dr_meaning.specs.declared.command.Reply.TheVariants.{Claimed, Written, Published, Batch, Drained, Completed}
use Rattle.dr_graph.specs.Meaning.Graph.{upstreams_of}
use Rattle.dr_meaning.specs.Meaning.Machine.{Setup, State, handlers, producers, gating, next, front, step}
use Rattle.dr_meaning.specs.Meaning.Transcript.{Transcript, LeadsFrom}

abbrev pub reply_to : {E : Type 0} → Setup → State E → Command E → Reply
reply_to c m command = (step c m command).reply

abbrev pub after : {E : Type 0} → Setup → State E → Command E → State E
after c m command = (step c m command).state

-- a handler's next event is handed to it
abbrev pub MayTake : {E : Type 0} → Setup → State E → ℕ → Type 0
MayTake c m h = (end : Bool) × (reply_to c m (Poll h 1) ≡ Batch (slice_index m.taken h) 1 end)

-- a handler took more than it completed, and may complete that
pub record MayComplete {E : Type 0} (c : Setup) (m : State E) (h : ℕ) : Type 0 where
  pub more : slice_index m.completed h < slice_index m.taken h
  pub completes : reply_to c m (Complete h (slice_index m.taken h)) ≡ Completed

-- a handler waits for an upstream that is not retired, where it has taken all that this one completed, and completed all that it took
pub record WaitsFor {E : Type 0} (c : Setup) (m : State E) (h up : ℕ) : Type 0 where
  pub upstream : Contains (upstreams_of c.upstreams h) up
  pub left : m.retired up ≡ false
  pub taken : slice_index m.completed up ≤ slice_index m.taken h
  pub completed : slice_index m.completed h ≡ slice_index m.taken h

-- a path up from a handler to another: each waits for the next one, and the last one is the other
abbrev pub IsPathUp : {E : Type 0} → Setup → State E → ℕ → List ℕ → ℕ → Type 0
IsPathUp c m from [] to = from ≡ to
IsPathUp c m from (up ∷ ups) to = WaitsFor c m from up × IsPathUp c m up ups to

-- a handler can go on, or one that a path leads up to: one that it waits for, or that this one waits for, and so on
pub record AwaitedGoesOn {E : Type 0} (c : Setup) (m : State E) (h : ℕ) : Type 0 where
  pub awaited : ℕ
  pub path : List ℕ
  pub leads : IsPathUp c m h path awaited
  pub goes_on : MayTake c m awaited ⊎ MayComplete c m awaited

-- a claim of n sequences waits for a handler that gates it, and completed too few events to leave room for it; that one can go on, or one that it waits for
pub record ClaimAwaits {E : Type 0} (c : Setup) (m : State E) (n : ℕ) : Type 0 where
  pub last : ℕ
  pub gates : Contains (gating c m) last
  pub behind : c.size + slice_index m.completed last < next m + n
  pub goes_on : AwaitedGoesOn c m last

-- a producer can write a sequence, and publish it then
pub record MayPublish {E : Type 0} (c : Setup) (m : State E) (p s : ℕ) : Type 0 where
  pub writes : (event : E) → reply_to c m (Write p s event) ≡ Written
  pub publishes : (event : E) → reply_to c (after c m (Write p s event)) (Publish p s s) ≡ Published

-- the first sequence that is not published, where it is claimed, can be published by its producer
abbrev pub PublishesFront : {E : Type 0} → Setup → State E → Type 0
PublishesFront c m = front m < next m → MayPublish c m (slice_index m.owners (front m)) (front m)

-- a handler that is not retired completed all events before the front, or can go on, or one that it waits for can
abbrev pub CompletesAll : {E : Type 0} → Setup → State E → ℕ → Type 0
CompletesAll c m h = h < handlers c → m.retired h ≡ false → (slice_index m.completed h ≡ front m) ⊎ AwaitedGoesOn c m h

-- a claim of at most a round beyond the front is accepted, or one that it waits for can go on
abbrev pub ClaimsRound : {E : Type 0} → Setup → State E → ℕ → ℕ → Type 0
ClaimsRound c m p n =
    p < producers c.mode → 0 < n → m.halted ≡ false → next m + n ≤ c.limit → next m + n ≤ c.size + front m
    → (reply_to c m (Claim p n) ≡ Claimed (next m) (next m + n - 1)) ⊎ ClaimAwaits c m n

-- after a halt, once all that is claimed is published, a handler that is not retired is told `Drained`, or can go on, or one that it waits for can
abbrev pub Drains : {E : Type 0} → Setup → State E → ℕ → ℕ → Type 0
Drains c m h max =
    h < handlers c → m.retired h ≡ false → 0 < max → m.halted ≡ true → front m ≡ next m
    → (reply_to c m (Poll h max) ≡ Drained) ⊎ AwaitedGoesOn c m h

pub record NobodyIsStuck {E : Type 0} (c : Setup) (m : State E) : Type 0 where
  pub publishes : PublishesFront c m
  pub completes : (h : ℕ) → CompletesAll c m h
  pub claims : (p n : ℕ) → ClaimsRound c m p n
  pub drains : (h max : ℕ) → Drains c m h max

-- a handler goes on: it is handed a batch, or completes more than before
abbrev pub IsStepOn : {E : Type 0} → Setup → State E → Command E → Type 0
IsStepOn c m (Poll h max) = (first : ℕ) × (count : ℕ) × (end : Bool) × (reply_to c m (Poll h max) ≡ Batch first count end)
IsStepOn c m (Complete h upto) = (slice_index m.completed h < upto) × (reply_to c m (Complete h upto) ≡ Completed)
IsStepOn c m other = ⊥

-- a schedule of handlers, each of whose steps goes on
abbrev pub GoOn : {E : Type 0} → Setup → State E → List (Command E) → Type 0
GoOn c m [] = Unit {0}
GoOn c m (command ∷ commands) = IsStepOn c m command × GoOn c (after c m command) commands

-- how many events handlers have yet to take, and to complete, of those before the front
abbrev pub to_do : {E : Type 0} → Setup → State E → ℕ
to_do c m = sum_by (λ h. (front m - slice_index m.taken h) + (front m - slice_index m.completed h)) (range_with_len 0 (handlers c))

-- some commands lead to a state in which all that was claimed is published, and completed by each handler that is not retired;
-- they claim, halt and retire nothing, and an event that is written stays
pub record CanFinish {E : Type 0} (c : Setup) (m : State E) : Type 0 where
  pub rest : Transcript E
  pub end : State E
  pub leads : LeadsFrom c m rest end
  pub owners : end.owners ≡ m.owners
  pub halted : end.halted ≡ m.halted
  pub retired : end.retired ≡ m.retired
  pub written : (s : ℕ) (event : E) → m.written s ≡ Some event → end.written s ≡ Some event
  pub published : front end ≡ next end
  pub completed : (h : ℕ) → h < handlers c → end.retired h ≡ false → slice_index end.completed h ≡ next end
