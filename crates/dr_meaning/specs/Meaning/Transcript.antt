-- What a list of commands and replies says of each sequence and each handler.
-- It goes by its own entries: it knows no machine, no ring, no slots and no limits, but for what it says to lead to a state.
use Rattle.std.specs.Prelude.{◌≡◌, ℕ, ◌+◌, max, Bool, true, false, ◌&&◌, ◌==◌, nat_le, if◌then◌else◌, Option, None, Some, unwrap_or, List, [], ◌∷◌, length, fold, flat_map}
use Rattle.std.specs.List.{list_any}
use Rattle.dr_meaning.specs.declared.command.Command.{Command}
use Rattle.dr_meaning.specs.declared.command.Command.TheVariants.{Claim, Write, Publish, Poll, Complete, Retire}
use Rattle.dr_meaning.specs.declared.command.Reply.{Reply}
use Rattle.dr_meaning.specs.declared.command.Reply.TheVariants.{Claimed, Written, Published, Batch, Completed, Halting, Retired}
use Rattle.dr_meaning.specs.Meaning.Machine.{Setup, State, opening, step, least_outside}

-- a command, its reply and the events that came with it
pub record Entry (E : Type 0) : Type 0 where
  pub command : Command E
  pub reply : Reply
  pub values : List E

abbrev pub entry_with : {E : Type 0} → Command E → Reply → List E → Entry E
entry_with command reply values = record { command = command; reply = reply; values = values }

abbrev pub Transcript : Type 0 → Type 0
Transcript E = List (Entry E)

-- one more than the last sequence of an accepted claim, or 0
abbrev pub claimed_below : Reply → ℕ
claimed_below (Claimed lo hi) = hi + 1
claimed_below other = 0

-- one more than the greatest claimed sequence, or 0
abbrev pub next_of : {E : Type 0} → Transcript E → ℕ
next_of t = fold (λ n e. max n (claimed_below e.reply)) 0 t

-- the producer of an accepted claim of a sequence
abbrev pub claimant : {E : Type 0} → Reply → Command E → ℕ → Option ℕ
claimant (Claimed lo hi) (Claim p n) s = if nat_le lo s && nat_le s hi then Some p else None
claimant other command s = None

-- the first of two that is there
abbrev pub first_of : {A : Type 0} → Option A → Option A → Option A
first_of None b = b
first_of (Some a) b = Some a

-- the producer whose accepted claim has a sequence in its stretch
abbrev pub owner_of : {E : Type 0} → Transcript E → ℕ → Option ℕ
owner_of t s = fold (λ o e. first_of o (claimant e.reply e.command s)) None t

-- the event of an accepted write of a sequence
abbrev pub wrote : {E : Type 0} → Reply → Command E → ℕ → Option E
wrote Written (Write p at event) s = if s == at then Some event else None
wrote other command s = None

-- whether an entry is the accepted publication of a stretch with a sequence in it
abbrev pub covers : {E : Type 0} → Reply → Command E → ℕ → Bool
covers Published (Publish p lo hi) s = nat_le lo s && nat_le s hi
covers other command s = false

-- whether a sequence is published
abbrev pub is_published : {E : Type 0} → Transcript E → ℕ → Bool
is_published t s = list_any (λ e. covers e.reply e.command s) t

-- the entries before the publication of a sequence
abbrev pub before_published : {E : Type 0} → Transcript E → ℕ → Transcript E
before_published [] s = []
before_published (e ∷ es) s = if covers e.reply e.command s then [] else e ∷ before_published es s

-- the event of the last accepted write of a sequence
abbrev pub last_written : {E : Type 0} → Transcript E → ℕ → Option E
last_written t s = fold (λ w e. first_of (wrote e.reply e.command s) w) None t

-- the event of a sequence: what was last written to it before it was published
abbrev pub event_of : {E : Type 0} → Transcript E → ℕ → Option E
event_of t s = last_written (before_published t s) s

-- the least sequence that is not published
abbrev pub front_of : {E : Type 0} → Transcript E → ℕ
front_of t = least_outside (is_published t) (next_of t)

-- the events of a batch that was answered to a handler
abbrev pub batch_to : {E : Type 0} → ℕ → Reply → Command E → List E → List E
batch_to h (Batch first count end) (Poll at max) values = if h == at then values else []
batch_to h other command values = []

-- all that a handler received, in order
abbrev pub received_by : {E : Type 0} → Transcript E → ℕ → List E
received_by t h = flat_map (λ e. batch_to h e.reply e.command e.values) t

abbrev pub taken_by : {E : Type 0} → Transcript E → ℕ → ℕ
taken_by t h = length (received_by t h)

-- the count of an accepted completion
abbrev pub completion : {E : Type 0} → ℕ → Reply → Command E → Option ℕ
completion h Completed (Complete at upto) = if h == at then Some upto else None
completion h other command = None

-- the count of a handler's last accepted completion, or 0
abbrev pub completed_by : {E : Type 0} → Transcript E → ℕ → ℕ
completed_by t h = fold (λ n e. unwrap_or (completion h e.reply e.command) n) 0 t

abbrev pub halts : Reply → Bool
halts Halting = true
halts other = false

abbrev pub is_halted : {E : Type 0} → Transcript E → Bool
is_halted t = list_any (λ e. halts e.reply) t

-- an accepted retirement of a handler
abbrev pub retires : {E : Type 0} → Reply → Command E → ℕ → Bool
retires Retired (Retire at) h = h == at
retires other command h = false

-- whether a handler is retired
abbrev pub retired_by : {E : Type 0} → Transcript E → ℕ → Bool
retired_by t h = list_any (λ e. retires e.reply e.command h) t

-- from a state the machine gives these replies and events, and ends in another
abbrev pub LeadsFrom : {E : Type 0} → Setup → State E → Transcript E → State E → Type 0
LeadsFrom c m [] end = m ≡ end
LeadsFrom c m (e ∷ es) end =
    ((step c m e.command).reply ≡ e.reply) × ((step c m e.command).values ≡ e.values) × LeadsFrom c (step c m e.command).state es end

-- a transcript leads to a state from the opening
abbrev pub LeadsTo : {E : Type 0} → Setup → Transcript E → State E → Type 0
LeadsTo c t end = LeadsFrom c (opening c) t end
