-- What is known of the last claimed sequences, each in its slot.
use Rattle.std.specs.Prelude.{◌≡◌, ℕ, ◌+◌, ◌-◌, ◌<◌, ◌≤◌, false, ◌&&◌, ◌||◌, ◌==◌, nat_le, if◌then◌else◌, None, Some, List, length}
use Rattle.dr_seq.specs.Slots.{event_at}
use Rattle.dr_seq.specs.declared.event.Event.{Event}
use Rattle.dr_meaning.specs.declared.command.Command.{Command}
use Rattle.dr_meaning.specs.declared.command.Command.TheVariants.{Claim, Write, Publish}
use Rattle.dr_meaning.specs.declared.command.Reply.{Reply}
use Rattle.dr_meaning.specs.Meaning.Machine.{Setup, State, next, step}
use Rattle.dr_show.specs.declared.sequences.Recents.{Recents}
use Rattle.dr_show.specs.declared.sequences.Sequence.{Sequence}
use Rattle.dr_show.specs.Meaning.StateText.{sequence_of}

abbrev pub slots_of : Recents → List Sequence
slots_of recents = recents.slots

-- a sequence that was just claimed
abbrev pub claimed_by : ℕ → Sequence
claimed_by p = record { producer = p; event = None; is_published = false }

-- what slots say of a sequence
abbrev pub said_of : List Sequence → ℕ → Sequence
said_of slots s = event_at (claimed_by 0) slots s

-- slots have each of the last claimed sequences, with what the state has of it
pub record Remembers (slots : List Sequence) (m : State Event) : Type 0 where
  pub at : (s : ℕ) → s < next m → next m ≤ s + length slots → said_of slots s ≡ sequence_of m s

-- what a claim of the sequences from one on, a write and a publication make of a sequence
abbrev pub claimed_in : ℕ → ℕ → ℕ → Sequence → Sequence
claimed_in from p s before = if nat_le from s then claimed_by p else before

abbrev pub written_in : Event → ℕ → ℕ → Sequence → Sequence
written_in event at s before = record { producer = before.producer; event = if s == at then Some event else before.event; is_published = before.is_published }

abbrev pub published_in : ℕ → ℕ → ℕ → Sequence → Sequence
published_in lo hi s before = record { producer = before.producer; event = before.event; is_published = before.is_published || (nat_le lo s && nat_le s hi) }

-- of each of the last sequences below a bound, slots say now what a change makes of what they said
pub record Becomes (upto : ℕ) (change : ℕ → Sequence → Sequence) (old new : List Sequence) : Type 0 where
  pub size : length new ≡ length old
  pub each : (s : ℕ) → s < upto → upto ≤ s + length old → said_of new s ≡ change s (said_of old s)

-- what an accepted command makes of the slots, where so many sequences are claimed after it
abbrev pub Changes : Command Event → ℕ → List Sequence → List Sequence → Type 0
Changes (Claim p n) upto old new = Becomes upto (claimed_in (upto - n) p) old new
Changes (Write p s event) upto old new = Becomes upto (written_in event s) old new
Changes (Publish p lo hi) upto old new = Becomes upto (published_in lo hi) old new
Changes other upto old new = new ≡ old

-- an accepted command speaks of claimed sequences, and claims no more than there are slots
abbrev pub Speaks : Command Event → ℕ → ℕ → Type 0
Speaks (Claim p n) size upto = (n ≤ size) × (n ≤ upto)
Speaks (Write p s event) size upto = s < upto
Speaks (Publish p lo hi) size upto = hi < upto
Speaks other size upto = Unit {0}

-- a command was answered so in a state of which slots tell, and in which nothing is published or written that is not claimed;
-- so many sequences are claimed after it
pub record Follows (c : Setup) (m : State Event) (command : Command Event) (reply : Reply) (upto : ℕ) (slots : List Sequence) : Type 0 where
  pub replies : (step c m command).reply ≡ reply
  pub size : length slots ≡ c.size
  pub remembers : Remembers slots m
  pub unclaimed : (s : ℕ) → next m ≤ s → (m.published s ≡ false) × (m.written s ≡ None)
  pub counted : next (step c m command).state ≡ upto
