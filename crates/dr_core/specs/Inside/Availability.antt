-- How the core keeps what it knows of the recent sequences: by two rounds of the ring, a count of those written in order, owners by slot, and events by slot.
use Rattle.std.specs.Prelude.{◌≡◌, ◌⊎◌, ◌<◌, ℕ, ◌+◌, ◌%◌, Bool, true, false, ◌==◌, ◌||◌, nat_lt, nat_le, if◌then◌else◌, Option, Some, None, List, length, slice_index, slice_set}
use Rattle.dr_seq.specs.Rounds.{entry_of, is_marked, IsFront}
use Rattle.dr_seq.specs.Slots.{event_at}
use Rattle.dr_meaning.specs.declared.mode.Mode.{Mode}
use Rattle.dr_meaning.specs.declared.mode.Mode.TheVariants.{Single, Multi}
use Rattle.dr_meaning.specs.declared.refusal.Refusal.{Refusal}
use Rattle.dr_meaning.specs.declared.refusal.Refusal.TheVariants.{Halted, Exhausted, NoRoom, NotClaimed, AlreadyPublished, NotWritten}
use Rattle.dr_core.specs.Calls.CoreView.{CoreView, gate_of, Known, Nothing, ClaimedBy, WrittenBy, PublishedWith}
use Rattle.dr_seq.specs.Stamped.{stamped}

-- what is kept by slot, and the front
pub record KeptBySlot (E : Type 0) : Type 0 where
  pub mode : Mode
  pub front : ℕ
  pub filled : ℕ  -- all sequences from the front up to it are written
  pub published : List ℕ
  pub written : List ℕ
  pub owners : List ℕ
  pub events : List E
  pub blank : E

-- one producer owns every sequence; several leave their numbers in the slots
abbrev pub owner_at : Mode → List ℕ → ℕ → ℕ
owner_at Single owners s = 0
owner_at (Multi p) owners s = slice_index owners (s % length owners)

-- one producer publishes in order, so that nothing past the front is published; several mark what they publish
abbrev pub is_ahead : Mode → List ℕ → ℕ → Bool
is_ahead Single published s = false
is_ahead (Multi p) published s = is_marked published s

-- the marks after n sequences are published
abbrev pub published_after : Mode → List ℕ → ℕ → ℕ → List ℕ
published_after Single published from n = published
published_after (Multi p) published from n = stamped (entry_of (length published)) published from n

-- the front once the sequences up to one are published
abbrev pub IsNewFront : Mode → List ℕ → ℕ → ℕ → ℕ → ℕ → Type 0
IsNewFront Single published front next hi new = new ≡ hi + 1
IsNewFront (Multi p) published front next hi new = IsFront (is_marked published) front next new

-- a claimed sequence is published where it is below the front, or ahead of it
abbrev pub is_published_at : {E : Type 0} → KeptBySlot E → ℕ → Bool
is_published_at a s = nat_lt s a.front || is_ahead a.mode a.published s

-- a claimed sequence is written where all up to it are, or marked in its round
abbrev pub is_written_at : {E : Type 0} → KeptBySlot E → ℕ → Bool
is_written_at a s = nat_lt s a.filled || is_marked a.written s

-- a write in order moves the count of those that are written, and one past it is marked
abbrev pub IsNoted : ℕ → List ℕ → ℕ → ℕ → List ℕ → Type 0
IsNoted filled written s filled' written' =
    ((s ≡ filled) × (filled' ≡ s + 1) × (written' ≡ written))
    ⊎ (((filled < s) × (filled' ≡ filled) × (written' ≡ slice_set written (s % length written) (entry_of (length written) s)))
    ⊎ ((s < filled) × (filled' ≡ filled) × (written' ≡ written)))

-- what two marks, an owner and an event say together
abbrev pub known_of : {E : Type 0} → Bool → Bool → ℕ → E → Known E
known_of published written owner event =
    if published then PublishedWith event else if written then WrittenBy owner event else ClaimedBy owner

abbrev pub slot_known : {E : Type 0} → KeptBySlot E → ℕ → Known E
slot_known a s = known_of (is_published_at a s) (is_written_at a s) (owner_at a.mode a.owners s) (event_at a.blank a.events s)

-- the owners after a claim of n sequences
abbrev pub owners_after : Mode → List ℕ → ℕ → ℕ → ℕ → List ℕ
owners_after Single owners from n p = owners
owners_after (Multi producers) owners from n p = stamped (λ s. p) owners from n

-- several producers have a slot a sequence for their numbers
abbrev pub HasOwners : Mode → List ℕ → ℕ → Type 0
HasOwners Single owners size = Unit {0}
HasOwners (Multi p) owners size = length owners ≡ size

-- what refuses a claim of n sequences, where a claim may be of so many
abbrev pub claim_fault : {E : Type 0} → CoreView E → ℕ → Option Refusal
claim_fault v n =
    if v.halted then Some Halted
    else if nat_lt v.setup.limit (v.next + n) then Some Exhausted
    else if nat_le (v.next + n) (v.setup.size + gate_of v) then None else Some NoRoom

-- what refuses a producer to write a sequence
abbrev pub write_fault : {E : Type 0} → Known E → ℕ → Option Refusal
write_fault Nothing p = Some NotClaimed
write_fault (ClaimedBy q) p = if q == p then None else Some NotClaimed
write_fault (WrittenBy q event) p = if q == p then None else Some NotClaimed
write_fault (PublishedWith event) p = Some AlreadyPublished

-- what refuses a producer to publish a sequence
abbrev pub publish_fault : {E : Type 0} → Known E → ℕ → Option Refusal
publish_fault Nothing p = Some NotClaimed
publish_fault (ClaimedBy q) p = if q == p then Some NotWritten else Some NotClaimed
publish_fault (WrittenBy q event) p = if q == p then None else Some NotClaimed
publish_fault (PublishedWith event) p = Some AlreadyPublished

abbrev pub is_shown : {E : Type 0} → Known E → Bool
is_shown Nothing = false
is_shown (ClaimedBy p) = false
is_shown (WrittenBy p event) = false
is_shown (PublishedWith event) = true

-- the event that is known of a sequence
abbrev pub event_known : {E : Type 0} → Known E → Option E
event_known Nothing = None
event_known (ClaimedBy p) = None
event_known (WrittenBy p event) = Some event
event_known (PublishedWith event) = Some event
