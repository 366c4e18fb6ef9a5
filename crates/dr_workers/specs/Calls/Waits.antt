-- How long a thread waits.
use Rattle.std.specs.Prelude.{◌≡◌, ◌≢◌, ◌⊎◌, ℕ, ◌+◌, ◌-◌, ◌*◌, ◌/◌, ◌^◌, ◌<◌, min, Bool, true, false, not, ◌||◌, ◌&&◌, nat_lt, nat_le}
use Rattle.std.specs.Prelude.{Option, None, is_none, Result, Ok, Err, if◌then◌else◌}
use Rattle.dr_meaning.specs.declared.command.Polled.{Polled}
use Rattle.dr_meaning.specs.declared.command.Polled.TheVariants as answer
use Rattle.dr_meaning.specs.declared.ends.Trouble.{Trouble}
use Rattle.dr_meaning.specs.declared.ends.Trouble.TheVariants as trouble
use Rattle.dr_meaning.specs.declared.command.Claimed.{Claimed}
use Rattle.dr_meaning.specs.declared.refusal.Refusal.TheVariants.{NoRoom}
use Rattle.dr_meaning.specs.Calls.Calling.{InletCall, TriesClaim, WritesOne, WritesMany, PublishesStretch, OutletCall, PollsInto, CompletesBelow}
use Rattle.dr_workers.specs.declared.waiting.Waiting.{Waiting}
use Rattle.dr_workers.specs.declared.parking.Parking.{Parking}

-- the most pauses of one wait
abbrev pub most_pauses : ℕ
most_pauses = 1024

-- after how many looks in a row that find nothing a thread pauses, before it yields
abbrev pub most_waits : ℕ
most_waits = 4

-- how many pauses follow the next look that finds nothing, where it paused so often since one found something: none where it yields
abbrev pub pauses_after : ℕ → ℕ → ℕ
pauses_after pauses paused = if nat_lt paused most_waits then pauses else 0

-- twice as many pauses, up to the most
abbrev pub longer : ℕ → ℕ
longer pauses = if nat_lt pauses most_pauses then 2 * pauses else pauses

-- half as many pauses, but one at least
abbrev pub shorter : ℕ → ℕ
shorter pauses = if nat_lt 1 pauses then pauses / 2 else pauses

-- whether a wait of so many pauses was too long: more than a third of the `room` events that could have been there were found, so that others may have been held up, or too few came for so long a wait
abbrev pub is_too_long : ℕ → ℕ → ℕ → Bool
is_too_long room count pauses = nat_lt (room / 3) count || nat_lt count (pauses / 64)

-- whether it was too short: fewer than a sixth were found, and enough of them for a wait of twice that time
abbrev pub is_too_short : ℕ → ℕ → ℕ → Bool
is_too_short room count pauses = nat_lt count (room / 6) && nat_le (pauses / 32) count

-- how many pauses serve from then on
abbrev pub tuned : ℕ → ℕ → ℕ → ℕ
tuned room count pauses = if is_too_long room count pauses then shorter pauses else if is_too_short room count pauses then longer pauses else pauses

-- a thread that has room for so many events, and waited for nothing yet
abbrev pub begun : ℕ → Waiting
begun room = record { room = room; pauses = 1; paused = 0 }

-- it waited once more, or found so many events
abbrev pub waited_from : Waiting → Waiting
waited_from w = record w { paused = if nat_lt w.paused most_waits then w.paused + 1 else w.paused }

abbrev pub found_from : Waiting → ℕ → Waiting
found_from w count = record { room = w.room; pauses = if nat_lt 0 w.paused then tuned w.room count w.pauses else w.pauses; paused = 0 }

-- Of a thread that sleeps in the end.

-- after how many looks in a row that find nothing it sleeps
abbrev pub most_looks : ℕ
most_looks = 200

-- whether it still waits as one that does not sleep
abbrev pub is_early : ℕ → Bool
is_early looks = nat_lt looks most_looks

-- how many looks it counts after one more
abbrev pub looks_after : ℕ → ℕ
looks_after looks = if is_early looks then looks + 1 else looks

-- whether its next wait sleeps: it listens since a look that came late
abbrev pub is_asleep_next : ℕ → Option ℕ → Bool
is_asleep_next looks heard = not (is_early looks) && not (is_none heard)

-- it waited once more: as one that does not sleep for its first looks, and from then on it listens
pub record HasParked {R : Type 0} (old new : Parking R) : Type 0 where
  pub looks : new.looks ≡ looks_after old.looks
  pub waiting : new.waiting ≡ (if is_early old.looks then waited_from old.waiting else old.waiting)
  pub early : is_early old.looks ≡ true → new.heard ≡ old.heard
  pub listens : is_early old.looks ≡ false → new.heard ≢ None

-- it found so many events, and counts its looks anew
pub record HasFound {R : Type 0} (old : Parking R) (count : ℕ) (new : Parking R) : Type 0 where
  pub looks : new.looks ≡ 0
  pub heard : new.heard ≡ None
  pub waiting : new.waiting ≡ found_from old.waiting count

-- Of a worker that waits by some strategy.

-- what a poll makes of a worker's patience: it begins anew where events came, and waits once where nothing did
abbrev pub Bides : {P : Type 0} → (P → P → Type 0) → (P → ℕ → P → Type 0) → P → Result Polled Trouble → P → Type 0
Bides waits finds old (Ok (answer.Batch first count end)) new = finds old count new
Bides waits finds old (Ok answer.Gating) new = waits old new
Bides waits finds old (Ok answer.Idle) new = waits old new
Bides waits finds old (Ok answer.Drained) new = new ≡ old
Bides waits finds old (Err trouble.Memory) new = waits old new
Bides waits finds old (Err (trouble.Refused refusal)) new = new ≡ old

-- a worker's end, and its patience
pub record Attended (S P : Type 0) : Type 0 where
  pub end : S
  pub patience : P

-- a call of a handler's end, and what a poll then makes of the worker's patience
abbrev pub Attends : {S P E : Type 0} → (S → OutletCall E → S → Type 0) → (P → P → Type 0) → (P → ℕ → P → Type 0)
    → Attended S P → OutletCall E → Attended S P → Type 0
Attends does waits finds old (PollsInto before after answer) new =
    does old.end (PollsInto before after answer) new.end × Bides waits finds old.patience answer new.patience
Attends does waits finds old (CompletesBelow upto answer) new = does old.end (CompletesBelow upto answer) new.end × (new.patience ≡ old.patience)

-- it waits for room, and before that it tells its patience how many events found room since it last waited, if any did
abbrev pub WaitsForRoom : {P : Type 0} → (P → P → Type 0) → (P → ℕ → P → Type 0) → P → ℕ → P → Type 0
WaitsForRoom {P} waits finds old room new = ((room ≡ 0) × waits old new) ⊎ ((0 < room) × ((told : P) × finds old room told × waits told new))

-- what a claim of n makes of a worker's patience, and of how many events found room since it last waited: it waits where there is no room
abbrev pub BidesRoom : {P : Type 0} → (P → P → Type 0) → (P → ℕ → P → Type 0) → P → ℕ → ℕ → Result Claimed Trouble → P → ℕ → Type 0
BidesRoom waits finds old room n (Ok claimed) new more = (new ≡ old) × (more ≡ min (room + n) (2 ^ 64 - 1))
BidesRoom waits finds old room n (Err fault) new more =
    ((fault ≡ trouble.Refused NoRoom) × (more ≡ 0) × WaitsForRoom waits finds old room new) ⊎ ((fault ≢ trouble.Refused NoRoom) × (new ≡ old) × (more ≡ room))

-- a worker's end, its patience, and how many events found room since it last waited
pub record Provided (S P : Type 0) : Type 0 where
  pub end : S
  pub patience : P
  pub room : ℕ

-- a call that is no claim leaves both as they are
abbrev pub IsAsBefore : {S P : Type 0} → Provided S P → Provided S P → Type 0
IsAsBefore old new = (new.patience ≡ old.patience) × (new.room ≡ old.room)

-- a call of a producer's end, and what it makes of both
abbrev pub Provides : {S P E : Type 0} → (S → InletCall E → S → Type 0) → (P → P → Type 0) → (P → ℕ → P → Type 0)
    → Provided S P → InletCall E → Provided S P → Type 0
Provides does waits finds old (TriesClaim n answer) new =
    does old.end (TriesClaim n answer) new.end × BidesRoom waits finds old.patience old.room n answer new.patience new.room
Provides does waits finds old (WritesOne s event answer) new = does old.end (WritesOne s event answer) new.end × IsAsBefore old new
Provides does waits finds old (WritesMany lo events wrote) new = does old.end (WritesMany lo events wrote) new.end × IsAsBefore old new
Provides does waits finds old (PublishesStretch lo hi answer) new = does old.end (PublishesStretch lo hi answer) new.end × IsAsBefore old new
