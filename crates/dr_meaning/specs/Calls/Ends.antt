-- What the ends of an exchange show to whoever does not know which exchange it is, and what their calls answer and change.
use Rattle.std.specs.List.{filter_map}
use Rattle.std.specs.Prelude.{◌≡◌, ℕ, ◌+◌, ◌-◌, ◌^◌, ◌<◌, ◌≤◌, Bool, true, false, not, ◌||◌, ◌==◌, nat_lt, nat_le, Option, Some, None, is_none, Result, Ok, Err, List, [], ◌∷◌, ◌++◌, length, take, drop, replicate, slice_index_or, slice_set}
use Rattle.dr_meaning.specs.declared.refusal.Refusal.{Refusal}
use Rattle.dr_meaning.specs.declared.command.Claimed.{Claimed}
use Rattle.dr_meaning.specs.declared.command.Polled.{Polled}
use Rattle.dr_meaning.specs.declared.command.Polled.TheVariants.{Batch, Drained}
use Rattle.dr_meaning.specs.declared.ends.Trouble.{Trouble}
use Rattle.dr_meaning.specs.declared.ends.Trouble.TheVariants.{Refused, Memory}
use Rattle.dr_meaning.specs.declared.ends.Wrote.{Wrote}
use Rattle.dr_meaning.specs.Meaning.Refusals.{ClaimTests, WriteTests, SequenceTests, PublishTests, PollTests, CompleteTests, claim_causes, write_causes, publish_causes, poll_causes, complete_causes, NoneHolds, IsFirst}

-- What an end may show.

-- what an only producer's end sent: the events that it published, in order, and each later sequence that it claimed, with its event once it is written
pub record Sent (E : Type 0) : Type 0 where
  pub published : List E
  pub pending : List (Option E)

-- how many sequences are claimed
abbrev pub claimed_in : {E : Type 0} → Sent E → ℕ
claimed_in e = length e.published + length e.pending

-- the event of a sequence that is claimed and not published, once it is written
abbrev pub open_event : {E : Type 0} → Sent E → ℕ → Option E
open_event e s = slice_index_or e.pending (s - length e.published) None

-- what a handler's end received, in order, and how much of it is completed
pub record Received (E : Type 0) : Type 0 where
  pub events : List E
  pub completed : ℕ

-- What is known of the machine's tests.

-- a test holds exactly where this is true, or at least where it is, or at least where the first is and at most where the second is
pub data Verdict : Type 0 where
  Exactly : Bool → Verdict
  AtLeast : Bool → Verdict
  Between : Bool → Bool → Verdict

abbrev pub unknown : Verdict
unknown = AtLeast false

abbrev pub MayHold : Verdict → Type 0
MayHold (Exactly b) = b ≡ true
MayHold (AtLeast b) = Unit {0}
MayHold (Between least most) = most ≡ true

abbrev pub MayFail : Verdict → Type 0
MayFail (Exactly b) = b ≡ false
MayFail (AtLeast b) = b ≡ false
MayFail (Between least most) = least ≡ false

-- A call is accepted where no test is known to hold, and a refusal is one test's that may hold, where none before it is known to. An end that shows what it did has a producer or a handler; of its size, its room, its limit, a halt and a retirement it shows nothing.
abbrev pub IsAnswerOf : {A : Type 0} → List (Verdict × Refusal) → Result A Trouble → Type 0
IsAnswerOf causes (Ok done) = NoneHolds MayFail causes
IsAnswerOf causes (Err (Refused refusal)) = IsFirst MayHold MayFail refusal causes
IsAnswerOf causes (Err Memory) = Unit {0}

-- a ring has 1 to 65,536 slots: a claim of none or of more than that is bad in each, and a claim of one in none
abbrev pub is_bad_claim : ℕ → Verdict
is_bad_claim n = Between (n == 0 || nat_lt 65536 n) (not (n == 1))

abbrev pub claim_tests : {E : Type 0} → Option (Sent E) → ℕ → ClaimTests Verdict
claim_tests None n =
    record { no_producer = unknown; bad_count = is_bad_claim n; halted = unknown; exhausted = AtLeast (nat_lt (2 ^ 62) n); no_room = unknown }
claim_tests (Some e) n = record {
  no_producer = Exactly false;
  bad_count = is_bad_claim n;
  halted = unknown;
  exhausted = AtLeast (nat_lt (2 ^ 62) (claimed_in e + n));
  no_room = unknown;
}

-- a limit is at most 2^62, so a sequence from there on is nobody's
abbrev pub is_beyond : ℕ → Verdict
is_beyond s = AtLeast (nat_le (2 ^ 62) s)

abbrev pub write_tests : {E : Type 0} → Option (Sent E) → ℕ → WriteTests Verdict
write_tests None s = record { no_producer = unknown; unclaimed = is_beyond s; published = unknown; not_owned = unknown }
write_tests (Some e) s = record {
  no_producer = Exactly false;
  unclaimed = Exactly (nat_le (claimed_in e) s);
  published = Exactly (nat_lt s (length e.published));
  not_owned = Exactly false;
}

abbrev pub end_sequence_tests : {E : Type 0} → Option (Sent E) → ℕ → SequenceTests Verdict
end_sequence_tests None s = record { published = unknown; not_owned = unknown; unwritten = unknown }
end_sequence_tests (Some e) s = record {
  published = Exactly (nat_lt s (length e.published));
  not_owned = Exactly false;
  unwritten = Exactly (is_none (open_event e s));
}

abbrev pub publish_tests : {E : Type 0} → Option (Sent E) → ℕ → ℕ → PublishTests Verdict
publish_tests {E} None lo hi = record {
  no_producer = unknown;
  bad_count = Exactly (nat_lt hi lo);
  unclaimed = is_beyond hi;
  of_sequence = end_sequence_tests {E = E} None;
  out_of_order = unknown;
}
publish_tests (Some e) lo hi = record {
  no_producer = Exactly false;
  bad_count = Exactly (nat_lt hi lo);
  unclaimed = Exactly (nat_le (claimed_in e) hi);
  of_sequence = end_sequence_tests (Some e);
  out_of_order = Exactly (not (lo == length e.published));
}

-- of a poll with room for so many
abbrev pub poll_tests : {E : Type 0} → Option (Received E) → ℕ → PollTests Verdict
poll_tests None room = record { no_handler = unknown; retired = unknown; bad_count = Exactly (room == 0) }
poll_tests (Some e) room = record { no_handler = Exactly false; retired = unknown; bad_count = Exactly (room == 0) }

abbrev pub complete_tests : {E : Type 0} → Option (Received E) → ℕ → CompleteTests Verdict
complete_tests None upto = record { no_handler = unknown; retired = unknown; behind = unknown; not_taken = unknown }
complete_tests (Some e) upto = record {
  no_handler = Exactly false;
  retired = unknown;
  behind = Exactly (nat_lt upto e.completed);
  not_taken = Exactly (nat_lt (length e.events) upto);
}

-- What every end answers, as far as what it shows tells.

-- a stretch of n sequences, within the limit
abbrev pub IsStretch : ℕ → Claimed → Type 0
IsStretch n c = (c.lo ≤ c.hi) × (c.hi + 1 ≡ c.lo + n) × (c.hi < 2 ^ 62)

-- a claim of n gives a stretch of n sequences
abbrev pub GivesStretch : ℕ → Result Claimed Trouble → Type 0
GivesStretch n (Ok c) = IsStretch n c
GivesStretch n (Err trouble) = Unit {0}

abbrev pub ClaimAnswers : {E : Type 0} → Option (Sent E) → ℕ → Result Claimed Trouble → Type 0
ClaimAnswers shown n result = IsAnswerOf (claim_causes (claim_tests shown n)) result × GivesStretch n result

abbrev pub WriteAnswers : {E : Type 0} → Option (Sent E) → ℕ → Result (Unit {0}) Trouble → Type 0
WriteAnswers shown s result = IsAnswerOf (write_causes (write_tests shown s)) result

-- what kept the next of some events from being written: nothing where all are
abbrev pub StopsAt : {E : Type 0} → Option (Sent E) → ℕ → ℕ → ℕ → Option Trouble → Type 0
StopsAt shown lo n count None = count ≡ n
StopsAt shown lo n count (Some trouble) = (count < n) × WriteAnswers shown (lo + count) (Err trouble)

-- of n events, to be written from lo on, the first count are written
pub record WriteAllAnswers {E : Type 0} (shown : Option (Sent E)) (lo n : ℕ) (answer : Wrote) : Type 0 where
  pub written : (k : ℕ) → k < answer.count → WriteAnswers shown (lo + k) (Ok tt)
  pub stops : StopsAt shown lo n answer.count answer.trouble

abbrev pub PublishAnswers : {E : Type 0} → Option (Sent E) → ℕ → ℕ → Result (Unit {0}) Trouble → Type 0
PublishAnswers shown lo hi result = IsAnswerOf (publish_causes lo hi (publish_tests shown lo hi)) result

-- a batch stands at the front of the buffer, and the rest of it stays as it was, all of it where there is no batch
abbrev pub FillsFront : {E : Type 0} → List E → List E → Result Polled Trouble → Type 0
FillsFront out out' (Ok (Batch first count end)) = (0 < count) × (count ≤ length out) × (first + count < 2 ^ 64) × (drop count out' ≡ drop count out)
FillsFront out out' (Ok other) = out' ≡ out
FillsFront out out' (Err trouble) = out' ≡ out

abbrev pub PollAnswers : {E : Type 0} → Option (Received E) → List E → List E → Result Polled Trouble → Type 0
PollAnswers shown out out' result = IsAnswerOf (poll_causes (poll_tests shown (length out))) result × FillsFront out out' result

abbrev pub tells_drained : Polled → Bool
tells_drained Drained = true
tells_drained other = false

abbrev pub is_drained : Result Polled Trouble → Bool
is_drained (Ok answer) = tells_drained answer
is_drained (Err trouble) = false

abbrev pub CompleteAnswers : {E : Type 0} → Option (Received E) → ℕ → Result (Unit {0}) Trouble → Type 0
CompleteAnswers shown upto result = IsAnswerOf (complete_causes (complete_tests shown upto)) result

-- How each call changes what an end shows. In trouble it changes nothing.

-- an end that shows what it did goes on doing so, and a call changes it so
abbrev pub WhereShown : {A : Type 0} → (A → A → Type 0) → Option A → Option A → Type 0
WhereShown Changes None None = Unit {0}
WhereShown Changes None (Some new) = ⊥
WhereShown Changes (Some old) None = ⊥
WhereShown Changes (Some old) (Some new) = Changes old new

abbrev pub with_claimed : {E : Type 0} → Sent E → ℕ → Sent E
with_claimed e n = record e { pending = e.pending ++ replicate n None }

-- the next n sequences are claimed
abbrev pub Claims : {E : Type 0} → ℕ → Result Claimed Trouble → Sent E → Sent E → Type 0
Claims n (Ok c) old new = (c.lo ≡ claimed_in old) × (new ≡ with_claimed old n)
Claims n (Err trouble) old new = new ≡ old

abbrev pub with_event : {E : Type 0} → Sent E → ℕ → E → Sent E
with_event e s event = record e { pending = slice_set e.pending (s - length e.published) (Some event) }

-- an open sequence has the event
abbrev pub Writes : {E : Type 0} → ℕ → E → Result (Unit {0}) Trouble → Sent E → Sent E → Type 0
Writes s event (Ok done) old new = new ≡ with_event old s event
Writes s event (Err trouble) old new = new ≡ old

-- events are written to the sequences from lo on, one after another
abbrev pub with_events : {E : Type 0} → ℕ → List E → Sent E → Sent E
with_events lo [] e = e
with_events lo (event ∷ events) e = with_events (lo + 1) events (with_event e lo event)

abbrev pub WritesAll : {E : Type 0} → ℕ → List E → Sent E → Sent E → Type 0
WritesAll lo events old new = new ≡ with_events lo events old

-- the events of those that are written
abbrev pub written_of : {E : Type 0} → List (Option E) → List E
written_of pending = filter_map (λ o. o) pending

-- the open sequences below n are published
abbrev pub published_below : {E : Type 0} → Sent E → ℕ → Sent E
published_below e n = record {
  published = e.published ++ written_of (take (n - length e.published) e.pending);
  pending = drop (n - length e.published) e.pending;
}

-- the open sequences up to hi are published
abbrev pub Publishes : {E : Type 0} → ℕ → ℕ → Result (Unit {0}) Trouble → Sent E → Sent E → Type 0
Publishes lo hi (Ok done) old new = new ≡ published_below old (hi + 1)
Publishes lo hi (Err trouble) old new = new ≡ old

-- these events more are taken
abbrev pub with_taken : {E : Type 0} → Received E → List E → Received E
with_taken r events = record r { events = r.events ++ events }

-- a batch has the next events; any other answer takes none
abbrev pub Takes : {E : Type 0} → List E → Result Polled Trouble → Received E → Received E → Type 0
Takes out' (Ok (Batch first count end)) old new = (first ≡ length old.events) × (new ≡ with_taken old (take count out'))
Takes out' (Ok other) old new = new ≡ old
Takes out' (Err trouble) old new = new ≡ old

-- what is completed is everything up to there
abbrev pub with_completed : {E : Type 0} → Received E → ℕ → Received E
with_completed r upto = record r { completed = upto }

abbrev pub Completes : {E : Type 0} → ℕ → Result (Unit {0}) Trouble → Received E → Received E → Type 0
Completes upto (Ok done) old new = new ≡ with_completed old upto
Completes upto (Err trouble) old new = new ≡ old

-- the answer of an exchange's own call as an end gives it: its refusal is trouble
abbrev pub as_end : {A : Type 0} → Result A Refusal → Result A Trouble
as_end (Ok x) = Ok x
as_end (Err refusal) = Err (Refused refusal)

-- An answer of an exchange's own call, told as an end's: its refusal is trouble, and memory is never wanting.
abbrev pub IsEndsAnswer : {A : Type 0} → (Result A Refusal → Type 0) → Result A Trouble → Type 0
IsEndsAnswer Answers (Ok x) = Answers (Ok x)
IsEndsAnswer Answers (Err (Refused refusal)) = Answers (Err refusal)
IsEndsAnswer Answers (Err Memory) = ⊥
