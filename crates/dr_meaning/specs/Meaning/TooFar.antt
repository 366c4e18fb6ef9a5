-- One step too far: an entry after which a transcript of the machine is lawful no more. The events are numbers here.
use Rattle.std.specs.Prelude.{ℕ, ◌+◌, ◌-◌, false, true, [], ◌∷◌, ◌++◌}
use Rattle.dr_meaning.specs.declared.mode.Mode.TheVariants.{Single, Multi}
use Rattle.dr_meaning.specs.declared.command.Command.TheVariants.{Claim, Write, Publish, Poll, Complete, Halt, Retire}
use Rattle.dr_meaning.specs.declared.command.Reply.TheVariants.{Claimed, Written, Published, Batch, Drained, Completed, Halting, Retired}
use Rattle.dr_meaning.specs.Meaning.Machine.{Setup, State, setup_of}
use Rattle.dr_meaning.specs.Meaning.Transcript.{Entry, Transcript, entry_with, LeadsTo}
use Rattle.dr_meaning.specs.Meaning.Laws.{Laws}

-- a ring of one slot, and two handlers, of which the second follows the first
abbrev pub pair : Setup
pair = setup_of ([] ∷ (0 ∷ []) ∷ []) 1 Single 9

-- a producer's claim is given the sequences from one up to another
abbrev pub claim_by : ℕ → ℕ → ℕ → Entry ℕ
claim_by p lo hi = entry_with (Claim p (hi + 1 - lo)) (Claimed lo hi) []

-- so is a claim of the first producer, or it is given one alone
abbrev pub claim_up_to : ℕ → ℕ → Entry ℕ
claim_up_to lo hi = claim_by 0 lo hi

abbrev pub claim_of : ℕ → Entry ℕ
claim_of s = claim_up_to s s

-- a producer writes the event of a sequence, or publishes those from one up to another
abbrev pub write_by : ℕ → ℕ → ℕ → Entry ℕ
write_by p s event = entry_with (Write p s event) Written []

abbrev pub publication_by : ℕ → ℕ → ℕ → Entry ℕ
publication_by p lo hi = entry_with (Publish p lo hi) Published []

-- a handler receives an event as the first one
abbrev pub receipt_of : ℕ → ℕ → Entry ℕ
receipt_of h event = entry_with (Poll h 1) (Batch 0 1 true) (event ∷ [])

abbrev pub completion_of : ℕ → ℕ → Entry ℕ
completion_of h upto = entry_with (Complete h upto) Completed []

abbrev pub halt : Entry ℕ
halt = entry_with Halt Halting []

abbrev pub retirement_of : ℕ → Entry ℕ
retirement_of h = entry_with (Retire h) Retired []

-- a handler, or the first one, is told that the ring drained
abbrev pub drain_of : ℕ → Entry ℕ
drain_of h = entry_with (Poll h 1) Drained []

abbrev pub drain : Entry ℕ
drain = drain_of 0

-- a handler that has room for two events is told so
abbrev pub drain_with_room : ℕ → Entry ℕ
drain_with_room h = entry_with (Poll h 2) Drained []

-- the event 5 is written, then published, then taken by the first handler, then completed by it, then taken by the second
abbrev pub written : Transcript ℕ
written = claim_of 0 ∷ write_by 0 0 5 ∷ []

abbrev pub published : Transcript ℕ
published = written ++ publication_by 0 0 0 ∷ []

-- or the event 6 is written first, and then the event 5 in its place
abbrev pub written_again : Transcript ℕ
written_again = claim_of 0 ∷ write_by 0 0 6 ∷ write_by 0 0 5 ∷ publication_by 0 0 0 ∷ []

abbrev pub taken : Transcript ℕ
taken = published ++ receipt_of 0 5 ∷ []

abbrev pub completed : Transcript ℕ
completed = taken ++ completion_of 0 1 ∷ []

abbrev pub taken_by_both : Transcript ℕ
taken_by_both = completed ++ receipt_of 1 5 ∷ []

-- a ring of two slots, and three handlers, of which the third follows the first two
abbrev pub join : Setup
join = setup_of ([] ∷ [] ∷ (0 ∷ 1 ∷ []) ∷ []) 2 Single 9

-- the events 5 and 6 are published there
abbrev pub two_published : Transcript ℕ
two_published =
    claim_up_to 0 1 ∷ write_by 0 0 5 ∷ write_by 0 1 6 ∷ publication_by 0 0 1 ∷ []

-- a handler receives an event as the first of two, or as the second
abbrev pub first_receipt : ℕ → ℕ → Entry ℕ
first_receipt h event = entry_with (Poll h 1) (Batch 0 1 false) (event ∷ [])

abbrev pub second_receipt : ℕ → ℕ → Entry ℕ
second_receipt h event = entry_with (Poll h 1) (Batch 1 1 true) (event ∷ [])

-- one of the first two handlers took and completed the first event
abbrev pub completed_beside : ℕ → Transcript ℕ
completed_beside h = two_published ++ first_receipt h 5 ∷ completion_of h 1 ∷ []

-- both first handlers took both events, and completed one or both of them
abbrev pub taken_beside : Transcript ℕ
taken_beside = two_published ++ first_receipt 0 5 ∷ second_receipt 0 6 ∷ completion_of 0 1 ∷ first_receipt 1 5 ∷ second_receipt 1 6 ∷ completion_of 1 1 ∷ []

abbrev pub completed_by_both : Transcript ℕ
completed_by_both = taken_beside ++ completion_of 0 2 ∷ completion_of 1 2 ∷ []

-- the first of two claimed events is published there, and taken by the first handler
abbrev pub first_taken : Transcript ℕ
first_taken =
    claim_up_to 0 1 ∷ write_by 0 0 5 ∷ write_by 0 1 6 ∷ publication_by 0 0 0 ∷ receipt_of 0 5 ∷ []

-- such a ring, and the same handlers, with two producers
abbrev pub shared : Setup
shared = setup_of ([] ∷ [] ∷ (0 ∷ 1 ∷ []) ∷ []) 2 (Multi 2) 9

-- each producer claims a sequence and writes its event, then the second one publishes, then the first one too
abbrev pub each_claimed : Transcript ℕ
each_claimed = claim_by 0 0 0 ∷ claim_by 1 1 1 ∷ []

abbrev pub each_written : Transcript ℕ
each_written = each_claimed ++ write_by 0 0 5 ∷ write_by 1 1 6 ∷ []

abbrev pub second_published : Transcript ℕ
second_published = each_written ++ publication_by 1 1 1 ∷ []

abbrev pub each_published : Transcript ℕ
each_published = second_published ++ publication_by 0 0 0 ∷ []

-- or the first one alone publishes, and the second handler takes its event
abbrev pub first_published : Transcript ℕ
first_published = each_written ++ publication_by 0 0 0 ∷ receipt_of 1 5 ∷ []

-- a handler receives both events at once
abbrev pub receipt_of_both : ℕ → Entry ℕ
receipt_of_both h = entry_with (Poll h 2) (Batch 0 2 true) (5 ∷ 6 ∷ [])

-- both first handlers took both events; the first one completed both, the second one so many of them
abbrev pub each_completed : ℕ → Transcript ℕ
each_completed upto = each_published ++ receipt_of_both 0 ∷ completion_of 0 2 ∷ receipt_of_both 1 ∷ completion_of 1 upto ∷ []

-- then the third one took both, and completed so many of them
abbrev pub third_completed : ℕ → Transcript ℕ
third_completed upto = each_completed 2 ++ receipt_of_both 2 ∷ completion_of 2 upto ∷ []

-- a transcript leads to a state, and with one entry more it is lawful no more
pub record IsTooFar (c : Setup) (t : Transcript ℕ) (e : Entry ℕ) : Type 0 where
  pub so_far : (m : State ℕ) × LeadsTo c t m
  pub unlawful : Laws c (t ++ e ∷ []) → ⊥
