-- What an end of a ring answers is what the machine replies on the ring's picture.
use Rattle.std.specs.Prelude.{◌≡◌, ℕ, ◌+◌, ◌-◌, ◌≤◌, List, length, slice_index, Some, Result, Ok, Err}
use mathlib.Core.Option.{some}
use lib.ListN.{get_elem?}
use Rattle.dr_seq.specs.declared.event.Event.{Event}
use Rattle.dr_meaning.specs.declared.refusal.Refusal.{Refusal}
use Rattle.dr_meaning.specs.declared.refusal.Refusal.TheVariants.{NoRoom, BadCount}
use Rattle.dr_meaning.specs.declared.command.Claimed.{Claimed}
use Rattle.dr_meaning.specs.declared.command.Command.{Command}
use Rattle.dr_meaning.specs.declared.command.Command.TheVariants.{Claim, Write, Publish, Poll, Complete}
use Rattle.dr_meaning.specs.declared.command.Reply.{Reply}
use Rattle.dr_meaning.specs.declared.command.Reply.TheVariants.{Written, Published, Completed}
use Rattle.dr_meaning.specs.declared.command.Polled.{Polled}
use Rattle.dr_meaning.specs.Meaning.Refusals.{claim_causes, poll_causes, complete_causes}
use Rattle.dr_meaning.specs.Meaning.Machine as machine
use Rattle.dr_meaning.specs.Calls.Replies.{claim_reply, unit_reply, poll_reply}
use Rattle.dr_meaning.specs.Calls.Ends.{IsAnswerOf, WriteAnswers, PublishAnswers, as_end}
use Rattle.dr_ring.specs.Meaning.Shape.{Shape, ring_setup}
use Rattle.dr_ring.specs.declared.record.SenderRecord.{SenderRecord}
use Rattle.dr_ring.specs.declared.record.ReceiverRecord.{ReceiverRecord}
use Rattle.dr_ring.specs.Meaning.Records.{claimed, SeesRoom}
use Rattle.dr_ring.specs.Meaning.Rule.{World}
use Rattle.dr_ring.specs.Meaning.Moments.{picture_of}
use Rattle.dr_ring.specs.Calls.Sending.{LooksToClaim, tests_of_claim}
use Rattle.dr_ring.specs.Calls.Receiving.{tests_of_poll, tests_of_completion}
use Rattle.dr_runs.specs.OneSender.Words.{halt_word}
use Rattle.dr_runs.specs.declared.look.Look.{Look}
use Rattle.dr_runs.specs.Looks.{last_look}
use Rattle.dr_runs.specs.OneSender.Replies.{DecidesPollOf}

-- on the ring's picture the machine replies so
abbrev pub Replies : Shape → World → Command Event → Reply → Type 0
Replies k w command reply = (machine.step (ring_setup k) (picture_of k w) command).reply ≡ reply

-- at halt is what the last of these looks found there
abbrev pub FoundHalt : World → List Look → Type 0
FoundHalt w seen = slice_index w.words halt_word ≡ last_look 0 seen halt_word

-- What is there where a claim is decided, by what it found: nothing need be, where its count is bad, and else what its last look at halt found.
-- A claim without room is decided by its first look, at which no word that it looked at was higher than it then found it.
abbrev pub DecidesClaim : Shape → World → ℕ → List Look → Result Claimed Refusal → Type 0
DecidesClaim k w n seen (Err BadCount) = Unit {0}
DecidesClaim k w n seen (Err NoRoom) = (i : ℕ) (x : Look) → get_elem? seen i ≡ some x → slice_index w.words x.word ≤ x.value
DecidesClaim k w n seen (Err refusal) = FoundHalt w seen
-- and for one that is accepted the sender saw room
DecidesClaim k w n seen (Ok c) = FoundHalt w seen × SeesRoom k w.sender n × (c ≡ record { lo = claimed w.sender; hi = claimed w.sender + n - 1 })

-- and that by which a poll takes nothing; of a batch each event is an entry of the run
abbrev pub DecidesPoll : Shape → World → ReceiverRecord → Result Polled Refusal → Type 0
DecidesPoll k w r = DecidesPollOf k.upstreams w.words r.number (length r.received) (length w.sender.sent.pending)

-- each call of an end, by what the end knows and, where it looks, by what the deciding look finds
pub record RepliesAsAnswered (k : Shape) (w : World) : Type 0 where
  -- by what the sender knew when the claim began, since when it has only looked
  pub claim : (n : ℕ) (r : SenderRecord) (seen : List Look) (result : Result Claimed Refusal) → w.sender ≡ record r { looks = w.sender.looks }
      → IsAnswerOf (claim_causes (tests_of_claim r n)) (as_end result) → LooksToClaim r n seen result → DecidesClaim k w n seen result
      → Replies k w (Claim 0 n) (claim_reply result)
  pub write : (s : ℕ) (event : Event) (result : Result (Unit {0}) Refusal) → WriteAnswers (Some w.sender.sent) s (as_end result)
      → Replies k w (Write 0 s event) (unit_reply Written result)
  pub publish : (lo hi : ℕ) (result : Result (Unit {0}) Refusal) → PublishAnswers (Some w.sender.sent) lo hi (as_end result)
      → Replies k w (Publish 0 lo hi) (unit_reply Published result)
  pub poll : (h room : ℕ) (r : ReceiverRecord) (result : Result Polled Refusal) → get_elem? w.receivers h ≡ some r
      → IsAnswerOf (poll_causes (tests_of_poll r room)) (as_end result) → DecidesPoll k w r result → Replies k w (Poll h room) (poll_reply result)
  pub complete : (h upto : ℕ) (r : ReceiverRecord) (result : Result (Unit {0}) Refusal) → get_elem? w.receivers h ≡ some r
      → IsAnswerOf (complete_causes (tests_of_completion r upto)) (as_end result) → Replies k w (Complete h upto) (unit_reply Completed result)
