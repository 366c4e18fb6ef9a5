-- What each call of a receiver answers, and what it leaves of what the receiver knows.
use Rattle.std.specs.Prelude.{◌≡◌, ◌↔◌, ℕ, ◌+◌, ◌-◌, ◌<◌, ◌==◌, ◌&&◌, ◌||◌, IsTrue, true, false, min, List, [], ◌∷◌, ◌++◌, length, take, drop, Some}
use Rattle.std.specs.Prelude.{Result, Ok, Err, Contains}
use Rattle.dr_seq.specs.declared.event.Event.{Event}
use Rattle.dr_meaning.specs.declared.refusal.Refusal.{Refusal}
use Rattle.dr_meaning.specs.declared.command.Polled.{Polled}
use Rattle.dr_meaning.specs.declared.command.Polled.TheVariants.{Batch, Drained, Gating, Idle}
use Rattle.dr_meaning.specs.Meaning.Refusals.{PollTests, CompleteTests, poll_causes, complete_causes}
use Rattle.dr_meaning.specs.Calls.Ends.{Verdict, Exactly, IsAnswerOf, poll_tests, complete_tests, Completes, as_end}
use Rattle.dr_graph.specs.Meaning.Graph.{upstreams_of}
use Rattle.dr_runs.specs.OneSender.Words.{cursor_word, closed_word}
use Rattle.dr_ring.specs.declared.record.ReceiverRecord.{ReceiverRecord}
use Rattle.dr_ring.specs.declared.record.Step.TheVariants.{ReceiverCompletes}
use Rattle.dr_runs.specs.Runs.{IsBeginning, StoresWhereOk}
use Rattle.dr_ring.specs.Calls.Ends.{ReceiverEnd, received_of, receiver_place}
use Rattle.dr_runs.specs.Looks.{look}
use Rattle.dr_runs.specs.OneSender.Looks.{count_looks}
use Rattle.dr_runs.specs.OneSender.Polls.{PollLooks, offer}

abbrev pub ups_of : ReceiverRecord → List ℕ
ups_of r = upstreams_of r.plan.upstreams r.number

-- a receiver knows all of its own tests
abbrev pub tests_of_poll : ReceiverRecord → ℕ → PollTests Verdict
tests_of_poll r room = record (poll_tests (Some (received_of r)) room) { retired = Exactly false }

abbrev pub tests_of_completion : ReceiverRecord → ℕ → CompleteTests Verdict
tests_of_completion r upto = record (complete_tests (Some (received_of r)) upto) { retired = Exactly false }

-- a receiver has taken these events more
abbrev pub received_all : ReceiverRecord → List Event → ReceiverRecord
received_all r events = record r { received = r.received ++ events }

-- what a receiver knows once it has looked so
abbrev pub looked_round : ReceiverRecord → PollLooks → ReceiverRecord
looked_round r seen = record r {
  told = r.told || ((seen.closed == 1) && (seen.cursor == length r.received));
  looks = r.looks ++ look closed_word seen.closed ∷ look cursor_word seen.cursor ∷ count_looks (upstreams_of r.plan.upstreams r.number) seen.counts;
}

-- what a poll answers, where it saw this; who was told that the ring drained gets no batch any more
abbrev pub AnswersAsSeen : ReceiverRecord → List Event → ReceiverRecord → List Event → PollLooks → Polled → Type 0
AnswersAsSeen r out r' out' seen (Batch first count last) =
    (first ≡ length r.received) × (first < offer seen) × (count ≡ min (offer seen - first) (length out)) × (IsTrue last ↔ (first + count ≡ offer seen))
    × (r' ≡ received_all (looked_round r seen) (take count out')) × (r'.told ≡ false) × (drop count out' ≡ drop count out)
AnswersAsSeen r out r' out' seen Drained =
    (seen.closed ≡ 1) × (seen.cursor ≡ length r.received) × (offer seen ≡ length r.received) × (r' ≡ looked_round r seen) × (r'.told ≡ true) × (out' ≡ out)
AnswersAsSeen r out r' out' seen Gating =
    (length r.received < seen.cursor) × Contains seen.counts (length r.received) × (offer seen ≡ length r.received) × (r' ≡ looked_round r seen) × (out' ≡ out)
AnswersAsSeen r out r' out' seen Idle =
    (seen.closed ≡ 0) × (seen.cursor ≡ length r.received) × (offer seen ≡ length r.received) × (r' ≡ looked_round r seen) × (out' ≡ out)

-- a poll that is not refused answers by what it saw
abbrev pub PollSees : ReceiverRecord → List Event → ReceiverRecord → List Event → Result Polled Refusal → Type 0
PollSees r out r' out' (Ok polled) = (seen : PollLooks) × (length seen.counts ≡ length (upstreams_of r.plan.upstreams r.number)) × AnswersAsSeen r out r' out' seen polled
PollSees r out r' out' (Err refusal) = (r' ≡ r) × (out' ≡ out)

abbrev pub Polls : ReceiverRecord → List Event → ReceiverRecord → List Event → Result Polled Refusal → Type 0
Polls r out r' out' result = IsAnswerOf (poll_causes (tests_of_poll r (length out))) (as_end result) × PollSees r out r' out' result

abbrev pub TriesToComplete : ReceiverRecord → ℕ → ReceiverRecord → Result (Unit {0}) Refusal → Type 0
TriesToComplete r n r' result =
    IsAnswerOf (complete_causes (tests_of_completion r n)) (as_end result)
    × Completes n (as_end result) (received_of r) (received_of r') × (r' ≡ record r { completed = r'.completed })

abbrev pub PollCall : ReceiverEnd → List Event → ReceiverEnd → List Event → Result Polled Refusal → Type 0
PollCall e out e' out' result = (receiver_place e' ≡ receiver_place e) × Polls e.knows out e'.knows out' result × (e'.stored ≡ e.stored) × IsBeginning e.past e'.past

abbrev pub CompleteCall : ReceiverEnd → ℕ → ReceiverEnd → Result (Unit {0}) Refusal → Type 0
CompleteCall e n e' result = (receiver_place e' ≡ receiver_place e) × TriesToComplete e.knows n e'.knows result × StoresWhereOk e.stored (ReceiverCompletes e.knows.number n ∷ []) e'.stored result × IsBeginning e.past e'.past
