-- What the ends of a ring over plain memory with one sender are as ends in place.
use Rattle.std.specs.Prelude.{◌≡◌, ℕ, ◌≤◌, ◌⊎◌, List, length, max, Err, Ok}
use mathlib.Core.Option.{some}
use lib.ListN.{get_elem?}
use Rattle.dr_graph.specs.Meaning.Graph.{least_of, upstreams_of}
use Rattle.dr_meaning.specs.Calls.Calling.{ChangesEvent, ClaimsStretch, CompletesUpTo, InPlaceCall, InPlaceInletCall, Polls, PublishesFilled}
use Rattle.dr_meaning.specs.Calls.Ends.{Sent}
use Rattle.dr_runs.specs.declared.look.Look.{Look}
use Rattle.dr_runs.specs.LastLooks.{found_last}
use Rattle.dr_runs.specs.OneSender.Words.{count_word, cursor_word}
use Rattle.dr_plain.specs.declared.record.ReceiverRecord.{ReceiverRecord}
use Rattle.dr_plain.specs.Calls.Ends.{ReceiverEnd, SenderEnd, sent_of}
use Rattle.dr_plain.specs.Calls.Receiving.{CompleteCall, PollCall}
use Rattle.dr_plain.specs.Calls.Sending.{ClaimCall, PublishCall, UpdateCall}
use Rattle.dr_meaning.specs.declared.claim_fault.ClaimFault.TheVariants.{Contended, Refused}
use Rattle.dr_meaning.specs.Calls.InPlaceInlets.{Sending}

-- of an only sender the open stretch follows what is published
abbrev pub sending_from : {T : Type 0} → Sent T → Sending T
sending_from e = record { published = e.published; first = length e.published; pending = e.pending }

abbrev pub sending_of : {T : Type 0} → SenderEnd T → Sending T
sending_of e = sending_from (sent_of e)

-- each call of a sender tells all that the ring's own does, and nobody else claims: so no claim, change or publication halts or closes the ring
abbrev pub sends_in_place : {T : Type 0} → SenderEnd T → InPlaceInletCall → SenderEnd T → Type 0
sends_in_place e (ClaimsStretch n (Ok claimed)) e' = ClaimCall e n e' (Ok claimed)
sends_in_place e (ClaimsStretch n (Err (Refused refusal))) e' = ClaimCall e n e' (Err refusal)
sends_in_place e (ClaimsStretch n (Err Contended)) e' = ⊥
sends_in_place e (ChangesEvent s) e' = UpdateCall (λ was now. Unit {0}) e s e' (Ok tt)
sends_in_place e (PublishesFilled lo hi) e' = PublishCall e lo hi e' (Ok tt)

-- and so does each call of a receiver
abbrev pub does_in_place : {T : Type 0} → ReceiverEnd T → InPlaceCall → ReceiverEnd T → Type 0
does_in_place e (Polls room answer) e' = PollCall e room e' (Ok answer)
does_in_place e (CompletesUpTo upto) e' = CompleteCall e upto e' (Ok tt)

-- how many events a receiver with so many upstreams found offered at its last looks: the least of their counts or, without upstreams, the cursor
abbrev pub offered_in : ℕ → List Look → ℕ
offered_in upstreams looks = least_of (found_last (max 1 upstreams) looks)

abbrev pub offered_of : {T : Type 0} → ReceiverEnd T → ℕ
offered_of e = offered_in (length (upstreams_of e.knows.plan.upstreams e.knows.number)) e.knows.looks

-- one of a receiver's looks found that at least so many events are published, or completed by a handler
pub record SawPublished {T : Type 0} (r : ReceiverRecord T) (n : ℕ) : Type 0 where
  pub place : ℕ
  pub saw : Look
  pub there : get_elem? r.looks place ≡ some saw
  pub word : (saw.word ≡ cursor_word) ⊎ ((u : ℕ) × (saw.word ≡ count_word u))
  pub enough : n ≤ saw.value

abbrev pub SawSome : {T : Type 0} → ReceiverEnd T → ℕ → Type 0
SawSome e n = SawPublished e.knows n
