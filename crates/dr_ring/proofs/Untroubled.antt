-- What a receiver answers to polls with room, and to completions of what it took: no trouble.
use Rattle.std.proofs.Common.{◌≡◌, ◌<◌, ◌≤◌, ℕ, Bool, List, length, Ok, Err, ap, ⊎_elim, arith}
use Rattle.std.proofs.lemmas.Bool.{eqb-true, false≢true, ltb-true}
use Rattle.dr_seq.specs.declared.event.Event.{Event}
use Rattle.dr_meaning.specs.declared.command.Polled.{Polled}
use Rattle.dr_meaning.specs.declared.command.Polled.TheVariants.{Batch, Drained, Gating, Idle}
use Rattle.dr_meaning.specs.declared.ends.Trouble.{Trouble}
use Rattle.dr_meaning.specs.declared.ends.Trouble.TheVariants.{Memory, Refused}
use Rattle.dr_meaning.specs.Calls.Calling.{PollsInto, CompletesBelow}
use Rattle.dr_meaning.specs.Calls.Ends.{Completes, Takes}
use Rattle.dr_ring.specs.Calls.Ends.{ReceiverEnd, received_of}
use Rattle.dr_ring.specs.Calls.Outlets.{receiver_does}

pub polls : (a b : ReceiverEnd) (before after : List Event) (trouble : Trouble) → 0 < length before
    → receiver_does a (PollsInto before after (Err trouble)) b → ⊥
polls a b before after Memory some is = is
polls a b before after (Refused r) some is =
    ⊎_elim (λ no. false≢true no.0)
    (λ there. ⊎_elim (λ no. false≢true no.0)
    (λ left. ⊎_elim (λ room. let none : length before ≡ 0 = eqb-true (length before) 0 room.0 in absurd (omega arith)) (λ more. more.1) left.1) there.1)
    is.1.0

pub takes : (a b : ReceiverEnd) (before after : List Event) (answer : Polled) → receiver_does a (PollsInto before after (Ok answer)) b
    → Takes after (Ok answer) (received_of a.knows) (received_of b.knows)
takes a b before after (Batch first count end) is = (let answers = is.1.1.2 in (answers.0, ap received_of answers.4))
takes a b before after Drained is = (let answers = is.1.1.2 in ap received_of answers.3)
takes a b before after Gating is = (let answers = is.1.1.2 in ap received_of answers.3)
takes a b before after Idle is = (let answers = is.1.1.2 in ap received_of answers.3)

pub fits : (a b : ReceiverEnd) (before after : List Event) (first count : ℕ) (end : Bool)
    → receiver_does a (PollsInto before after (Ok (Batch first count end))) b → count ≤ length before
fits a b before after first count end is = (let many = is.1.1.2.2 in omega arith)

pub completes : (a b : ReceiverEnd) (upto : ℕ) (trouble : Trouble) → a.knows.completed ≤ upto → upto ≤ length a.knows.received
    → receiver_does a (CompletesBelow upto (Err trouble)) b → ⊥
completes a b upto Memory low high is = is
completes a b upto (Refused r) low high is =
    ⊎_elim (λ no. false≢true no.0)
    (λ there. ⊎_elim (λ no. false≢true no.0)
    (λ left. ⊎_elim (λ behind. let less = ltb-true upto a.knows.completed behind.0 in absurd (omega arith))
    (λ last. ⊎_elim (λ beyond. let more = ltb-true (length a.knows.received) upto beyond.0 in absurd (omega arith)) (λ more. more.1) last.1) left.1) there.1)
    is.1.0

pub completed : (a b : ReceiverEnd) (upto : ℕ) → receiver_does a (CompletesBelow upto (Ok tt)) b
    → Completes upto (Ok tt) (received_of a.knows) (received_of b.knows)
completed a b upto is = is.1.1
