-- What a recorder counts of what its end receives, and that it is what was sent.
use Rattle.std.proofs.Common.{◌≡◌, ℕ, ◌+◌, ◌-◌, Bool, ◌<◌, ◌^◌, ◌%◌, List, [], ◌∷◌, ◌++◌, length, take, drop, Result, Ok, Err, arith, ap, sym, ◌∙◌}
use Rattle.std.proofs.lemmas.List.{length-append, length-drop, length-map, take_all}
use Rattle.dr_meaning.specs.declared.command.Polled.TheVariants.{Batch}
use Rattle.dr_meaning.specs.declared.refusal.Refusal.{Refusal}
use Rattle.dr_meaning.specs.declared.refusal.Refusal.TheVariants.{OpenClaim}
use Rattle.dr_meaning.specs.Calls.Handling.{GoesThrough, Relation, Showing, showings}
use Rattle.dr_meaning.proofs.Showings.{length-showings}
use Rattle.dr_plain.specs.declared.record.ReceiverRecord.{ReceiverRecord}
use Rattle.dr_plain.specs.declared.record.SenderRecord.{SenderRecord}
use Rattle.dr_plain.specs.Calls.Ends.{ReceiverEnd, SenderEnd, received_of, sent_of}
use Rattle.dr_plain.specs.Calls.Sending.{CloseCall}
use Rattle.dr_plain.specs.Calls.Turning.{TurnCall}
use Rattle.dr_plain.specs.Meaning.Settling.{HasBeginning}
use Rattle.example_ticks.specs.Promises.{CountedAll, HasCounted}
use Rattle.example_ticks.specs.declared.Recorded.{Recorded}
use Rattle.example_ticks.specs.declared.Recorder.{Recorder}
use Rattle.example_ticks.specs.declared.Tick.{Tick}

-- On a recorder's thread.

-- one call, as the recorder says it
abbrev records : Relation Tick Recorder
records old tick s end new = new.count ≡ (old.count + 1) % 2 ^ 64

-- of what it is shown it counts each
counts_each : (old new : Recorder) (shown : List (Showing Tick)) → GoesThrough records old shown new → old.count + length shown < 2 ^ 64
    → new.count ≡ old.count + length shown
counts_each old new [] same few = let none = ap (λ (r : Recorder). r.count) same in omega arith
counts_each old new (x ∷ shown) went few =
    let one = went.1 in
    let rest = counts_each went.0 new shown went.2 (omega arith) in
    omega arith

-- after a batch a recorder has counted all that its end received
pub counts_batch : {given e e' : ReceiverEnd Tick} {old new : Recorder} (room first count : ℕ) (end : Bool) → HasCounted given e old
    → TurnCall records e room e' (Ok (Batch first count end)) old new → HasCounted given e' new
counts_batch {given} {e} {e'} {old} {new} room first count end had turn =
    let polled = turn.0 in
    let took = turn.1.1.1.2 in
    let next : first ≡ length e.knows.received = took.0 in
    let more : length polled.knows.received ≡ length e.knows.received + length took.5.0 =
    ap (λ (r : ReceiverRecord Tick). length r.received) took.5.2 ∙ length-append e.knows.received took.5.0 in
    let kept : length e'.knows.received ≡ length polled.knows.received = ap (λ (r : ReceiverRecord Tick). length r.received) turn.2.1.2 in
    let all : length (received_of polled.knows).events ≡ length polled.knows.received = length-map polled.knows.received _ in
    let shown = showings (drop first (received_of polled.knows).events) first end in
    let many : length shown ≡ length (received_of polled.knows).events - first =
    length-showings (drop first (received_of polled.knows).events) first end ∙ length-drop first (received_of polled.knows).events in
    record {
      place = turn.2.0 ∙ turn.1.0 ∙ had.place;
      count = λ few. (let was = had.count (omega arith) in let counts = counts_each old new shown turn.3 (omega arith) in omega arith);
    }

-- Once all ends are together.

-- a close publishes nothing
closes : (s s' : SenderEnd Tick) (answer : Result (Unit {0}) Refusal) → CloseCall s s' answer → s'.knows.published ≡ s.knows.published
closes s s' (Ok done) call = ap (λ (r : SenderRecord Tick). r.published) call.1.1
closes s s' (Err OpenClaim) call = ap (λ (r : SenderRecord Tick). r.published) call.1.1
closes s s' (Err other) call = absurd call.1

-- a sender that had sent nothing sent so many ticks, and closed its ring
pub all_sent : (given s s' : SenderEnd Tick) (answer : Result (Unit {0}) Refusal) (ticks : List Tick) (n : ℕ) → (sent_of given).published ≡ []
    → (sent_of s).published ≡ (sent_of given).published ++ take n ticks → n ≡ length ticks → CloseCall s s' answer
    → length s'.knows.published ≡ length ticks
all_sent given s s' answer ticks n none adds all call =
    let sent : (sent_of s).published ≡ ticks = adds ∙ ap (λ (l : List Tick). l ++ take n ticks) none ∙ take_all n ticks (omega arith) in
    let many : length (sent_of s).published ≡ length s.knows.published = length-map s.knows.published _ in
    ap length (closes s s' answer call) ∙ sym many ∙ ap length sent

-- a recorder that kept its promise counted all that was published
pub counted_all : {given : ReceiverEnd Tick} {back : Recorded} {s : SenderRecord Tick} → CountedAll given back → given.knows.received ≡ []
    → HasBeginning s back.receiver.knows → length s.published < 2 ^ 64 → back.recorder.count ≡ length s.published
counted_all {given} {back} {s} promise fresh has few =
    let none : length given.knows.received ≡ 0 = ap length fresh in
    let all : length back.receiver.knows.received ≡ length s.published = ap length (has.drained promise.drained) in
    let counts = promise.counted.count (omega arith) in
    omega arith
