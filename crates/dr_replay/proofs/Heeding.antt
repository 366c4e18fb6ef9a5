-- No worker that its gate has to stop at its first passage leaves a report of events.
use Rattle.std.proofs.Common.{◌≡◌, ◌≢◌, ◌<◌, ℕ, true, false, List, [], ◌∷◌, ◌++◌, length, take, map, flat_map, get_or, All, Vec, Option, None, Result, Ok, Err}
use Rattle.std.proofs.Common.{IfOk, ⊎_elim, refl, subst, sym, ap, ◌∙◌, arith}
use Rattle.std.specs.Prelude.{Bool}
use Rattle.std.proofs.lemmas.Bool.{false≢true}
use Rattle.std.proofs.lemmas.List.{get_or-map, length-map}
use Rattle.std.proofs.lemmas.List.Elements.{All-nil, All-cons}
use Rattle.std.proofs.lemmas.List.FromFn.{get_or-map-range_with_len, length-map-range_with_len}
use Rattle.std.proofs.lemmas.Option.{none-some}
use Rattle.dr_seq.specs.declared.event.Event.{Event}
use Rattle.dr_meaning.specs.declared.command.Claimed.{Claimed}
use Rattle.dr_meaning.specs.Calls.Calling.{InletCall, OutletCall, TriesClaim, WritesOne, WritesMany, PublishesStretch, each_written}
use Rattle.dr_meaning.specs.Calls.Handling.{Relation}
use Rattle.dr_ring.specs.Calls.Ends.{ReceiverEnd, SenderEnd, received_of}
use Rattle.dr_workers.specs.Calls.Serving.{ConsumerEnds, ProducerEnds, Sends}
use Rattle.dr_workers.specs.Calls.Stops.{fault_in_trouble}
use Rattle.dr_lock.specs.Calls.Lock.{EndView}
use Rattle.dr_lock.specs.Meaning.History.{History}
use Rattle.dr_workers.specs.Meaning.Work.{Dealt, HandsOut, Part, accepted_in, batches_in, claims_in, dealt_events, sending_of}
use Rattle.dr_workers.specs.declared.producer.Produced.{Produced}
use Rattle.dr_workers.specs.declared.fault.WorkFault.{WorkFault}
use Rattle.dr_workers.specs.declared.fault.WorkFault.TheVariants.{Memory, Stopped}
use Rattle.dr_reports.specs.Keeping.{AnswersFor, IsServed}
use Rattle.dr_replay.specs.declared.given_back.Delivered.{Delivered}
use Rattle.dr_replay.specs.declared.lock_workers.Joined.{Joined}
use Rattle.dr_replay.specs.declared.ring.Returned.{Returned}
use Rattle.dr_replay.specs.Calls.LockWorkers.{HasSent}
use Rattle.dr_replay.specs.Inside.LockWorkers.{IsJoined}
use Rattle.dr_replay.specs.Meaning.Scripts.{producers_in, script_in, scripts_in}
use Rattle.dr_replay.specs.Calls.Workers.{AreThrough, IsRun, NoProducerHadToStop, NoneHadToStop}
use Rattle.dr_reports.proofs.Answering.{one_of_both}
use Rattle.dr_replay.proofs.Stopping.{some_of}

-- whoever has no fault was not stopped
ends_unstopped : (stopped : Bool) (calls : List (OutletCall Event)) (fault : Option WorkFault) → ConsumerEnds stopped calls fault → fault ≡ None
    → stopped ≢ true
ends_unstopped true calls fault ends fine is =
    ⊎_elim (λ told. none-some Stopped (sym fine ∙ told.1)) (λ trouble. none-some (fault_in_trouble true trouble.0) (sym fine ∙ trouble.2)) ends
ends_unstopped false calls fault ends fine is = false≢true is

one_more : {X : Type 0} (x : X) (xs : List X) → 0 < length (x ∷ xs)
one_more x xs = omega arith

some_batch : (event : Event) (events : List Event) (batches : List (Dealt Event)) → event ∷ events ≡ dealt_events batches → 0 < length batches
some_batch event events [] is = absurd (cc)
some_batch event events (b ∷ batches) is = one_more b batches

fine_before : (failed : Bool) (fault answer : Option WorkFault) → AnswersFor failed fault answer → answer ≡ None → fault ≡ None
fine_before failed fault answer answers fine =
    ⊎_elim (λ same. sym same ∙ fine) (λ memory. absurd (none-some Memory (sym fine ∙ memory))) (one_of_both failed fault answer answers)

-- a handler that received events
heeds : {A : Type 0} (goes : Relation Event A) (IsNew : A → Type 0) (failed : A → Bool) (may_stop must_stop : ℕ → Type 0) (given back : ReceiverEnd)
    (answer : Option WorkFault) (event : Event) (events : List Event) → IsServed goes IsNew failed may_stop must_stop given back answer
    → given.knows.received ≡ [] → back.knows.received ≡ event ∷ events → answer ≡ None → must_stop 0 → ⊥
heeds goes IsNew failed may_stop must_stop given back answer event events is none received fine must =
    let gate = is.calls.holds.gate in
    let batches = batches_in is.calls.calls in
    let handed : HandsOut batches (received_of given.knows) (received_of back.knows) = is.calls.holds.works.handed in
    let dealt : event ∷ events ≡ dealt_events batches = sym received ∙ handed.0 ∙ ap (λ (l : List Event). l ++ dealt_events batches) none in
    ends_unstopped gate.stopped is.calls.calls is.fault gate.answers (fine_before (failed is.after) is.fault answer is.answers fine)
    (gate.must 0 (some_batch event events batches dealt) (omega arith) must)

-- a claim comes before the writes of its part
after_writes : (lo n : ℕ) (stretch : Claimed) (events : List Event) (accepted rest : List (InletCall Event))
    → each_written lo events ++ accepted ≡ TriesClaim n (Ok stretch) ∷ rest → accepted ≡ TriesClaim n (Ok stretch) ∷ rest
after_writes lo n stretch [] accepted rest is = is
after_writes lo n stretch (event ∷ events) accepted rest is = absurd (cc)

-- whoever begins with a claim claims something
claims_some : (n : ℕ) (stretch : Claimed) (calls rest : List (InletCall Event)) → accepted_in calls ≡ TriesClaim n (Ok stretch) ∷ rest
    → 0 < length (claims_in calls)
claims_some n stretch [] rest is = absurd (cc)
claims_some n stretch (TriesClaim m (Ok claimed) ∷ calls) rest is = one_more m (claims_in calls)
claims_some n stretch (TriesClaim m (Err trouble) ∷ calls) rest is = claims_some n stretch calls rest is
claims_some n stretch (WritesOne s event (Ok done) ∷ calls) rest is = absurd (cc)
claims_some n stretch (WritesOne s event (Err trouble) ∷ calls) rest is = claims_some n stretch calls rest is
claims_some n stretch (WritesMany lo events wrote ∷ calls) rest is =
    claims_some n stretch calls rest (after_writes lo n stretch (take wrote.count events) (accepted_in calls) rest is)
claims_some n stretch (PublishesStretch lo hi (Ok done) ∷ calls) rest is = absurd (cc)
claims_some n stretch (PublishesStretch lo hi (Err trouble) ∷ calls) rest is = claims_some n stretch calls rest is

some_part : (calls next : List (InletCall Event)) (events : List Event) (parts : List (Part Event)) → accepted_in calls ≡ flat_map sending_of parts ++ next
    → flat_map (λ (part : Part Event). part.events) parts ≡ events → 0 < length events → 0 < length (claims_in calls)
some_part calls next events [] sends are some = let none : 0 ≡ length events = ap length are in absurd (omega (arith, none))
some_part calls next events (part ∷ parts) sends are some = claims_some (length part.events) part.stretch calls _ sends

-- a producer's worker without a fault sent all and was not stopped
sent_unstopped : (cut : ℕ) (script : List Event) (stopped : Bool) (calls : List (InletCall Event)) (produced : Produced)
    → ProducerEnds cut script stopped calls produced → produced.fault ≡ None
    → (produced.sent ≡ length script) × (stopped ≢ true)
sent_unstopped cut script true calls produced ends fine =
    ⊎_elim (λ told. absurd (none-some Stopped (sym fine ∙ told.1)))
    (λ trouble. absurd (none-some (fault_in_trouble true trouble.0) (sym fine ∙ trouble.2))) ends
sent_unstopped cut script false calls produced ends fine =
    ⊎_elim (λ told. (told.0, false≢true)) (λ trouble. absurd (none-some (fault_in_trouble false trouble.0) (sym fine ∙ trouble.2))) ends

-- a producer's worker that had an event to send
sends_heed : (cut : ℕ) (event : Event) (events : List Event) (may_stop must_stop : ℕ → Type 0) (produced : Produced) (calls : List (InletCall Event))
    → Sends cut (event ∷ events) may_stop must_stop produced calls → produced.fault ≡ None → must_stop 0 → ⊥
sends_heed cut event events may_stop must_stop produced calls is fine must =
    let script : List Event = event ∷ events in
    let ended = sent_unstopped cut script is.gate.stopped calls produced is.gate.answers fine in
    let some : 0 < length (take produced.sent script) =
    subst (λ n. 0 < length (take n (event ∷ events))) (sym ended.0) (one_more event (take (length events) events)) in
    ended.1 (is.gate.must 0 (some_part calls is.sends.next (take produced.sent script) is.sends.parts is.sends.calls is.sends.events some) (omega arith) must)

-- over a ring
module _ (may_stop must_stop : ℕ → ℕ → Type 0) (size : ℕ) where
  pub run_heeds : (events : List Event) (s : SenderEnd) (j r b : ReceiverEnd) (ran : Returned) → IsRun may_stop must_stop size events s j r b ran
      → j.knows.received ≡ [] → r.knows.received ≡ [] → b.knows.received ≡ [] → AreThrough events ran → NoneHadToStop must_stop events
  run_heeds [] s j r b ran is first second third through = tt
  run_heeds (event ∷ events) s j r b ran is first second third through =
      let Passes : ℕ → Type 0 = λ who. must_stop who 0 → ⊥ in
      let calls = is.sending.sends.calls in
      All-cons Passes 0 (1 ∷ 2 ∷ 16 ∷ []) (heeds _ _ _ _ _ j ran.journal.receiver _ event events is.journal.served first through.journal.0 through.journal.1)
      (All-cons Passes 1 (2 ∷ 16 ∷ []) (heeds _ _ _ _ _ r ran.replica.receiver _ event events is.replica.served second through.replica.0 through.replica.1)
      (All-cons Passes 2 (16 ∷ []) (heeds _ _ _ _ _ b ran.business.receiver _ event events is.business.served third through.business.0 through.business.1)
      (All-cons Passes 16 [] (sends_heed _ event events _ _ ran.produced calls.calls calls.holds through.sender) (All-nil Passes))))

-- where a report is said
pub where_ok : {A E : Type 0} {P Q : Type 0} (r : Result A E) → (P → Q) → IfOk r (λ _. P) → IfOk r (λ _. Q)
where_ok (Ok x) then is = then is
where_ok (Err e) then is = tt

-- behind a lock

sent_heeds : (begun : History Event) (p cut : ℕ) (script : List Event) (may_stop must_stop : ℕ → Type 0) (back : EndView Event) (answer : Option WorkFault)
    → HasSent begun p cut script may_stop must_stop back answer → answer ≡ None → script ≢ [] → must_stop 0 → ⊥
sent_heeds begun p cut [] may_stop must_stop back answer is fine some must = some refl
sent_heeds begun p cut (event ∷ events) may_stop must_stop back answer is fine some must =
    sends_heed cut event events may_stop must_stop is.produced is.sends.calls.calls is.sends.calls.holds (sym is.answers ∙ fine) must

-- of several producers' workers without a fault, none had to stop that had an event to send
pub joined_heeds : {L Z : Type 0} (begun : History Event) (may_stop must_stop : ℕ → ℕ → Type 0) (size : ℕ) (scripts : List (Vec Event Z)) (joined : Joined L)
    (events : List Event) → IsJoined begun may_stop must_stop size scripts joined
    → All (λ (f : Option WorkFault). f ≡ None) (map (λ (s : Delivered L). s.fault) joined.producers.items)
    → map (λ (v : Vec Event Z). v.items) scripts ≡ scripts_in events → NoProducerHadToStop must_stop events
joined_heeds {L} {Z} begun may_stop must_stop size scripts joined events is fine are = λ p below some must.
    let sent = joined.producers.items in
    let all : length scripts ≡ producers_in events = sym (length-map scripts (λ (v : Vec Event Z). v.items)) ∙ ap length are
    ∙ length-map-range_with_len (script_in events) 0 (producers_in events) in
    let within : p < length scripts = omega (arith, all) in
    let inside : p < length sent = omega (arith, is.producers.many) in
    let script = some_of scripts p within in
    let s = some_of sent p inside in
    let kept = is.producers.each p s script inside in
    let listed : (get_or scripts p script).items ≡ script_in events p =
    sym (get_or-map (λ (v : Vec Event Z). v.items) scripts p script [] within) ∙ ap (λ l. get_or l p []) are
    ∙ get_or-map-range_with_len (script_in events) 0 (producers_in events) p p [] below (omega arith) in
    let unfaulted : (get_or sent p s).fault ≡ None =
    sym (get_or-map (λ (s : Delivered L). s.fault) sent p s None inside)
    ∙ fine p None (subst (λ n. p < n) (sym (length-map sent (λ (s : Delivered L). s.fault))) inside) in
    sent_heeds begun p _ (get_or scripts p script).items _ _ _ _ kept unfaulted (λ none. some (sym listed ∙ none)) must
