-- Calls through a run's only sender halt no ring, so none of its claims finds it halted.
use Rattle.std.proofs.Common.{◌≡◌, ◌≢◌, ◌<◌, ℕ, if◌then◌else◌, Bool, false, List, [], ◌∷◌, ◌++◌, length, Result, Ok, Err, sym, ap, subst, ◌∙◌, arith}
use Rattle.std.specs.Prelude.{All}
use Rattle.std.proofs.lemmas.List.{get_or_append_left, length-append}
use denote.RawPtr.{Ptr}
use Rattle.dr_meaning.specs.declared.claim_fault.ClaimFault.TheVariants.{Contended, Refused}
use Rattle.dr_meaning.specs.declared.refusal.Refusal.{Refusal}
use Rattle.dr_meaning.specs.declared.refusal.Refusal.TheVariants.{Halted, OpenClaim}
use Rattle.dr_meaning.specs.Calls.Calling.{CallsLead, ChangesEvent, ClaimsStretch, InPlaceInletCall, PublishesFilled}
use Rattle.dr_meaning.specs.Calls.Handling.{Relation}
use Rattle.dr_runs.specs.declared.look.Look.{Look}
use Rattle.dr_runs.specs.OneSender.Words.{halt_word}
use Rattle.dr_runs.specs.Runs.{IsBeginning}
use Rattle.dr_runs.proofs.Beginnings.{begins_on, begins_same}
use Rattle.dr_plain.specs.declared.record.SenderRecord.{SenderRecord}
use Rattle.dr_plain.specs.declared.settled.Settled.{Settled}
use Rattle.dr_plain.specs.Meaning.Settling.{FoundUnhalted}
use Rattle.dr_plain.specs.Meaning.Shape.{Shape}
use Rattle.dr_plain.specs.Calls.Ends.{SenderEnd, sender_place}
use Rattle.dr_plain.specs.Calls.InPlace.{sending_of, sends_in_place}
use Rattle.dr_plain.specs.Calls.Sending.{CloseCall, WriteCall}
use Rattle.dr_plain.proofs.Unrefused.{never_halted}
use Rattle.dr_disruptor.specs.declared.running.RunOutcome.{RunOutcome}
use Rattle.dr_disruptor.specs.Running.{IsOutcomeBy}
use Rattle.dr_disruptor.specs.Sending.{IsRefused, OnlyCalled}
use Rattle.dr_disruptor.proofs.Called.{called_on}

all_front : {A : Type 0} (P : A → Type 0) (xs ys : List A) → All P (xs ++ ys) → All P xs
all_front P xs ys all i x less =
    let long = length-append xs ys in
    let inside : i < length (xs ++ ys) = omega arith in
    subst P (get_or_append_left xs ys x i less) (all i x inside)

-- a look did not find the ring halted
abbrev NoHalt : Look → Type 0
NoHalt x = x.word ≡ halt_word → x.value ≡ 0

module _ {E : Type 0} where
  -- a sender did not halt the ring, nor close it, and looked on
  record LooksOn (a b : SenderEnd E) : Type 0 where
    halted : b.knows.halted ≡ a.knows.halted
    closed : b.knows.closed ≡ a.knows.closed
    more : IsBeginning a.knows.looks b.knows.looks

  -- where it knows the same of these
  same_looks : (a b : SenderEnd E) → b.knows.halted ≡ a.knows.halted → b.knows.closed ≡ a.knows.closed → b.knows.looks ≡ a.knows.looks → LooksOn a b
  same_looks a b halted closed looks = record {
    halted = halted;
    closed = closed;
    more = subst (λ (l : List Look). IsBeginning a.knows.looks l) (sym looks) (begins_same a.knows.looks);
  }

  writes_on : (a b : SenderEnd E) (s : ℕ) (event : E) → WriteCall a s event b (Ok tt) → LooksOn a b
  writes_on a b s event is =
      let only = is.1.only in
      same_looks a b (ap (λ (r : SenderRecord E). r.halted) only) (ap (λ (r : SenderRecord E). r.closed) only) (ap (λ (r : SenderRecord E). r.looks) only)

  looks_on : (a b : SenderEnd E) (call : InPlaceInletCall) → sends_in_place a call b → LooksOn a b
  looks_on a b (ClaimsStretch n (Ok claimed)) is = record {
    halted = ap (λ (r : SenderRecord E). r.halted) is.1.only;
    closed = ap (λ (r : SenderRecord E). r.closed) is.1.only;
    more = (is.1.seen, ap (λ (r : SenderRecord E). r.looks) is.1.only);
  }
  looks_on a b (ClaimsStretch n (Err (Refused refusal))) is = record {
    halted = ap (λ (r : SenderRecord E). r.halted) is.1.only;
    closed = ap (λ (r : SenderRecord E). r.closed) is.1.only;
    more = (is.1.seen, ap (λ (r : SenderRecord E). r.looks) is.1.only);
  }
  looks_on a b (ClaimsStretch n (Err Contended)) is = absurd is
  looks_on a b (ChangesEvent s) is = writes_on a b s is.1 is.4
  looks_on a b (PublishesFilled lo hi) is =
      let only = is.1.only in
      same_looks a b (ap (λ (r : SenderRecord E). r.halted) only) (ap (λ (r : SenderRecord E). r.closed) only) (ap (λ (r : SenderRecord E). r.looks) only)

  looks_on_all : (a b : SenderEnd E) (calls : List InPlaceInletCall) → CallsLead sends_in_place a calls b → LooksOn a b
  looks_on_all a b [] lead =
      same_looks a b (ap (λ (e : SenderEnd E). e.knows.halted) lead) (ap (λ (e : SenderEnd E). e.knows.closed) lead) (ap (λ (e : SenderEnd E). e.knows.looks) lead)
  looks_on_all a b (call ∷ calls) lead =
      let first = looks_on a lead.0 call lead.1 in
      let rest = looks_on_all lead.0 b calls lead.2 in
      record {
        halted = rest.halted ∙ first.halted;
        closed = rest.closed ∙ first.closed;
        more = begins_on a.knows.looks lead.0.knows.looks b.knows.looks first.more rest.more;
      }

  -- whatever is called of it, it does not halt or close its ring
  pub stays_open : (a b : SenderEnd E) → OnlyCalled sends_in_place a b → (b.knows.halted ≡ a.knows.halted) × (b.knows.closed ≡ a.knows.closed)
  stays_open a b called = let on = looks_on_all a b called.0 called.1 in (on.halted, on.closed)

  -- what it found before some calls, where it found no halt after them
  found_before : (a b : SenderEnd E) → LooksOn a b → b.knows.halted ≡ false → FoundUnhalted b.knows → FoundUnhalted a.knows
  found_before a b on off found =
      let none : All NoHalt b.knows.looks = subst (λ (h : Bool). All NoHalt (if h then b.knows.before else b.knows.looks)) off found in
      let front : All NoHalt a.knows.looks = all_front NoHalt a.knows.looks on.more.0 (subst (All NoHalt) on.more.1 none) in
      subst (λ (h : Bool). All NoHalt (if h then a.knows.before else a.knows.looks)) (sym (sym on.halted ∙ off)) front

  -- and before it closed the ring
  found_open : (a b : SenderEnd E) (answer : Result (Unit {0}) Refusal) → CloseCall a b answer → FoundUnhalted b.knows → FoundUnhalted a.knows
  found_open a b (Ok done) close found = subst (λ (r : SenderRecord E). FoundUnhalted r) close.1.1 found
  found_open a b (Err OpenClaim) close found = subst (λ (r : SenderRecord E). FoundUnhalted r) close.1.1 found
  found_open a b (Err other) close found = absurd close.1

  -- no claim among the calls of a sender is refused with a halt, where it found none up to its own at last
  pub unrefused : (given tried after back closed : SenderEnd E) (n : ℕ) (answer : Result (Unit {0}) Refusal) → given.knows.halted ≡ false
      → OnlyCalled sends_in_place given tried → sends_in_place tried (ClaimsStretch n (Err (Refused Halted))) after → OnlyCalled sends_in_place after back
      → CloseCall back closed answer → FoundUnhalted closed.knows → ⊥
  unrefused given tried after back closed n answer off before claim behind close found =
      let came = looks_on_all given tried before.0 before.1 in
      let here = looks_on tried after (ClaimsStretch n (Err (Refused Halted))) claim in
      let on = looks_on_all after back behind.0 behind.1 in
      let off_after : after.knows.halted ≡ false = here.halted ∙ came.halted ∙ off in
      never_halted tried after n off_after (found_before after back on (on.halted ∙ off_after) (found_open back closed answer close found)) claim

-- so no send of a closure is refused with a halt, where nothing but calls of its sender came before it and after
pub not_halted : {E T A B : Type 0} {sends : SenderEnd E → B → SenderEnd E → Type 0} {goes : Relation E A} {listed : T → List A}
    {went : ℕ → List E → T → T → Type 0} {most : ℕ} {shape : Ptr → Shape} {events : List E} {handlers : T} {ran : RunOutcome E T (Settled E) B}
    (is : IsOutcomeBy sends (λ sender. sender) goes listed went most shape events handlers ran) (n : ℕ) (r : Refusal) (old new : SenderEnd E)
    → OnlyCalled sends_in_place is.given old → IsRefused sender_place sending_of sends_in_place n r old new → OnlyCalled sends_in_place new is.back → r ≢ Halted
not_halted {E} {ran} is n r old new before refused after = λ halted.
    let claim = subst (λ (x : Refusal). sends_in_place refused.tried (ClaimsStretch n (Err (Refused x))) new) halted refused.refused in
    unrefused is.given refused.tried new is.back ran.settled.sender.value n is.settled.closes.0 (ap (λ (x : SenderRecord E). x.halted) is.fresh)
    (called_on sends_in_place is.given old refused.tried before refused.calls) claim after is.settled.closes.1 is.settled.unhalted
