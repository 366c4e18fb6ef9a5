-- A handler's worker over an end that answers each call of its work.
use Rattle.std.proofs.Common.{◌≡◌, ◌+◌, ◌<◌, ◌≤◌, ℕ, Bool, List, [], ◌∷◌, ◌++◌, length, take, Ok, Err, sym, ap, ◌∙◌, subst, arith, length-append}
use Rattle.std.proofs.lemmas.List.{length-take-le}
use Rattle.dr_meaning.specs.declared.command.Polled.TheVariants.{Batch, Drained, Gating, Idle}
use Rattle.dr_meaning.specs.declared.command.Polled.{Polled}
use Rattle.dr_meaning.specs.declared.ends.Trouble.{Trouble}
use Rattle.dr_meaning.specs.Calls.Calling.{CallsLead, OutletCall, PollsInto, CompletesBelow}
use Rattle.dr_meaning.specs.Calls.Ends.{Completes, Received, Takes}
use Rattle.dr_workers.specs.Calls.Serving.{Due, EndsIn, InTurn, IsInTrouble, IsNextCall, NoCall, ToComplete, ToPoll, due_after}

-- an end that answers a poll with room, and a completion of what it handed out
pub record AnswersWork {S E : Type 0} (does : S → OutletCall E → S → Type 0) (shown : S → Received E) : Type 0 where
  pub polls : (a b : S) (before after : List E) (trouble : Trouble) → 0 < length before → does a (PollsInto before after (Err trouble)) b → ⊥
  pub takes : (a b : S) (before after : List E) (answer : Polled) → does a (PollsInto before after (Ok answer)) b → Takes after (Ok answer) (shown a) (shown b)
  pub fits : (a b : S) (before after : List E) (first count : ℕ) (end : Bool) → does a (PollsInto before after (Ok (Batch first count end))) b
      → count ≤ length before
  pub completes : (a b : S) (upto : ℕ) (trouble : Trouble) → (shown a).completed ≤ upto → upto ≤ length (shown a).events
      → does a (CompletesBelow upto (Err trouble)) b → ⊥
  pub completed : (a b : S) (upto : ℕ) → does a (CompletesBelow upto (Ok tt)) b → Completes upto (Ok tt) (shown a) (shown b)

-- where nothing is to be completed, and where all that was handed out is
abbrev IsAt : {E : Type 0} → Due → Received E → Type 0
IsAt ToPoll e = e.completed ≤ length e.events
IsAt (ToComplete upto) e = (e.completed ≤ upto) × (upto ≡ length e.events)
IsAt NoCall e = Unit {0}

same_at : {E : Type 0} (due : Due) (x y : Received E) → y ≡ x → IsAt due x → IsAt due y
same_at due x y same h = subst (IsAt due) (sym same) h

taken_at : {E : Type 0} (out : List E) (first count : ℕ) (x y : Received E) → count ≤ length out → first ≡ length x.events
    → y ≡ record x { events = x.events ++ take count out } → x.completed ≤ length x.events
    → IsAt (ToComplete (first + count)) y
taken_at out first count x y fits at is before =
    let done : y.completed ≡ x.completed = ap (λ r. r.completed) is in
    let many : length (take count out) ≡ count = length-take-le count out fits in
    let long : length y.events ≡ length x.events + length (take count out) = ap (λ r. length r.events) is ∙ length-append x.events (take count out) in
    (omega arith, omega arith)

completed_at : {E : Type 0} (upto due : ℕ) (x y : Received E) → upto ≡ due → y ≡ record x { completed = upto } → due ≡ length x.events → IsAt ToPoll y
completed_at upto due x y same is whole =
    let done : y.completed ≡ upto = ap (λ r. r.completed) is in
    let long : length y.events ≡ length x.events = ap (λ r. length r.events) is in
    omega arith

-- once its work ended a worker calls nothing
no_call : {E : Type 0} (room : ℕ) (call : OutletCall E) → IsNextCall room NoCall call → ⊥
no_call room (PollsInto before after answer) next = next
no_call room (CompletesBelow upto answer) next = next

module _ {S E : Type 0} (does : S → OutletCall E → S → Type 0) (shown : S → Received E) (answers : AnswersWork does shown) (room : ℕ) (some : 0 < room) where
  -- one call more
  goes_on : (due : Due) (call : OutletCall E) (a b : S) → IsNextCall room due call → does a call b → IsAt due (shown a) → IsAt (due_after due call) (shown b)
  goes_on ToPoll (PollsInto before after (Ok (Batch first count end))) a b next is at =
      let takes = answers.takes a b before after (Batch first count end) is in
      let fits : count ≤ length before = answers.fits a b before after first count end is in
      let long = next.0 in
      let longer = next.1 in
      taken_at after first count (shown a) (shown b) (omega arith) takes.0 takes.1 at
  goes_on ToPoll (PollsInto before after (Ok Drained)) a b next is at = tt
  goes_on ToPoll (PollsInto before after (Ok Gating)) a b next is at = same_at ToPoll (shown a) (shown b) (answers.takes a b before after Gating is) at
  goes_on ToPoll (PollsInto before after (Ok Idle)) a b next is at = same_at ToPoll (shown a) (shown b) (answers.takes a b before after Idle is) at
  goes_on ToPoll (PollsInto before after (Err trouble)) a b next is at = absurd (answers.polls a b before after trouble (let long = next.0 in omega arith) is)
  goes_on ToPoll (CompletesBelow upto answer) a b next is at = absurd next
  goes_on (ToComplete due) (PollsInto before after answer) a b next is at = absurd next
  goes_on (ToComplete due) (CompletesBelow upto (Ok done)) a b next is at = completed_at upto due (shown a) (shown b) next (answers.completed a b upto is) at.1
  goes_on (ToComplete due) (CompletesBelow upto (Err trouble)) a b next is at =
      absurd (answers.completes a b upto trouble (let low = at.0 in omega arith) (let whole = at.1 in omega arith) is)
  goes_on NoCall call a b next is at = absurd (no_call room call next)

  -- the last call
  answered : (due : Due) (call : OutletCall E) (a b : S) (trouble : Trouble) → IsNextCall room due call → does a call b → IsAt due (shown a)
      → IsInTrouble trouble call → ⊥
  answered ToPoll (PollsInto before after (Ok answer)) a b trouble next is at fails = fails
  answered ToPoll (PollsInto before after (Err fault)) a b trouble next is at fails = answers.polls a b before after fault (let long = next.0 in omega arith) is
  answered ToPoll (CompletesBelow upto answer) a b trouble next is at fails = next
  answered (ToComplete due) (PollsInto before after answer) a b trouble next is at fails = next
  answered (ToComplete due) (CompletesBelow upto (Ok done)) a b trouble next is at fails = fails
  answered (ToComplete due) (CompletesBelow upto (Err fault)) a b trouble next is at fails =
      answers.completes a b upto fault (let low = at.0 in omega arith) (let whole = at.1 in omega arith) is
  answered NoCall call a b trouble next is at fails = no_call room call next

  -- all calls of a worker's passages
  untroubled_from : (due : Due) (a b : S) (calls : List (OutletCall E)) (trouble : Trouble) → IsAt due (shown a) → CallsLead does a calls b
      → InTurn room due calls
      → EndsIn (IsInTrouble trouble) calls → ⊥
  untroubled_from due a b [] trouble at lead order ends = ends
  untroubled_from due a b (call ∷ []) trouble at lead order ends = answered due call a lead.0 trouble order.0 lead.1 at ends
  untroubled_from due a b (call ∷ next ∷ calls) trouble at lead order ends =
      untroubled_from (due_after due call) lead.0 b (next ∷ calls) trouble (goes_on due call a lead.0 order.0 lead.1 at) lead.2 order.1 ends

  -- so no call of a worker's is in trouble, where no more is completed than was handed out
  pub untroubled : (a b : S) (calls : List (OutletCall E)) (trouble : Trouble) → (shown a).completed ≤ length (shown a).events
      → CallsLead does a calls b → InTurn room ToPoll calls
      → EndsIn (IsInTrouble trouble) calls → ⊥
  untroubled a b calls trouble at lead order ends = untroubled_from ToPoll a b calls trouble at lead order ends
