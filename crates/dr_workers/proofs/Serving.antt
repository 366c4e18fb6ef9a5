-- A handler's worker, turn after turn.
use Rattle.std.proofs.Common.{◌≡◌, ◌+◌, ℕ, zero, suc, Bool, List, [], ◌∷◌, ◌++◌, length, take, replicate, Option, None, Some, Result, Ok, Err, inl}
use Rattle.std.proofs.Common.{inr, refl, sym, ap, ◌∙◌, subst, append_assoc, length-append}
use Rattle.std.specs.List.{cons_option}
use Rattle.std.proofs.lemmas.List.{append-nil}
use Rattle.std.proofs.lemmas.List.Elements.{filter_map-append}
use Rattle.dr_meaning.specs.declared.command.Polled.{Polled}
use Rattle.dr_meaning.specs.declared.command.Polled.TheVariants as polled
use Rattle.dr_meaning.specs.declared.ends.Trouble.{Trouble}
use Rattle.dr_meaning.specs.declared.ends.Trouble.TheVariants.{Memory}
use Rattle.dr_meaning.specs.Calls.Calling.{OutletCall, PollsInto, CompletesBelow, SomeCalls}
use Rattle.dr_meaning.specs.Calls.Ends.{Received, WhereShown, Takes}
use Rattle.dr_meaning.specs.Calls.Handling.{Relation}
use Rattle.dr_meaning.proofs.Calling.{lead_more}
use Rattle.dr_workers.specs.declared.consumer.Progress.{Progress}
use Rattle.dr_workers.specs.declared.consumer.Progress.TheVariants.{Drained, GoesOn}
use Rattle.dr_workers.specs.declared.fault.WorkFault.{WorkFault}
use Rattle.dr_workers.specs.declared.passages.Passages.{Passages}
use Rattle.dr_workers.specs.Calls.Serving.{AreCompleted, ConsumerEnds, Due, InTurn, IsInTrouble, IsTold, LeavesOpen, Serves, ToComplete, ToPoll, due_after}
use Rattle.dr_workers.specs.Calls.Stops.{Passes, begins, fault_at_end, fault_in_trouble}
use Rattle.dr_workers.specs.Inside.Retries.{Retries, TakesBatch, due_at_end}
use Rattle.dr_workers.specs.Meaning.Work.{Advance, CompletedBelow, Dealt, HandedOut, HandsOut, Works, advance_of, advances_in, batch_of, batches_in}
use Rattle.dr_workers.specs.Meaning.Work.{each_completed}
use Rattle.dr_workers.proofs.Calling.{ends_after, ends_retried, picked}
use Rattle.dr_workers.proofs.Showing.{shown_as}
use Rattle.dr_workers.proofs.Stopping.{passes_more, passes_none, stops_after}
use Rattle.dr_workers.proofs.Working.{hands_none, one, works_more, works_none}

batches_in-append : {E : Type 0} (xs ys : List (OutletCall E)) → batches_in (xs ++ ys) ≡ batches_in xs ++ batches_in ys
batches_in-append xs ys = filter_map-append batch_of xs ys

advances_in-append : {E : Type 0} (xs ys : List (OutletCall E)) → advances_in (xs ++ ys) ≡ advances_in xs ++ advances_in ys
advances_in-append xs ys = filter_map-append advance_of xs ys

each_completed-append : {E : Type 0} (bs cs : List (Dealt E)) → each_completed (bs ++ cs) ≡ each_completed bs ++ each_completed cs
each_completed-append [] cs = refl
each_completed-append (b ∷ bs) cs = ap (λ l. HandedOut b ∷ CompletedBelow (b.first + length b.events) ∷ l) (each_completed-append bs cs)

-- Call after call.

in_turn_more : {E : Type 0} (room : ℕ) (due : Due) (xs ys : List (OutletCall E)) → InTurn room due xs → InTurn room (due_at_end due xs) ys
    → InTurn room due (xs ++ ys)
in_turn_more room due [] ys h k = k
in_turn_more room due (x ∷ xs) ys h k = (h.0, in_turn_more room (due_after due x) xs ys h.1 k)

due_more : {E : Type 0} (due : Due) (xs ys : List (OutletCall E)) → due_at_end due (xs ++ ys) ≡ due_at_end (due_at_end due xs) ys
due_more due [] ys = refl
due_more due (x ∷ xs) ys = due_more (due_after due x) xs ys

-- a completion that is tried until memory suffices
tries_in_turn : (E : Type 0) (room upto times : ℕ) (completed : Result (Unit {0}) Trouble)
    → InTurn {E = E} room (ToComplete upto) (replicate times (CompletesBelow upto (Err Memory)) ++ CompletesBelow upto completed ∷ [])
tries_in_turn E room upto zero completed = (refl, tt)
tries_in_turn E room upto (suc times) completed = (refl, tries_in_turn E room upto times completed)

tries_due : (E : Type 0) (upto times : ℕ) (completed : Result (Unit {0}) Trouble)
    → due_at_end {E = E} (ToComplete upto) (replicate times (CompletesBelow upto (Err Memory)) ++ CompletesBelow upto completed ∷ [])
    ≡ due_after {E = E} (ToComplete upto) (CompletesBelow upto completed)
tries_due E upto zero completed = refl
tries_due E upto (suc times) completed = tries_due E upto times completed

-- A poll that hands nothing out.

took_none : {E : Type 0} (out out' : List E) (answer : Result Polled Trouble) → batch_of (PollsInto out out' answer) ≡ None → (a b : Received E)
    → Takes out' answer a b → HandsOut [] a b
took_none out out' (Ok (polled.Batch first count end)) is a b h = absurd (cc)
took_none out out' (Ok polled.Gating) is a b h = rw h (hands_none a)
took_none out out' (Ok polled.Idle) is a b h = rw h (hands_none a)
took_none out out' (Ok polled.Drained) is a b h = rw h (hands_none a)
took_none out out' (Err trouble) is a b h = rw h (hands_none a)

-- and completes nothing
advances_none : {E : Type 0} (out out' : List E) (answer : Result Polled Trouble) → batch_of (PollsInto out out' answer) ≡ None
    → advance_of (PollsInto out out' answer) ≡ None
advances_none out out' (Ok (polled.Batch first count end)) is = absurd (cc)
advances_none out out' (Ok polled.Gating) is = refl
advances_none out out' (Ok polled.Idle) is = refl
advances_none out out' (Ok polled.Drained) is = refl
advances_none out out' (Err trouble) is = refl

pub turned_nothing : {S E A : Type 0} (does : S → OutletCall E → S → Type 0) (goes : Relation E A) (before : A) (a b : S) (o p : Option (Received E))
    (may_stop must_stop : ℕ → ℕ → Type 0) (t : Passages) (result : Result Progress Trouble)
    (out out' : List E) (answer : Result Polled Trouble) → does a (PollsInto out out' answer) b → batch_of (PollsInto out out' answer) ≡ None
    → length out' ≡ length out
    → WhereShown (Takes out' answer) o p
    → (result ≡ Ok GoesOn → due_after ToPoll (PollsInto out out' answer) ≡ ToPoll) → (result ≡ Ok Drained → IsTold (PollsInto out out' answer)) →
    ((trouble : Trouble) → result ≡ Err trouble → IsInTrouble trouble (PollsInto out out' answer))
    → SomeCalls does a b (TakesBatch (length out) goes before before o p may_stop must_stop t t result)
turned_nothing does goes before a b o p may_stop must_stop t result out out' answer call is same takes again told trouble =
    let none : batches_in (PollsInto out out' answer ∷ []) ≡ [] = ap (λ x. cons_option x []) is in
    let completed : advances_in (PollsInto out out' answer ∷ []) ≡ each_completed (batches_in (PollsInto out out' answer ∷ [])) =
    ap (λ x. cons_option x []) (advances_none out out' answer is) ∙ ap each_completed (sym none) in record {
      calls = PollsInto out out' answer ∷ [];
      lead = (b, call, refl);
      holds = record {
        works = subst (λ bs. Works goes before before o p bs) (sym none)
            (record { through = refl; handed = shown_as (Takes out' answer) (HandsOut []) (took_none out out' answer is) o p takes });
        passes = subst (λ bs. Passes may_stop must_stop (length bs) t t) (sym none) (passes_none may_stop must_stop t);
        told = told;
        trouble = trouble;
        completes = inl completed;
        whole = λ progress is. completed;
        order = ((refl, same), tt);
        closed = again;
      };
    }

-- A poll that hands a batch out, and its completion.

-- the completion is made, or it is in trouble
completed_or_not : {E : Type 0} (deal : Dealt E) (upto : ℕ) (completed : Result (Unit {0}) Trouble) (before calls : List (OutletCall E))
    → upto ≡ deal.first + length deal.events
    → Retries (CompletesBelow upto (Err Memory)) (CompletesBelow upto completed) calls → batches_in (before ++ calls) ≡ deal ∷ []
    → advances_in (before ++ calls) ≡ HandedOut deal ∷ cons_option (advance_of {E = E} (CompletesBelow upto completed)) [] → AreCompleted (before ++ calls)
completed_or_not {E} deal upto (Ok done) before calls end rest batches advances =
    inl (advances ∙ ap (λ n. HandedOut deal ∷ CompletedBelow n ∷ []) end ∙ ap each_completed (sym batches))
completed_or_not {E} deal upto (Err trouble) before calls end rest batches advances =
    inr (
      upto,
      ends_after (LeavesOpen upto) before calls
          (ends_retried (LeavesOpen upto) (CompletesBelow upto (Err Memory)) (CompletesBelow upto (Err trouble)) calls rest refl),
      ap (λ l. l ++ CompletedBelow upto ∷ []) advances ∙ ap (λ n. HandedOut deal ∷ CompletedBelow n ∷ []) end ∙ ap each_completed (sym batches),
    )

pub turned_batch : {S E A : Type 0} (does : S → OutletCall E → S → Type 0) (goes : Relation E A) (before after : A) (a b c : S) (o q : Option (Received E))
    (may_stop must_stop : ℕ → ℕ → Type 0) (t t' : Passages) (result : Result Progress Trouble)
    (out out' : List E) (first count upto : ℕ) (end : Bool) (completed : Result (Unit {0}) Trouble)
    → does a (PollsInto out out' (Ok (polled.Batch first count end))) b
    → SomeCalls does b c (Retries (CompletesBelow upto (Err Memory)) (CompletesBelow upto completed))
    → Works goes before after o q (one out' first count end ∷ []) → Passes may_stop must_stop 1 t t' → upto ≡ first + length (take count out')
    → upto ≡ first + count → length out' ≡ length out
    → (result ≡ Ok Drained → ⊥) → ((trouble : Trouble) → result ≡ Err trouble → completed ≡ Err trouble)
    → ((progress : Progress) → result ≡ Ok progress → completed ≡ Ok tt)
    → SomeCalls does a c (TakesBatch (length out) goes before after o q may_stop must_stop t t' result)
turned_batch {S} {E} does goes before after a b c o q may_stop must_stop t t' result out out' first count upto end completed call rest works passes
    last whole same told trouble fine =
    let deal = one out' first count end in
    let none : batches_in rest.calls ≡ [] = picked batch_of (CompletesBelow upto (Err Memory)) (CompletesBelow upto completed) rest.calls rest.holds refl in
    let batches : batches_in (PollsInto out out' (Ok (polled.Batch first count end)) ∷ rest.calls) ≡ deal ∷ [] = ap (λ bs. deal ∷ bs) none in
    let poll : OutletCall _ = PollsInto out out' (Ok (polled.Batch first count end)) in
    let advances : advances_in (poll ∷ rest.calls) ≡ HandedOut deal ∷ cons_option (advance_of (CompletesBelow upto completed)) [] =
    ap (λ l. HandedOut deal ∷ l) (picked advance_of (CompletesBelow upto (Err Memory)) (CompletesBelow upto completed) rest.calls rest.holds refl) in record {
      calls = PollsInto out out' (Ok (polled.Batch first count end)) ∷ rest.calls;
      lead = (b, call, rest.lead);
      holds = record {
        works = subst (λ bs. Works goes before after o q bs) (sym batches) works;
        passes = subst (λ bs. Passes may_stop must_stop (length bs) t t') (sym batches) passes;
        told = λ is. absurd (told is);
        trouble = λ fault is.
            ends_after (IsInTrouble fault) (PollsInto out out' (Ok (polled.Batch first count end)) ∷ []) rest.calls
            (ends_retried (IsInTrouble fault) (CompletesBelow upto (Err Memory)) (CompletesBelow upto completed) rest.calls rest.holds
            (rw (trouble fault is) refl));
        completes = completed_or_not deal upto completed (poll ∷ []) rest.calls last rest.holds batches advances;
        whole = λ progress is.
            advances ∙ ap (λ r. HandedOut deal ∷ cons_option (advance_of (CompletesBelow upto r)) []) (fine progress is)
            ∙ ap (λ n. HandedOut deal ∷ CompletedBelow n ∷ []) last ∙ ap each_completed (sym batches);
        order = (
          (refl, same),
          subst (λ n. InTurn (length out) (ToComplete n) rest.calls) whole
              (subst (InTurn (length out) (ToComplete upto)) (sym rest.holds.1) (tries_in_turn E (length out) upto rest.holds.0 completed)),
        );
        closed = λ is.
            ap (λ n. due_at_end (ToComplete n) rest.calls) (sym whole) ∙ ap (due_at_end (ToComplete upto)) rest.holds.1
            ∙ tries_due E upto rest.holds.0 completed
            ∙ ap (λ r. due_after {E = E} (ToComplete upto) (CompletesBelow upto r)) (fine GoesOn is);
      };
    }

-- Turn after turn.

-- the work so far, and the worker's passages of its gate
pub record Serving {E A : Type 0} (room : ℕ) (goes : Relation E A) (before after : A) (old new : Option (Received E)) (may_stop must_stop : ℕ → ℕ → Type 0)
    (who : ℕ) (passages : Passages) (calls : List (OutletCall E)) : Type 0 where
  pub works : Works goes before after old new (batches_in calls)
  pub passes : Passes may_stop must_stop (length (batches_in calls)) (begins who) passages
  pub whole : advances_in calls ≡ each_completed (batches_in calls)
  pub order : InTurn room ToPoll calls
  pub closed : due_at_end ToPoll calls ≡ ToPoll

pub serving_none : {S E A : Type 0} (does : S → OutletCall E → S → Type 0) (room : ℕ) (goes : Relation E A) (before : A) (a : S) (o : Option (Received E))
    (may_stop must_stop : ℕ → ℕ → Type 0) (who : ℕ) (passages : Passages) → passages ≡ begins who
    → SomeCalls does a a (Serving room goes before before o o may_stop must_stop who passages)
serving_none does room goes before a o may_stop must_stop who passages is = record {
  calls = [];
  lead = refl;
  holds = record {
    works = works_none goes before o;
    passes = subst (λ t. Passes may_stop must_stop 0 (begins who) t) (sym is) (passes_none may_stop must_stop (begins who));
    whole = refl;
    order = tt;
    closed = refl;
  };
}

-- the batches of one turn more
batches_more : {E A : Type 0} (goes : Relation E A) (before between after : A) (o p q : Option (Received E)) (xs ys : List (OutletCall E))
    → Works goes before between o p (batches_in xs) → Works goes between after p q (batches_in ys) → Works goes before after o q (batches_in (xs ++ ys))
batches_more goes before between after o p q xs ys h k =
    subst (λ bs. Works goes before after o q bs) (sym (batches_in-append xs ys))
    (works_more goes before between after o p q (batches_in xs) (batches_in ys) h k)

-- and the passages
passes_both : {E : Type 0} (may_stop must_stop : ℕ → ℕ → Type 0) (xs ys : List (OutletCall E)) (t t' t'' : Passages)
    → Passes may_stop must_stop (length (batches_in xs)) t t'
    → Passes may_stop must_stop (length (batches_in ys)) t' t'' → Passes may_stop must_stop (length (batches_in (xs ++ ys))) t t''
passes_both may_stop must_stop xs ys t t' t'' h k =
    let many : length (batches_in (xs ++ ys)) ≡ length (batches_in xs) + length (batches_in ys) = ap length (batches_in-append xs ys)
    ∙ length-append (batches_in xs) (batches_in ys) in
    subst (λ n. Passes may_stop must_stop n t t'') (sym many) (passes_more may_stop must_stop (length (batches_in xs)) (length (batches_in ys)) t t' t'' h k)

-- and the completions
completed_more : {E : Type 0} (xs ys : List (OutletCall E)) (last : List (Advance E)) → advances_in xs ≡ each_completed (batches_in xs)
    → advances_in ys ++ last ≡ each_completed (batches_in ys)
    → advances_in (xs ++ ys) ++ last ≡ each_completed (batches_in (xs ++ ys))
completed_more xs ys last h k =
    ap (λ l. l ++ last) (advances_in-append xs ys) ∙ append_assoc (advances_in xs) (advances_in ys) last ∙ ap (λ l. l ++ (advances_in ys ++ last)) h
    ∙ ap (λ l. each_completed (batches_in xs) ++ l) k ∙ sym (each_completed-append (batches_in xs) (batches_in ys))
    ∙ ap each_completed (sym (batches_in-append xs ys))

whole_more : {E : Type 0} (xs ys : List (OutletCall E)) → advances_in xs ≡ each_completed (batches_in xs) → advances_in ys ≡ each_completed (batches_in ys)
    → advances_in (xs ++ ys) ≡ each_completed (batches_in (xs ++ ys))
whole_more xs ys h k = sym (append-nil (advances_in (xs ++ ys))) ∙ completed_more xs ys [] h (append-nil (advances_in ys) ∙ k)

completes_more : {E : Type 0} (xs ys : List (OutletCall E)) → advances_in xs ≡ each_completed (batches_in xs) → AreCompleted ys → AreCompleted (xs ++ ys)
completes_more xs ys h (inl all) = inl (whole_more xs ys h all)
completes_more xs ys h (inr (upto, last, but)) = inr (upto, ends_after (LeavesOpen upto) xs ys last, completed_more xs ys (CompletedBelow upto ∷ []) h but)

order_more : {E : Type 0} (room : ℕ) (xs ys : List (OutletCall E)) → InTurn room ToPoll xs → due_at_end ToPoll xs ≡ ToPoll → InTurn room ToPoll ys
    → InTurn room ToPoll (xs ++ ys)
order_more room xs ys h closed k = in_turn_more room ToPoll xs ys h (subst (λ o. InTurn room o ys) (sym closed) k)

-- one turn more
pub serving_more : {S E A : Type 0} (does : S → OutletCall E → S → Type 0) (room : ℕ) (goes : Relation E A) (before between after : A) (a b c : S)
    (o p q : Option (Received E)) (may_stop must_stop : ℕ → ℕ → Type 0) (who : ℕ) (t t' : Passages) (result : Result Progress Trouble) → result ≡ Ok GoesOn
    → SomeCalls does a b (Serving room goes before between o p may_stop must_stop who t)
    → SomeCalls does b c (TakesBatch room goes between after p q may_stop must_stop t t' result)
    → SomeCalls does a c (Serving room goes before after o q may_stop must_stop who t')
serving_more does room goes before between after a b c o p q may_stop must_stop who t t' result is h k = record {
  calls = h.calls ++ k.calls;
  lead = lead_more does a b c h.calls k.calls h.lead k.lead;
  holds = record {
    works = batches_more goes before between after o p q h.calls k.calls h.holds.works k.holds.works;
    passes = passes_both may_stop must_stop h.calls k.calls (begins who) t t' h.holds.passes k.holds.passes;
    whole = whole_more h.calls k.calls h.holds.whole (k.holds.whole GoesOn is);
    order = order_more room h.calls k.calls h.holds.order h.holds.closed k.holds.order;
    closed = due_more ToPoll h.calls k.calls ∙ ap (λ o. due_at_end o k.calls) h.holds.closed ∙ k.holds.closed is;
  };
}

-- the last turn
serving_ends : {S E A : Type 0} (does : S → OutletCall E → S → Type 0) (room : ℕ) (goes : Relation E A) (before between after : A) (a b c : S)
    (o p q : Option (Received E)) (may_stop must_stop : ℕ → ℕ → Type 0) (who : ℕ) (t t' : Passages) (result : Result Progress Trouble)
    (answer : Option WorkFault)
    → (h : SomeCalls does a b (Serving room goes before between o p may_stop must_stop who t))
    (k : SomeCalls does b c (TakesBatch room goes between after p q may_stop must_stop t t' result))
    → ConsumerEnds t'.stopped (h.calls ++ k.calls) answer → SomeCalls does a c (Serves room goes before after o q (may_stop who) (must_stop who) answer)
serving_ends does room goes before between after a b c o p q may_stop must_stop who t t' result answer h k ends = record {
  calls = h.calls ++ k.calls;
  lead = lead_more does a b c h.calls k.calls h.lead k.lead;
  holds = record {
    works = batches_more goes before between after o p q h.calls k.calls h.holds.works k.holds.works;
    gate = stops_after may_stop must_stop (length (batches_in (h.calls ++ k.calls))) who t' (λ stopped. ConsumerEnds stopped (h.calls ++ k.calls) answer)
        (passes_both may_stop must_stop h.calls k.calls (begins who) t t' h.holds.passes k.holds.passes) ends;
    completes = completes_more h.calls k.calls h.holds.whole k.holds.completes;
    order = order_more room h.calls k.calls h.holds.order h.holds.closed k.holds.order;
  };
}

pub serves_told : {S E A : Type 0} (does : S → OutletCall E → S → Type 0) (room : ℕ) (goes : Relation E A) (before between after : A) (a b c : S)
    (o p q : Option (Received E)) (may_stop must_stop : ℕ → ℕ → Type 0) (who : ℕ) (t t' : Passages) (result : Result Progress Trouble)
    (answer : Option WorkFault)
    → SomeCalls does a b (Serving room goes before between o p may_stop must_stop who t)
    → SomeCalls does b c (TakesBatch room goes between after p q may_stop must_stop t t' result)
    → result ≡ Ok Drained → answer ≡ fault_at_end t'.stopped → SomeCalls does a c (Serves room goes before after o q (may_stop who) (must_stop who) answer)
serves_told does room goes before between after a b c o p q may_stop must_stop who t t' result answer h k told is =
    serving_ends does room goes before between after a b c o p q may_stop must_stop who t t' result answer h k
    (inl (ends_after IsTold h.calls k.calls (k.holds.told told), is))

pub serves_in_trouble : {S E A : Type 0} (does : S → OutletCall E → S → Type 0) (room : ℕ) (goes : Relation E A) (before between after : A) (a b c : S)
    (o p q : Option (Received E)) (may_stop must_stop : ℕ → ℕ → Type 0) (who : ℕ) (t t' : Passages) (result : Result Progress Trouble)
    (answer : Option WorkFault) (trouble : Trouble)
    → SomeCalls does a b (Serving room goes before between o p may_stop must_stop who t)
    → SomeCalls does b c (TakesBatch room goes between after p q may_stop must_stop t t' result)
    → result ≡ Err trouble → answer ≡ Some (fault_in_trouble t'.stopped trouble)
    → SomeCalls does a c (Serves room goes before after o q (may_stop who) (must_stop who) answer)
serves_in_trouble does room goes before between after a b c o p q may_stop must_stop who t t' result answer trouble h k fails is =
    serving_ends does room goes before between after a b c o p q may_stop must_stop who t t' result answer h k
    (inr (trouble, ends_after (IsInTrouble trouble) h.calls k.calls (k.holds.trouble trouble fails), is))

-- a room of the same length
pub of_room : {S E A : Type 0} {does : S → OutletCall E → S → Type 0} {goes : Relation E A} {before after : A} {a b : S} {o p : Option (Received E)}
    {may_stop must_stop : ℕ → ℕ → Type 0} {t t' : Passages} {result : Result Progress Trouble} {room whole : ℕ} → room ≡ whole
    → SomeCalls does a b (TakesBatch room goes before after o p may_stop must_stop t t' result)
    → SomeCalls does a b (TakesBatch whole goes before after o p may_stop must_stop t t' result)
of_room {does = does} {goes = goes} {before = before} {after = after} {a = a} {b = b} {o = o} {p = p} {may_stop = may_stop} {must_stop = must_stop} {t = t}
    {t' = t'} {result = result} same takes =
    subst (λ n. SomeCalls does a b (TakesBatch n goes before after o p may_stop must_stop t t' result)) same takes
