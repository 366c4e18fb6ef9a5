-- What workers call of their ends.
use Rattle.std.proofs.Common.{◌≡◌, ◌≢◌, ◌<◌, ◌≤◌, ◌+◌, ◌-◌, ℕ, zero, suc, List, [], ◌∷◌, ◌++◌, length, take, drop, replicate, Option, None, Some}
use Rattle.std.proofs.Common.{Result, Ok, Err, inl, inr, refl, sym, ap, ◌∙◌, subst, arith, add-zero, zero-add, drop-cons, length-drop}
use Rattle.std.specs.List.{cons_option, filter_map, slice_get}
use Rattle.std.proofs.Math.Seq.{drop-nil}
use Rattle.std.proofs.lemmas.Grind.{flat_map-append}
use Rattle.std.proofs.lemmas.List.{append-nil, drop_all, length-take-le, replicate-append-replicate, take_all}
use Rattle.std.proofs.lemmas.List.Elements.{filter_map-append}
use Rattle.std.proofs.lemmas.Option.{none-some}
use Rattle.dr_meaning.specs.declared.command.Claimed.{Claimed}
use Rattle.dr_meaning.specs.declared.ends.Trouble.{Trouble}
use Rattle.dr_meaning.specs.declared.ends.Trouble.TheVariants.{Memory, Refused}
use Rattle.dr_meaning.specs.declared.ends.Wrote.{Wrote}
use Rattle.dr_meaning.specs.declared.refusal.Refusal.{Refusal}
use Rattle.dr_meaning.specs.Calls.Calling.{InletCall, PublishesStretch, TriesClaim, WritesMany, WritesOne, CallsLead, SomeCalls, WritesBy}
use Rattle.dr_meaning.specs.Calls.Calling.{each_written, first_in_trouble, writes_of}
use Rattle.dr_meaning.proofs.Calling.{lead_more}
use Rattle.dr_workers.specs.Calls.Serving.{EndsIn, InOrder, ToSend, WriteFails}
use Rattle.dr_workers.specs.Inside.Retries.{Retries, WriteCalls, task_at_end, tried_of, tries_in}
use Rattle.dr_workers.specs.Meaning.Work.{accepted_in, accepted_of, claim_of, claims_in}
use Rattle.dr_workers.proofs.Ordering.{WritesGoOn, each_at_end, each_in_order, goes_on, in_order_more, task_more}
use Rattle.dr_workers.proofs.Picks.{there}
use Rattle.dr_workers.proofs.Writings.{first_and_next, rest_of}

-- The last call.

pub ends_in_last : {C : Type 0} (IsSuch : C → Type 0) (calls : List C) (last : C) → IsSuch last → EndsIn IsSuch (calls ++ last ∷ [])
ends_in_last IsSuch [] last is = is
ends_in_last IsSuch (x ∷ []) last is = is
ends_in_last IsSuch (x ∷ y ∷ calls) last is = ends_in_last IsSuch (y ∷ calls) last is

pub ends_after : {C : Type 0} (IsSuch : C → Type 0) (before calls : List C) → EndsIn IsSuch calls → EndsIn IsSuch (before ++ calls)
ends_after IsSuch [] calls h = h
ends_after IsSuch (x ∷ []) [] h = absurd h
ends_after IsSuch (x ∷ []) (y ∷ calls) h = h
ends_after IsSuch (x ∷ y ∷ before) calls h = ends_after IsSuch (y ∷ before) calls h

pub ends_as : {C : Type 0} (IsSuch IsOther : C → Type 0) → ((call : C) → IsSuch call → IsOther call) → (calls : List C) → EndsIn IsSuch calls
    → EndsIn IsOther calls
ends_as IsSuch IsOther implies [] h = h
ends_as IsSuch IsOther implies (x ∷ []) h = implies x h
ends_as IsSuch IsOther implies (x ∷ y ∷ calls) h = ends_as IsSuch IsOther implies (y ∷ calls) h

-- What a result says.

pub same_trouble : (result : Result (Unit {0}) Trouble) (a b : Trouble) → result ≡ Err a → result ≡ Err b → a ≡ b
same_trouble result a b is is' = cc

is_ok : (result : Result (Unit {0}) Trouble) (trouble : Trouble) → result ≡ Ok tt → result ≡ Err trouble → ⊥
is_ok result trouble is is' = cc

-- Calls that are made again.

pub retry_more : {S C : Type 0} (does : S → C → S → Type 0) (a b c : S) (waits : C) (times : ℕ) → CallsLead does a (replicate times waits) b → does b waits c
    → CallsLead does a (replicate (times + 1) waits) c
retry_more does a b c waits times h call =
    subst (λ l. CallsLead does a l c) (replicate-append-replicate times 1 waits) (lead_more does a b c (replicate times waits) (waits ∷ []) h (c, call, refl))

pub retried : {S C : Type 0} (does : S → C → S → Type 0) (a b c : S) (waits answered : C) (times : ℕ) → CallsLead does a (replicate times waits) b
    → does b answered c
    → SomeCalls does a c (Retries waits answered)
retried does a b c waits answered times h call = record {
  calls = replicate times waits ++ answered ∷ [];
  lead = lead_more does a b c (replicate times waits) (answered ∷ []) h (c, call, refl);
  holds = (times, refl);
}

-- what the calls that waited do not tell, the last one may
picks_last : {C X : Type 0} (pick : C → Option X) (waits answered : C) → pick waits ≡ None → (times : ℕ)
    → filter_map pick (replicate times waits ++ answered ∷ []) ≡ cons_option (pick answered) []
picks_last pick waits answered none zero = refl
picks_last pick waits answered none (suc times) =
    ap (λ o. cons_option o (filter_map pick (replicate times waits ++ answered ∷ []))) none ∙ picks_last pick waits answered none times

pub picked : {C X : Type 0} (pick : C → Option X) (waits answered : C) (calls : List C) → Retries waits answered calls → pick waits ≡ None
    → filter_map pick calls ≡ cons_option (pick answered) []
picked pick waits answered calls h none = ap (filter_map pick) h.1 ∙ picks_last pick waits answered none h.0

pub ends_retried : {C : Type 0} (IsSuch : C → Type 0) (waits answered : C) (calls : List C) → Retries waits answered calls → IsSuch answered
    → EndsIn IsSuch calls
ends_retried IsSuch waits answered calls h is = subst (λ l. EndsIn IsSuch l) (sym h.1) (ends_in_last IsSuch (replicate h.0 waits) answered is)

-- what is accepted of calls that are made again is what is accepted of the last one
accepts_last : {E : Type 0} (waits answered : InletCall E) → accepted_of waits ≡ [] → (times : ℕ)
    → accepted_in (replicate times waits ++ answered ∷ []) ≡ accepted_of answered
accepts_last waits answered none zero = append-nil (accepted_of answered)
accepts_last waits answered none (suc times) =
    ap (λ l. l ++ accepted_in (replicate times waits ++ answered ∷ [])) none ∙ accepts_last waits answered none times

pub accepted_last : {E : Type 0} (waits answered : InletCall E) (calls : List (InletCall E)) → Retries waits answered calls → accepted_of waits ≡ []
    → accepted_in calls ≡ accepted_of answered
accepted_last waits answered calls h none = ap accepted_in h.1 ∙ accepts_last waits answered none h.0

pub accepted_in-append : {E : Type 0} (xs ys : List (InletCall E)) → accepted_in (xs ++ ys) ≡ accepted_in xs ++ accepted_in ys
accepted_in-append xs ys = flat_map-append accepted_of xs ys

-- Many writes.

no_claims : {E : Type 0} (lo : ℕ) (events : List E) → claims_in (each_written lo events) ≡ []
no_claims lo [] = refl
no_claims lo (event ∷ events) = no_claims (lo + 1) events

no_tries : {E : Type 0} (lo : ℕ) (events : List E) → tries_in (each_written lo events) ≡ []
no_tries lo [] = refl
no_tries lo (event ∷ events) = no_tries (lo + 1) events

no_try : {E : Type 0} (s : ℕ) (trouble : Option Trouble) (events : List E) → tries_in (first_in_trouble s trouble events) ≡ []
no_try s None events = refl
no_try s (Some trouble) [] = refl
no_try s (Some trouble) (event ∷ events) = refl

no_claim : {E : Type 0} (s : ℕ) (trouble : Option Trouble) (events : List E) → claims_in (first_in_trouble s trouble events) ≡ []
no_claim s None events = refl
no_claim s (Some trouble) [] = refl
no_claim s (Some trouble) (event ∷ events) = refl

all_written : {E : Type 0} (lo : ℕ) (events : List E) → accepted_in (each_written lo events) ≡ each_written lo events
all_written lo [] = refl
all_written lo (event ∷ events) = ap (λ l. WritesOne lo event (Ok tt) ∷ l) (all_written (lo + 1) events)

none_accepted : {E : Type 0} (s : ℕ) (trouble : Option Trouble) (events : List E) → accepted_in (first_in_trouble s trouble events) ≡ []
none_accepted s None events = refl
none_accepted s (Some trouble) [] = refl
none_accepted s (Some trouble) (event ∷ events) = refl

-- the writes of some events, and of others after them
pub each_written-append : {E : Type 0} (lo : ℕ) (xs ys : List E) → each_written lo xs ++ each_written (lo + length xs) ys ≡ each_written lo (xs ++ ys)
each_written-append lo [] ys = ap (λ n. each_written n ys) (add-zero lo)
each_written-append lo (x ∷ xs) ys =
    let at : lo + length (x ∷ xs) ≡ lo + 1 + length xs = omega arith in
    ap (λ l. WritesOne lo x (Ok tt) ∷ l) (ap (λ n. each_written (lo + 1) xs ++ each_written n ys) at ∙ each_written-append (lo + 1) xs ys)

pub each_written-take : {E : Type 0} (k lo : ℕ) (events : List E) → each_written lo (take k events) ≡ take k (each_written lo events)
each_written-take zero lo events = refl
each_written-take (suc k) lo [] = refl
each_written-take (suc k) lo (event ∷ events) = ap (λ l. WritesOne lo event (Ok tt) ∷ l) (each_written-take k (lo + 1) events)

-- writes claim nothing, those that are accepted are of the first events, as many as are answered, and where one is refused it is the last
pub record AreTried {E : Type 0} (lo : ℕ) (events : List E) (wrote : Wrote) (calls : List (InletCall E)) : Type 0 where
  pub tries : tries_in calls ≡ []
  pub claims : claims_in calls ≡ []
  pub accepted : accepted_in calls ≡ each_written lo (take wrote.count events)
  pub refused : (r : Refusal) → wrote.trouble ≡ Some (Refused r) → EndsIn (WriteFails lo events (Refused r)) calls
  pub order : (cut : ℕ) (stretch : Claimed) (rest : List E) → 0 < length events → InOrder cut (ToSend stretch lo events rest) calls
  pub end : (stretch : Claimed) (rest : List E) → WritesGoOn wrote.trouble
      → task_at_end (ToSend stretch lo events rest) calls ≡ ToSend stretch (lo + wrote.count) (drop wrote.count events) rest

one_refused : {E : Type 0} (lo k : ℕ) (events : List E) (trouble : Option Trouble) (r : Refusal) (event : E) (rest : List E) → slice_get events k ≡ Some event
    → trouble ≡ Some (Refused r) → EndsIn (WriteFails lo events (Refused r)) (first_in_trouble (lo + k) trouble (event ∷ rest))
one_refused lo k events None r event rest at is = absurd (none-some (Refused r) is)
one_refused lo k events (Some trouble) r event rest at is = (k, at, refl, cc, tt)

pub many_writes : {S E : Type 0} (does : S → InletCall E → S → Type 0) (lo : ℕ) (events : List E) (wrote : Wrote) (a b : S)
    → ((r : Refusal) → wrote.trouble ≡ Some (Refused r) → wrote.count < length events) → wrote.count ≤ length events → WritesBy a b does lo events wrote
    → SomeCalls does a b (AreTried lo events wrote)
many_writes does lo events wrote a b stops within (inl once) = record {
  calls = WritesMany lo events wrote ∷ [];
  lead = (b, once, refl);
  holds = record {
    tries = refl;
    claims = refl;
    accepted = append-nil (each_written lo (take wrote.count events));
    refused = λ r is. (0, refl, sym (add-zero lo), is, tt);
    order = λ cut stretch rest some. ((some, refl, refl), tt);
    end = λ stretch rest fine. goes_on stretch (lo + wrote.count) (drop wrote.count events) rest wrote.trouble fine;
  };
}
many_writes {S} {E} does lo events wrote a b stops within (inr each) =
    let first = each_written lo (take wrote.count events) in
    let rest = first_in_trouble (lo + wrote.count) wrote.trouble (drop wrote.count events) in record {
      calls = writes_of lo events wrote;
      lead = each;
      holds = record {
        tries = filter_map-append tried_of first rest ∙ ap (λ l. l ++ tries_in rest) (no_tries lo (take wrote.count events))
            ∙ no_try (lo + wrote.count) wrote.trouble (drop wrote.count events);
        claims = filter_map-append claim_of first rest ∙ ap (λ l. l ++ claims_in rest) (no_claims lo (take wrote.count events))
            ∙ no_claim (lo + wrote.count) wrote.trouble (drop wrote.count events);
        accepted = accepted_in-append first rest ∙ ap (λ l. l ++ accepted_in rest) (all_written lo (take wrote.count events))
            ∙ ap (λ l. first ++ l) (none_accepted (lo + wrote.count) wrote.trouble (drop wrote.count events)) ∙ append-nil first;
        refused = λ r is.
            let at = there events wrote.count (stops r is) in
            ends_after (WriteFails lo events (Refused r)) first rest (rw (drop-cons events wrote.count at.0 (stops r is))
            (one_refused lo wrote.count events wrote.trouble r _ _ (at.1 ∙ ap (λ x. Some x) (sym at.2)) is));
        order = λ cut stretch later some. each_in_order cut stretch later lo wrote.count events wrote.trouble;
        end = λ stretch later fine. each_at_end stretch later lo wrote.count events wrote.trouble fine within;
      };
    }

-- One after another.

none_more : {E : Type 0} (xs ys : List (InletCall E)) → claims_in xs ≡ [] → claims_in ys ≡ [] → claims_in (xs ++ ys) ≡ []
none_more xs ys h k = filter_map-append claim_of xs ys ∙ ap (λ l. l ++ claims_in ys) h ∙ k

untried_more : {E : Type 0} (xs ys : List (InletCall E)) → tries_in xs ≡ [] → tries_in ys ≡ [] → tries_in (xs ++ ys) ≡ []
untried_more xs ys h k = filter_map-append tried_of xs ys ∙ ap (λ l. l ++ tries_in ys) h ∙ k

-- the first events are written
pub record AreFirst {E : Type 0} (lo : ℕ) (events : List E) (done : ℕ) (calls : List (InletCall E)) : Type 0 where
  pub tries : tries_in calls ≡ []
  pub claims : claims_in calls ≡ []
  pub accepted : accepted_in calls ≡ each_written lo (take done events)
  pub order : (cut : ℕ) (stretch : Claimed) (rest : List E) → 0 < length events → InOrder cut (ToSend stretch lo events rest) calls
  pub end : (stretch : Claimed) (rest : List E) → task_at_end (ToSend stretch lo events rest) calls ≡ ToSend stretch (lo + done) (drop done events) rest

pub first_none : {S E : Type 0} (does : S → InletCall E → S → Type 0) (a : S) (lo : ℕ) (events : List E) → SomeCalls does a a (AreFirst lo events 0)
first_none does a lo events = record {
  calls = [];
  lead = refl;
  holds = record {
    tries = refl;
    claims = refl;
    accepted = refl;
    order = λ cut stretch rest some. tt;
    end = λ stretch rest. ap (λ n. ToSend stretch n events rest) (sym (add-zero lo));
  };
}

-- the first of some events, and then the first of those that are left
first_of_rest : {E : Type 0} (done n : ℕ) (events : List E)
    → take done events ++ take n (take (length events - done) (drop done events)) ≡ take (done + n) events
first_of_rest done n events =
    ap (λ l. take done events ++ take n l) (rest_of events done) ∙ sym (first_and_next events done n)

-- a write of the events that are left is one of all
event_later : {E : Type 0} (done k : ℕ) (events : List E) → slice_get (drop done events) k ≡ slice_get events (done + k)
event_later zero k events = ap (slice_get events) (sym (zero-add k))
event_later (suc done) k [] = refl
event_later (suc done) k (x ∷ events) = (let at : suc (done + k) ≡ suc done + k = omega arith in event_later done k events ∙ ap (slice_get (x ∷ events)) at)

pub rest_later : {E : Type 0} (done k : ℕ) (events : List E) → drop k (drop done events) ≡ drop (done + k) events
rest_later zero k events = ap (λ n. drop n events) (sym (zero-add k))
rest_later (suc done) k [] = drop-nil k ∙ sym (drop-nil (suc done + k))
rest_later (suc done) k (x ∷ events) = (let at : suc (done + k) ≡ suc done + k = omega arith in rest_later done k events ∙ ap (λ n. drop n (x ∷ events)) at)

add_later : (lo done k : ℕ) → lo + done + k ≡ lo + (done + k)
add_later lo done k = omega arith

-- what is accepted of the first, and then of those that are left
accepted_more : {E : Type 0} (lo done : ℕ) (events : List E) (count : ℕ) (xs ys : List (InletCall E)) → done ≤ length events
    → accepted_in xs ≡ each_written lo (take done events)
    → accepted_in ys ≡ each_written (lo + done) (take count (take (length events - done) (drop done events)))
    → accepted_in (xs ++ ys) ≡ each_written lo (take (done + count) events)
accepted_more lo done events count xs ys within h k =
    let part = take count (take (length events - done) (drop done events)) in
    let many : length (take done events) ≡ done = length-take-le done events within in
    accepted_in-append xs ys ∙ ap (λ l. l ++ accepted_in ys) h
    ∙ ap (λ l. each_written lo (take done events) ++ l) (k ∙ ap (λ n. each_written (lo + n) part) (sym many))
    ∙ each_written-append lo (take done events) part ∙ ap (each_written lo) (first_of_rest done count events)

-- and their order
orders_more : {E : Type 0} (lo done : ℕ) (events : List E) (wrote : Wrote) (xs ys : List (InletCall E)) → (0 < length events → done < length events)
    → AreFirst lo events done xs
    → AreTried (lo + done) (take (length events - done) (drop done events)) wrote ys
    → (cut : ℕ) (stretch : Claimed) (rest : List E) → 0 < length events → InOrder cut (ToSend stretch lo events rest) (xs ++ ys)
orders_more lo done events wrote xs ys before h k cut stretch rest some =
    let left : length (drop done events) ≡ length events - done = length-drop done events in
    let more : done < length events = before some in
    let later : InOrder cut (ToSend stretch (lo + done) (drop done events) rest) ys
    = subst (λ l. 0 < length l → InOrder cut (ToSend stretch (lo + done) l rest) ys) (rest_of events done) (k.order cut stretch rest) (omega arith) in
    in_order_more cut (ToSend stretch lo events rest) xs ys (h.order cut stretch rest some) (subst (λ t. InOrder cut t ys) (sym (h.end stretch rest)) later)

ends_more : {E : Type 0} (lo done : ℕ) (events : List E) (wrote : Wrote) (xs ys : List (InletCall E)) → WritesGoOn wrote.trouble → AreFirst lo events done xs
    → AreTried (lo + done) (take (length events - done) (drop done events)) wrote ys
    → (stretch : Claimed) (rest : List E)
    → task_at_end (ToSend stretch lo events rest) (xs ++ ys) ≡ ToSend stretch (lo + (done + wrote.count)) (drop (done + wrote.count) events) rest
ends_more lo done events wrote xs ys fine h k stretch rest =
    let later : task_at_end (ToSend stretch (lo + done) (drop done events) rest) ys
    ≡ ToSend stretch (lo + done + wrote.count) (drop wrote.count (drop done events)) rest
    = subst (λ l. task_at_end (ToSend stretch (lo + done) l rest) ys ≡ ToSend stretch (lo + done + wrote.count) (drop wrote.count l) rest) (rest_of events done)
    (k.end stretch rest fine) in
    task_more (ToSend stretch lo events rest) xs ys ∙ ap (λ t. task_at_end t ys) (h.end stretch rest) ∙ later
    ∙ ap (λ n. ToSend stretch n (drop wrote.count (drop done events)) rest) (add_later lo done wrote.count)
    ∙ ap (λ l. ToSend stretch (lo + (done + wrote.count)) l rest) (rest_later done wrote.count events)

pub first_more : {S E : Type 0} (does : S → InletCall E → S → Type 0) (a b c : S) (lo done : ℕ) (events : List E) (wrote : Wrote) → done ≤ length events
    → (0 < length events → done < length events) → WritesGoOn wrote.trouble
    → SomeCalls does a b (AreFirst lo events done) → SomeCalls does b c (AreTried (lo + done) (take (length events - done) (drop done events)) wrote)
    → SomeCalls does a c (AreFirst lo events (done + wrote.count))
first_more does a b c lo done events wrote within before fine h k = record {
  calls = h.calls ++ k.calls;
  lead = lead_more does a b c h.calls k.calls h.lead k.lead;
  holds = record {
    tries = untried_more h.calls k.calls h.holds.tries k.holds.tries;
    claims = none_more h.calls k.calls h.holds.claims k.holds.claims;
    accepted = accepted_more lo done events wrote.count h.calls k.calls within h.holds.accepted k.holds.accepted;
    order = orders_more lo done events wrote h.calls k.calls before h.holds k.holds;
    end = ends_more lo done events wrote h.calls k.calls fine h.holds k.holds;
  };
}

-- none of them is refused
pub all_accepted : {S E : Type 0} (does : S → InletCall E → S → Type 0) (a b : S) (lo done : ℕ) (events : List E) → done ≡ length events
    → SomeCalls does a b (AreFirst lo events done) → SomeCalls does a b (WriteCalls lo events (Ok tt))
all_accepted does a b lo done events all h = record {
  calls = h.calls;
  lead = h.lead;
  holds = record {
    tries = h.holds.tries;
    claims = h.holds.claims;
    trouble = λ fault is. absurd (is_ok (Ok tt) fault refl is);
    accepted = h.holds.accepted ∙ ap (each_written lo) (take_all done events (omega arith));
    order = h.holds.order;
    end = λ stretch rest is. h.holds.end stretch rest ∙ ap (λ l. ToSend stretch (lo + done) l rest) (drop_all done events (omega arith))
        ∙ ap (λ n. ToSend stretch (lo + n) [] rest) all;
  };
}

fails_later : {E : Type 0} (lo done : ℕ) (events : List E) (trouble : Trouble) (call : InletCall E)
    → WriteFails (lo + done) (drop done events) trouble call → WriteFails lo events trouble call
fails_later lo done events trouble (WritesOne s event (Err fault)) (k, at, is, same, refusal) =
    (done + k, sym (event_later done k events) ∙ at, is ∙ add_later lo done k, same, refusal)
fails_later lo done events trouble (WritesMany s some wrote) (k, at, is, same, refusal) =
    (done + k, at ∙ rest_later done k events, is ∙ add_later lo done k, same, refusal)
fails_later lo done events trouble (WritesOne s event (Ok fine)) h = h
fails_later lo done events trouble (TriesClaim n answer) h = h
fails_later lo done events trouble (PublishesStretch from to answer) h = h

-- the last one is
pub last_refused : {S E : Type 0} (does : S → InletCall E → S → Type 0) (a b c : S) (lo done : ℕ) (events : List E) (wrote : Wrote) (why : Trouble)
    → wrote.trouble ≡ Some why → why ≢ Memory → done ≤ length events → (0 < length events → done < length events)
    → SomeCalls does a b (AreFirst lo events done) → SomeCalls does b c (AreTried (lo + done) (take (length events - done) (drop done events)) wrote)
    → SomeCalls does a c (WriteCalls lo events (Err why))
last_refused does a b c lo done events wrote Memory is other within before h k = absurd (other refl)
last_refused {S} {E} does a b c lo done events wrote (Refused r) is other within before h k = record {
  calls = h.calls ++ k.calls;
  lead = lead_more does a b c h.calls k.calls h.lead k.lead;
  holds = record {
    tries = untried_more h.calls k.calls h.holds.tries k.holds.tries;
    claims = none_more h.calls k.calls h.holds.claims k.holds.claims;
    trouble = λ fault same.
        let later = ends_as (WriteFails (lo + done) (drop done events) (Refused r)) (WriteFails lo events (Refused r))
        (fails_later lo done events (Refused r)) k.calls
        (subst (λ l. EndsIn (WriteFails (lo + done) l (Refused r)) k.calls) (rest_of events done) (k.holds.refused r is)) in
        subst (λ f. EndsIn (WriteFails lo events f) (h.calls ++ k.calls)) (same_trouble (Err (Refused r)) (Refused r) fault refl same)
        (ends_after (WriteFails lo events (Refused r)) h.calls k.calls later);
    accepted = (
      done + wrote.count,
      accepted_more lo done events wrote.count h.calls k.calls within h.holds.accepted k.holds.accepted
          ∙ each_written-take (done + wrote.count) lo events,
    );
    order = orders_more lo done events wrote h.calls k.calls before h.holds k.holds;
    end = λ stretch rest fine. absurd (is_ok (Err (Refused r)) (Refused r) fine refl);
  };
}
