-- Events go through a core of one thread: what the machine answers each call.
use Rattle.std.proofs.Common.{◌≡◌, ◌≤◌, ◌<◌, ◌+◌, ◌-◌, ◌^◌, ℕ, zero, suc, Bool, true, false, not, ◌&&◌, ◌||◌, List, [], ◌∷◌, ◌++◌, length, take, drop, replicate, slice_index, min, Option, Some, refl, sym, ap, ◌∙◌, subst, arith, inl, inr, if◌then◌else◌, nat_lt, drop-cons, get_or-set_same}
use Rattle.std.specs.Prelude.{◌==◌, nat_le, flat_map, is_none, slice_set, slice_index_or}
use Rattle.std.specs.List.{range_with_len, filter_map, cons_option}
use Rattle.std.proofs.lemmas.Bool.{cases_eq, cases_lt, cond-true, eq-eqb, le-leb, le-ltb, lt-leb, lt-ltb, ne_eqb}
use Rattle.std.proofs.lemmas.List.{get_or-replicate, length-replicate, replicate-append-replicate}
use Rattle.dr_seq.specs.declared.event.Event.{Event}
use Rattle.dr_seq.specs.Event.{no_event}
use Rattle.dr_meaning.specs.declared.command.Command.TheVariants.{Claim, Write, Publish, Poll, Complete}
use Rattle.dr_meaning.specs.declared.command.Command.{Command}
use Rattle.dr_meaning.specs.declared.command.Reply.{Reply}
use Rattle.dr_meaning.specs.declared.command.Reply.TheVariants.{Claimed, Written, Published, Batch, Completed}
use Rattle.dr_graph.specs.Meaning.Graph.{finals_without, nobody}
use Rattle.dr_meaning.specs.Meaning.Machine.{Outcome, Setup, State, accepted, available, front, gate, least_completed, next, least_outside, publish_faults, refusals, step}
use Rattle.dr_core.specs.Calls.CoreView.{CoreView}
use Rattle.dr_core.specs.Calls.Shows.{IsStep, Shows}
use Rattle.dr_meaning.proofs.Leasts.{least_is, least_one}
use Rattle.dr_meaning.proofs.Steps.{NoneHold, NoneHold-join, NoneHold-stretch, unless-none}
use Rattle.dr_core.specs.Calls.Passing.{passed, single_setup, written_below}

pub funext : {A B : Type 0} (f g : A → B) → ((x : A) → f x ≡ g x) → f ≡ g
funext f g h = λ i. λ x. h x i

-- the least number that is not below another
pub front_below : (n bound : ℕ) → n ≤ bound → least_outside (λ s. nat_lt s n) bound ≡ n
front_below n bound h = least_one (λ s. nat_lt s n) bound _ _ (least_is (λ s. nat_lt s n) bound)
    (record { within = h; below = λ k l. lt-ltb k n l; here = λ l. le-ltb n n (omega arith) })

pub next_is : (events : List Event) (claimed written published : ℕ) (taken completed : List ℕ)
    → next (passed events claimed written published taken completed) ≡ claimed
next_is events claimed written published taken completed = length-replicate claimed 0

pub claims : (graph : List (List ℕ)) (events : List Event) (size at n : ℕ) (counts : List ℕ)
    → at ≤ least_completed (passed events at at at counts counts) (finals_without graph nobody) → 0 < n → n ≤ size → at + n ≤ 2 ^ 62
    → step (single_setup graph size) (passed events at at at counts counts) (Claim 0 n)
    ≡ record { reply = Claimed at (at + n - 1); values = []; state = passed events (at + n) at at counts counts }
claims graph events size at n counts gated some fits limit =
    let c = single_setup graph size in
    let m = passed events at at at counts counts in
    let next_at : next m ≡ at = next_is events at at at counts counts in
    let nonzero : n ≡ 0 → ⊥ = λ e. absurd (omega arith) in
    let bad_count : ((n == 0) || nat_lt size n) ≡ false = rw (ne_eqb n 0 nonzero, le-ltb size n fits) refl in
    let exhausted : nat_lt (2 ^ 62) (next m + n) ≡ false = rw next_at (le-ltb (2 ^ 62) (at + n) limit) in
    let room : at + n ≤ size + gate c m = omega arith in
    let no_room : nat_lt (size + gate c m) (next m + n) ≡ false = rw next_at (le-ltb (size + gate c m) (at + n) room) in
    let none : NoneHold (refusals c m (Claim 0 n)) = (refl, (bad_count, (refl, (exhausted, (no_room, tt))))) in
    let after : ℕ → List ℕ → Outcome Event = λ k owners. record { reply = Claimed k (k + n - 1); values = []; state = record m { owners = owners } } in
    unless-none (refusals c m (Claim 0 n)) m (accepted c m (Claim 0 n)) none
    ∙ ap (λ k. after k (replicate at 0 ++ replicate n 0)) next_at ∙ ap (after at) (replicate-append-replicate at n 0)

written_more : (events : List Event) (w : ℕ) (e : Event) → e ≡ slice_index_or events w no_event → (k : ℕ)
    → (if k == w then Some e else written_below events w k) ≡ written_below events (w + 1) k
written_more events w e is k = elim (cases_eq k w) [
  | inl here ↦ let below : w < w + 1 = omega arith in rw here (rw (eq-eqb w w refl, lt-ltb w (w + 1) below, is) refl)
  | inr other ↦ elim (cases_lt k w) [
    | inl l ↦ let below : k < w + 1 = omega arith in rw (ne_eqb k w other, lt-ltb k w l, lt-ltb k (w + 1) below) refl
    | inr g ↦ let above : w + 1 ≤ k =
        omega arith in let not_below : w ≤ k = omega arith in rw (ne_eqb k w other, le-ltb k w not_below, le-ltb k (w + 1) above) refl
  ]
]

pub writes : (graph : List (List ℕ)) (events : List Event) (size claimed w at : ℕ) (taken completed : List ℕ) (e : Event)
    → at ≤ w → w < claimed → e ≡ slice_index_or events w no_event
    → step (single_setup graph size) (passed events claimed w at taken completed) (Write 0 w e)
    ≡ record { reply = Written; values = []; state = passed events claimed (w + 1) at taken completed }
writes graph events size claimed w at taken completed e low high is =
    let m = passed events claimed w at taken completed in
    let unclaimed : nat_le (next m) w ≡ false = rw (next_is events claimed w at taken completed) (lt-leb claimed w high) in
    let shown : nat_lt w at ≡ false = le-ltb w at low in
    let mine : slice_index (replicate claimed 0) w ≡ 0 = get_or-replicate claimed w 0 0 high in
    let other : not (slice_index (replicate claimed 0) w == 0) ≡ false = ap not (eq-eqb _ 0 mine) in
    let none : NoneHold (refusals (single_setup graph size) m (Write 0 w e)) = (refl, (unclaimed, (shown, (other, tt)))) in
    let after : (ℕ → Option Event) → Outcome Event = λ written. record { reply = Written; values = []; state = record m { written = written } } in
    unless-none (refusals (single_setup graph size) m (Write 0 w e)) m (accepted (single_setup graph size) m (Write 0 w e)) none
    ∙ ap after (funext (λ k. if k == w then Some e else written_below events w k) (written_below events (w + 1)) (written_more events w e is))

shown_more : (at n k : ℕ) → 0 < n → (nat_lt k at || (nat_le at k && nat_le k (at + n - 1))) ≡ nat_lt k (at + n)
shown_more at n k some = elim (cases_lt k at) [
  | inl l ↦ let more : k < at + n = omega arith in rw (lt-ltb k at l, lt-ltb k (at + n) more) refl
  | inr g ↦ let low : at ≤ k = omega arith in elim (cases_lt k (at + n)) [
    | inl l ↦ let high : k ≤ at + n - 1 = omega arith in rw (le-ltb k at low, le-leb at k low, le-leb k (at + n - 1) high, lt-ltb k (at + n) l) refl
    | inr o ↦ let over : at + n ≤ k =
        omega arith in let past : at + n - 1 < k = omega arith in rw (le-ltb k at low, le-leb at k low, lt-leb k (at + n - 1) past, le-ltb k (at + n) over) refl
  ]
]

pub publishes : (graph : List (List ℕ)) (events : List Event) (size at n : ℕ) (taken completed : List ℕ) → 0 < n
    → step (single_setup graph size) (passed events (at + n) (at + n) at taken completed) (Publish 0 at (at + n - 1))
    ≡ record { reply = Published; values = []; state = passed events (at + n) (at + n) (at + n) taken completed }
publishes graph events size at n taken completed some =
    let m = passed events (at + n) (at + n) at taken completed in
    let next_at : next m ≡ at + n = next_is events (at + n) (at + n) at taken completed in
    let order : at ≤ at + n - 1 = omega arith in
    let last : at + n - 1 < at + n = omega arith in
    let bad_count : nat_lt (at + n - 1) at ≡ false = le-ltb (at + n - 1) at order in
    let unclaimed : nat_le (next m) (at + n - 1) ≡ false = rw next_at (lt-leb (at + n) (at + n - 1) last) in
    let each_fine : (k : ℕ) → k < at + n - 1 + 1 - at → NoneHold (publish_faults m 0 (at + k)) = λ k l.
    (let low : at ≤ at + k = omega arith in
    let high : at + k < at + n = omega arith in
    let mine : slice_index (replicate (at + n) 0) (at + k) ≡ 0 = get_or-replicate (at + n) (at + k) 0 0 high in
    let hidden : nat_lt (at + k) at ≡ false = le-ltb (at + k) at low in
    let other : not (slice_index (replicate (at + n) 0) (at + k) == 0) ≡ false = ap not (eq-eqb _ 0 mine) in
    let unwritten : is_none (written_below events (at + n) (at + k)) ≡ false = rw (lt-ltb (at + k) (at + n) high) refl in
    (hidden, (other, (unwritten, tt)))) in
    let within : at ≤ at + n = omega arith in
    let here : front m ≡ at = rw next_at (front_below at (at + n) within) in
    let in_order : not (at == front m) ≡ false = rw here (ap not (eq-eqb at at refl)) in
    let none : NoneHold (refusals (single_setup graph size) m (Publish 0 at (at + n - 1))) =
    (refl, (bad_count, (unclaimed, NoneHold-join (flat_map (publish_faults m 0) (range_with_len at (at + n - 1 + 1 - at))) _ (NoneHold-stretch (publish_faults m 0) at (at + n - 1 + 1 - at) each_fine) (in_order, tt)))) in
    let after : (ℕ → Bool) → Outcome Event = λ published. record { reply = Published; values = []; state = record m { published = published } } in
    unless-none (refusals (single_setup graph size) m (Publish 0 at (at + n - 1))) m (accepted (single_setup graph size) m (Publish 0 at (at + n - 1))) none
    ∙ ap after (funext (λ k. nat_lt k at || (nat_le at k && nat_le k (at + n - 1))) (λ k. nat_lt k (at + n)) (λ k. shown_more at n k some))

-- the events of a stretch are those that were written to it
values_are : (events : List Event) (c at n : ℕ) → at + n ≤ c → c ≤ length events
    → filter_map (written_below events c) (range_with_len at n) ≡ take n (drop at events)
values_are events c at zero within fits = refl
values_are events c at (suc n) within fits =
    let below : at < c = omega arith in
    let inside : at < length events = omega arith in
    let rest : (at + 1) + n ≤ c = omega arith in
    let next_place : at + 1 ≡ suc at = omega arith in
    let first : written_below events c at ≡ Some (slice_index_or events at no_event) = rw (lt-ltb at c below) refl in
    let others = values_are events c (at + 1) n rest fits ∙ ap (λ k. take n (drop k events)) next_place in
    ap (λ e. cons_option e (filter_map (written_below events c) (range_with_len (at + 1) n))) first
    ∙ ap (λ l. slice_index_or events at no_event ∷ l) others ∙ ap (take (suc n)) (sym (drop-cons events at no_event inside))

pub polls : (graph : List (List ℕ)) (events : List Event) (size c at h room : ℕ) (counts : List ℕ) → h < length graph → 0 < room → slice_index counts h ≡ at
    → available (single_setup graph size) (passed events c c c counts counts) h ≡ c → at < c → c - at ≤ room → c ≤ length events
    → step (single_setup graph size) (passed events c c c counts counts) (Poll h room)
    ≡ record { reply = Batch at (c - at) true; values = take (c - at) (drop at events); state = passed events c c c (slice_set counts h c) counts }
polls graph events size c at h room counts handler some taken_is offered less fits within =
    let m = passed events c c c counts counts in
    let nonzero : room ≡ 0 → ⊥ = λ e. absurd (omega arith) in
    let none : NoneHold (refusals (single_setup graph size) m (Poll h room)) = (lt-leb (length graph) h handler, (refl, (ne_eqb room 0 nonzero, tt))) in
    let there : nat_lt (slice_index counts h) (available (single_setup graph size) m h) ≡ true = rw (taken_is, offered) (lt-ltb at c less) in
    let value = written_below events c in
    let by_count : ℕ → ℕ → ℕ → Outcome Event =
    λ first av count. record { reply = Batch first count (first + count == av); values = filter_map value (range_with_len first count); state = record m { taken = slice_set counts h (first + count) } } in
    let outcome : Bool → List Event → ℕ → Outcome Event =
    λ end values upto. record { reply = Batch at (c - at) end; values = values; state = record m { taken = slice_set counts h upto } } in
    let count_is : min (c - at) room ≡ c - at = omega arith in
    let whole : at + (c - at) ≡ c = omega arith in
    let inside : at + (c - at) ≤ c = omega arith in
    unless-none (refusals (single_setup graph size) m (Poll h room)) m (accepted (single_setup graph size) m (Poll h room)) none
    ∙ cond-true (nat_lt (slice_index counts h) (available (single_setup graph size) m h)) _ _ there
    ∙ ap (λ first. by_count first (available (single_setup graph size) m h) (min (available (single_setup graph size) m h - first) room)) taken_is
    ∙ ap (λ av. by_count at av (min (av - at) room)) offered
    ∙ ap (by_count at c) count_is
    ∙ ap (λ end. outcome end (filter_map value (range_with_len at (c - at))) (at + (c - at))) (eq-eqb (at + (c - at)) c whole)
    ∙ ap (λ values. outcome true values (at + (c - at))) (values_are events c at (c - at) inside within)
    ∙ ap (outcome true (take (c - at) (drop at events))) whole

pub completes : (graph : List (List ℕ)) (events : List Event) (size c at h : ℕ) (counts : List ℕ)
    → h < length graph → h < length counts → slice_index counts h ≡ at → at < c
    → step (single_setup graph size) (passed events c c c (slice_set counts h c) counts) (Complete h c)
    ≡ record { reply = Completed; values = []; state = passed events c c c (slice_set counts h c) (slice_set counts h c) }
completes graph events size c at h counts handler inside taken_is less =
    let m = passed events c c c (slice_set counts h c) counts in
    let low : at ≤ c = omega arith in
    let behind : nat_lt c (slice_index counts h) ≡ false = rw taken_is (le-ltb c at low) in
    let same : c ≤ c = omega arith in
    let taken_all : nat_lt (slice_index (slice_set counts h c) h) c ≡ false = rw (get_or-set_same counts h c 0 inside) (le-ltb c c same) in
    let none : NoneHold (refusals (single_setup graph size) m (Complete h c)) = (lt-leb (length graph) h handler, (refl, (behind, (taken_all, tt)))) in
    unless-none (refusals (single_setup graph size) m (Complete h c)) m (accepted (single_setup graph size) m (Complete h c)) none

-- what a core's call answers and leaves, where the machine's step is known
pub record Stepped (o : Outcome Event) (reply : Reply) (values : List Event) (c : Setup) (new : CoreView Event) : Type 0 where
  pub replies : o.reply ≡ reply
  pub hands_out : o.values ≡ values
  pub shows : Shows new o.state
  pub setup : new.setup ≡ c

pub stepped : (old new : CoreView Event) (command : Command Event) (reply : Reply) (values : List Event) (c : Setup) (m : State Event) (o : Outcome Event)
    → IsStep old command reply values new → old.setup ≡ c → Shows old m → step c m command ≡ o → Stepped o reply values c new
stepped old new command reply values c m o is setup_is shows e =
    let same : step old.setup m command ≡ o = ap (λ s. step s m command) setup_is ∙ e in
    record {
      replies = ap (λ x. x.reply) (sym same) ∙ is.replies m shows;
      hands_out = ap (λ x. x.values) (sym same) ∙ is.hands_out m shows;
      shows = subst (λ x. Shows new x.state) same (is.shown m shows);
      setup = is.same_setup ∙ setup_is;
    }
