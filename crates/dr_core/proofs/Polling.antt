-- A poll of the core is the machine's.
use Rattle.std.proofs.Common.{◌≡◌, ℕ, zero, suc, ◌+◌, ◌-◌, ◌<◌, ◌≤◌, ◌≢◌, inl, inr, min, Bool, true, false, ◌&&◌, List, [], ◌∷◌}
use Rattle.std.proofs.Common.{◌++◌, arith, refl, ap, sym, ◌∙◌, length, map, slice_index, slice_set, get_or, take, drop, Option, Some}
use Rattle.std.specs.Prelude.{◌==◌, nat_le, nat_lt, if◌then◌else◌, Contains}
use Rattle.std.specs.List.{range_with_len, filter_map}
use Rattle.std.proofs.lemmas.Bool.{cond-true, cond-false, cases_Bool, false≢true, cases_eq, cases_lt, lt-leb, lt-ltb, le-ltb, ne_eqb, eq-eqb, and_from}
use Rattle.dr_meaning.specs.declared.command.Command.TheVariants.{Poll}
use Rattle.dr_meaning.specs.declared.command.Reply.{Reply}
use Rattle.dr_meaning.specs.declared.command.Reply.TheVariants.{Batch, Drained, Gating, Idle}
use Rattle.dr_seq.proofs.Sizes.{size_positive}
use Rattle.dr_graph.specs.Meaning.Graph.{upstreams_of, IsGraph, least_of}
use Rattle.dr_meaning.specs.Meaning.Machine.{State, Outcome, handlers, is_single, next, available, offered, cursor, batch, unchanged, accepted, step}
use Rattle.dr_core.specs.Calls.CoreView.{Known, Nothing, ClaimedBy, WrittenBy, PublishedWith, CoreView, known_at, retired_in}
use Rattle.dr_core.specs.Inside.Availability.{is_shown, event_known}
use Rattle.dr_core.specs.Calls.Shows.{Shows, Agrees, IsStep, TakesIfBatch, offered_to}
use Rattle.dr_meaning.specs.Calls.Replies.{poll_reply, polled}
use Rattle.dr_meaning.specs.Meaning.Runs.{count_in}
use Rattle.dr_meaning.specs.declared.refusal.Refusal.{Refusal}
use Rattle.dr_meaning.specs.declared.command.Polled.{Polled}
use Rattle.dr_meaning.specs.declared.command.Polled.TheVariants as answer
use Rattle.std.proofs.Common.{Result, Ok, Err}
use Rattle.std.proofs.lemmas.List.{take-append-le, length-take-le}
use Rattle.dr_core.specs.Inside.Fields.{IsWhole, IsNothing}
use Rattle.dr_core.proofs.CoreSteps.{accepted_step}
use Rattle.dr_core.proofs.Shown.{same_next, same_front, same_taken, same_completed, same_halted, same_retired}
use Rattle.dr_meaning.proofs.Leasts.{least_of-le, least_of-member}
use Rattle.std.proofs.lemmas.Bool.{leb-false}
use Rattle.dr_core.proofs.Writing.{below_front}
use Rattle.std.specs.Prelude.{All, is_none}
use Rattle.std.proofs.lemmas.Bool.{cond_both}
use Rattle.std.proofs.lemmas.Bool.Decides.{nat_tests}
use Rattle.dr_meaning.proofs.Sound.{given}
use Rattle.std.proofs.lemmas.List.Elements.{Contains-get_or}
use Rattle.std.proofs.lemmas.List.{get_or_past, get_or_read}

-- what is offered by the core is what the machine offers
offered_same : {E : Type 0} (v : CoreView E) (m : State E) → Shows v m → (ups : List ℕ) → offered m ups ≡ offered_to v ups
offered_same v m sh [] = same_front sh
offered_same v m sh (u ∷ us) = ap (λ cs. least_of (map (λ h. slice_index cs h) (u ∷ us))) (same_completed sh)

-- no more than is published, and than each upstream completed
pub offered_front : {E : Type 0} (v : CoreView E) → IsWhole v → (ups : List ℕ) → offered_to v ups ≤ v.front
offered_front v whole [] = omega arith
offered_front v whole (u ∷ us) =
    let a : least_of (map (λ h. slice_index v.completed h) (u ∷ us)) ≤ slice_index v.completed u =
    least_of-le (map (λ h. slice_index v.completed h) (u ∷ us)) 0 (omega arith) in
    let b : slice_index v.completed u ≤ slice_index v.taken u = whole.took u in
    let d : slice_index v.taken u ≤ v.front = whole.in_front u in
    omega arith

offered_upstream : {E : Type 0} (v : CoreView E) (ups : List ℕ) (u : ℕ) → Contains ups u → offered_to v ups ≤ slice_index v.completed u
offered_upstream v [] u has = absurd (let l : has.0 < 0 = has.1 in omega arith)
offered_upstream v (x ∷ xs) u has = least_of-member (λ h. slice_index v.completed h) (x ∷ xs) u has

-- of a published sequence the event is known
known_value : {E : Type 0} (known : Known E) (o : ℕ) (b : Bool) (w : Option E) → b ≡ true → Agrees known o b w
    → (is_shown known ≡ true) × (event_known known ≡ w)
known_value Nothing o b w y h = absurd h
known_value (ClaimedBy q) o b w y h = absurd (false≢true (sym h.1 ∙ y))
known_value (WrittenBy q event) o b w y h = absurd (false≢true (sym h.1 ∙ y))
known_value (PublishedWith event) o b w y h = (refl, sym h.1)

map_same : {E : Type 0} (f : ℕ → Option E) (g : ℕ → E) (a n : ℕ) → ((k : ℕ) → a ≤ k → k < a + n → f k ≡ Some (g k))
    → filter_map f (range_with_len a n) ≡ map g (range_with_len a n)
map_same f g a zero h = refl
map_same f g a (suc n) h = (let e : f a ≡ Some (g a) = h a (omega arith) (omega arith) in
    let r : filter_map f (range_with_len (a + 1) n) ≡ map g (range_with_len (a + 1) n) = map_same f g (a + 1) n (λ k x y. h k (omega arith) (omega arith)) in
    rw (e, r) refl)

cursor_same : {E : Type 0} (v : CoreView E) (m : State E) → Shows v m → cursor v.setup m ≡ (if is_single v.setup.mode then v.front else v.next)
cursor_same v m sh =
    ap (λ f. if is_single v.setup.mode then f else next m) (same_front sh) ∙ ap (λ n. if is_single v.setup.mode then v.front else n) (same_next sh)

module _ {E : Type 0} (v : CoreView E) (h limit : ℕ) (whole : IsWhole v) (inside : h < handlers v.setup) (left : retired_in v h ≡ false) (some : limit ≢ 0) where
  none : (m : State E) → Shows v m → (nat_le (handlers v.setup) h ≡ false) × ((m.retired h ≡ false) × (((limit == 0) ≡ false) × Unit {0}))
  none m sh = (lt-leb _ _ inside, (same_retired sh h ∙ left, (ne_eqb limit 0 some, tt)))

  same : (m : State E) → Shows v m → available v.setup m h ≡ offered_to v (upstreams_of v.setup.upstreams h)
  same m sh = offered_same v m sh (upstreams_of v.setup.upstreams h)

  -- the poll in one of its cases
  pub quiet_step : (r : Reply) → ((m : State E) → Shows v m → accepted v.setup m (Poll h limit) ≡ unchanged r m) → IsStep v (Poll h limit) r [] v
  quiet_step r is = accepted_step refl refl (λ m sh. record {
    passes = none m sh;
    replies = ap (λ o. o.reply) (is m sh);
    hands_out = ap (λ o. o.values) (is m sh);
    shown = rw (is m sh) sh;
  })

  module _ (all : offered_to v (upstreams_of v.setup.upstreams h) ≤ slice_index v.taken h) where
    no_batch : (m : State E) → Shows v m → nat_lt (slice_index m.taken h) (available v.setup m h) ≡ false
    no_batch m sh = (let e : available v.setup m h ≡ offered_to v (upstreams_of v.setup.upstreams h) = same m sh in
        let t : slice_index m.taken h ≡ slice_index v.taken h = ap (λ ts. slice_index ts h) (same_taken sh) in
        le-ltb _ _ (omega arith))

    pub drained_step : v.halted ≡ true → slice_index v.taken h ≡ v.next → IsStep v (Poll h limit) Drained [] v
    drained_step halted last =
        quiet_step Drained
        (λ m sh. cond-false _ _ _ (no_batch m sh) ∙ cond-true _ _ _ (and_from _ _ (same_halted sh ∙ halted) (eq-eqb _ _ (ap (λ ts. slice_index ts h) (same_taken sh) ∙ last ∙ sym (same_next sh)))))

    stays : (v.halted && (slice_index v.taken h == v.next)) ≡ false → (m : State E) → Shows v m → (m.halted && (slice_index m.taken h == next m)) ≡ false
    stays more m sh = (let e : next m ≡ v.next = same_next sh in rw (same_halted sh, same_taken sh, e) more)

    pub gating_step : (v.halted && (slice_index v.taken h == v.next)) ≡ false
        → slice_index v.taken h < (if is_single v.setup.mode then v.front else v.next) → IsStep v (Poll h limit) Gating [] v
    gating_step more l =
        quiet_step Gating
        (λ m sh. let ahead : nat_lt (slice_index m.taken h) (cursor v.setup m) ≡ true = (let c : cursor v.setup m ≡ (if is_single v.setup.mode then v.front else v.next) = cursor_same v m sh in rw (c, same_taken sh) (lt-ltb _ _ l)) in
        cond-false _ _ _ (no_batch m sh) ∙ cond-false _ _ _ (stays more m sh) ∙ cond-true _ _ _ ahead)

    pub idle_step : (v.halted && (slice_index v.taken h == v.next)) ≡ false
        → (if is_single v.setup.mode then v.front else v.next) ≤ slice_index v.taken h → IsStep v (Poll h limit) Idle [] v
    idle_step more l =
        quiet_step Idle
        (λ m sh. let ahead : nat_lt (slice_index m.taken h) (cursor v.setup m) ≡ false = (let c : cursor v.setup m ≡ (if is_single v.setup.mode then v.front else v.next) = cursor_same v m sh in rw (c, same_taken sh) (le-ltb _ _ l)) in
        cond-false _ _ _ (no_batch m sh) ∙ cond-false _ _ _ (stays more m sh) ∙ cond-false _ _ _ ahead)

    -- a poll that hands nothing out
    pub nothing_step : (said : Polled) → IsNothing v (slice_index v.taken h) said → IsStep v (Poll h limit) (poll_reply (Ok said)) [] v
    nothing_step (answer.Batch first count end) is = absurd is
    nothing_step answer.Drained is = drained_step is.0 is.1
    nothing_step answer.Gating is = gating_step is.0 is.1
    nothing_step answer.Idle is = idle_step is.0 is.1

  module _ (more : slice_index v.taken h < offered_to v (upstreams_of v.setup.upstreams h)) where
    is_batch : (m : State E) → Shows v m → accepted v.setup m (Poll h limit) ≡ batch v.setup m h limit
    is_batch m sh = (let e : available v.setup m h ≡ offered_to v (upstreams_of v.setup.upstreams h) = same m sh in
        let t : slice_index m.taken h ≡ slice_index v.taken h = ap (λ ts. slice_index ts h) (same_taken sh) in
        let l : slice_index m.taken h < available v.setup m h = omega arith in
        cond-true (nat_lt (slice_index m.taken h) (available v.setup m h)) _ _ (lt-ltb _ _ l))

    taken_shows : (first count : ℕ) (m : State E) → Shows v m
        → Shows (record v { taken = slice_set v.taken h (first + count) }) (record m { taken = slice_set m.taken h (first + count) })
    taken_shows first count m sh = record { counts = λ i. record (sh.counts i) { taken = slice_set (sh.counts i).taken h (first + count) }; flags = sh.flags; recents = sh.recents }

    pub batch_step : (first count to : ℕ) (event : ℕ → E)
        → ((k : ℕ) → k < v.next → v.next ≤ k + v.setup.size → is_shown (known_at v k) ≡ true → Some (event k) ≡ event_known (known_at v k))
        → first ≡ slice_index v.taken h → to ≡ offered_to v (upstreams_of v.setup.upstreams h) → count ≡ min (to - first) limit
        → IsStep v (Poll h limit) (Batch first count (first + count == to)) (map event (range_with_len first count))
        (record v { taken = slice_set v.taken h (first + count) })
    batch_step first count to event holds a b d =
        accepted_step refl refl (λ m sh.
        let t : slice_index m.taken h ≡ first = first_is m sh in
        let e : available v.setup m h ≡ to = same m sh ∙ sym b in
        record {
          passes = none m sh;
          replies = ap (λ o. o.reply) (is_batch m sh) ∙ rw (e, t, ← d);
          hands_out = ap (λ o. o.values) (is_batch m sh) ∙ rw (e, t, ← d) (values m sh);
          shown = rw (is_batch m sh) (rw (e, t, ← d) (taken_shows first count m sh));
        })
      where
        first_is : (m : State E) → Shows v m → slice_index m.taken h ≡ first
        first_is m sh = ap (λ ts. slice_index ts h) (same_taken sh) ∙ sym a

        values : (m : State E) → Shows v m → filter_map m.written (range_with_len first count) ≡ map event (range_with_len first count)
        values m sh = map_same m.written event first count
            (λ k x y. let f : offered_to v (upstreams_of v.setup.upstreams h) ≤ v.front = offered_front v whole (upstreams_of v.setup.upstreams h) in
            let n : v.front ≤ v.next = whole.front in
            let r : v.next ≤ v.setup.size + slice_index v.completed h = whole.room h inside left in
            let c : slice_index v.completed h ≤ slice_index v.taken h = whole.took h in
            let there : (is_shown (known_at v k) ≡ true) × (event_known (known_at v k) ≡ m.written k) =
            known_value (known_at v k) _ _ _ (below_front v m sh k (omega arith)) (sh.recent k (omega arith) (omega arith)) in
            sym (holds k (omega arith) (omega arith) there.0 ∙ there.1))

-- of some upstreams it is their least count
pub offered_some : {E : Type 0} (v : CoreView E) (ups : List ℕ) → 0 < length ups → least_of (map (λ h. slice_index v.completed h) ups) ≡ offered_to v ups
offered_some v [] l = absurd (omega arith)
offered_some v (u ∷ us) l = refl

-- every upstream is a handler
upstream_within : (graph : List (List ℕ)) → IsGraph graph → (h u : ℕ) → Contains (upstreams_of graph h) u → u < length graph
upstream_within graph is h u has = elim (cases_lt h (length graph)) [
  | inl inside ↦ (let below : u < h = is.layered h u has in omega arith)
  | inr outside ↦ absurd (let none : upstreams_of graph h ≡ [] = get_or_past graph h [] outside in
      let l : has.0 < length (upstreams_of graph h) = has.1 in
      let z : length (upstreams_of graph h) ≡ 0 = ap length none in
      omega arith)
]

pub ups_within : {E : Type 0} (v : CoreView E) → IsWhole v → (h : ℕ) (ups : List ℕ) → ups ≡ upstreams_of v.setup.upstreams h → All (λ u. u < length v.completed) ups
ups_within v whole h ups is =
    rw is (λ k d l.
    let e : length v.completed ≡ handlers v.setup = whole.completed_len in
    let ups : List ℕ = upstreams_of v.setup.upstreams h in
    let w : get_or ups k d < handlers v.setup = upstream_within v.setup.upstreams whole.graph h (get_or ups k d) (Contains-get_or ups k d l) in
    omega arith)

-- more room than the size gives no more
step_capped : {E : Type 0} (v : CoreView E) (m : State E) (h limit : ℕ) → IsWhole v → Shows v m
    → step v.setup m (Poll h limit) ≡ step v.setup m (Poll h (min limit v.setup.size))
step_capped v m h limit whole sh =
    elim (cases_Bool (nat_le (handlers v.setup) h)) [
      | inl y ↦ cond-true _ _ _ y ∙ sym (cond-true _ _ _ y)
      | inr n ↦ elim (cases_Bool (m.retired h)) [
        | inl gone ↦ cond-false _ _ _ n ∙ cond-true _ _ _ gone ∙ sym (cond-false _ _ _ n ∙ cond-true _ _ _ gone)
        | inr here ↦
            let inside : h < handlers v.setup = leb-false (handlers v.setup) h n in
            let pos : 0 < v.setup.size = size_positive v.setup.size whole.size in
            let room : v.next ≤ v.setup.size + slice_index v.completed h = whole.room h inside (sym (same_retired sh h) ∙ here) in
            let took : slice_index v.completed h ≤ slice_index v.taken h = whole.took h in
            let to : available v.setup m h ≡ offered_to v (upstreams_of v.setup.upstreams h) = offered_same v m sh (upstreams_of v.setup.upstreams h) in
            let front : offered_to v (upstreams_of v.setup.upstreams h) ≤ v.front = offered_front v whole (upstreams_of v.setup.upstreams h) in
            let claimed : v.front ≤ v.next = whole.front in
            let first : slice_index m.taken h ≡ slice_index v.taken h = ap (λ ts. slice_index ts h) (same_taken sh) in
            let count : min (available v.setup m h - slice_index m.taken h) limit ≡ min (available v.setup m h - slice_index m.taken h) (min limit v.setup.size) =
            omega arith in
            let zero : (limit == 0) ≡ (min limit v.setup.size == 0) = elim (cases_eq limit 0) [
              | inl e ↦ eq-eqb _ _ e ∙ sym (eq-eqb _ _ (let z : min limit v.setup.size ≡ 0 = omega arith in z))
              | inr ne ↦ ne_eqb _ _ ne ∙ sym (ne_eqb _ _ (let z : min limit v.setup.size ≢ 0 = omega arith in z))
            ] in
            rw zero (rw count)
      ]
    ]

pub capped_step : {E : Type 0} (v w : CoreView E) (h limit : ℕ) (reply : Reply) (values : List E) → IsWhole v
    → IsStep v (Poll h (min limit v.setup.size)) reply values w → IsStep v (Poll h limit) reply values w
capped_step v w h limit reply values whole is = record {
  same_setup = is.same_setup;
  same_names = is.same_names;
  replies = λ m sh. ap (λ o. o.reply) (step_capped v m h limit whole sh) ∙ is.replies m sh;
  hands_out = λ m sh. ap (λ o. o.values) (step_capped v m h limit whole sh) ∙ is.hands_out m sh;
  shown = λ m sh. rw (step_capped v m h limit whole sh) (is.shown m sh);
}

polled-is : {E : Type 0} (r : Result Polled Refusal) (sub rest : List E) → count_in (poll_reply r) ≤ length sub
    → polled r sub ≡ take (count_in (poll_reply r)) (sub ++ rest)
polled-is (Ok (answer.Batch first count end)) sub rest l = sym (take-append-le count sub rest l)
polled-is (Ok answer.Drained) sub rest l = refl
polled-is (Ok answer.Gating) sub rest l = refl
polled-is (Ok answer.Idle) sub rest l = refl
polled-is (Err r) sub rest l = refl

-- what a poll into the front of a buffer answers
pub poll_front : {E : Type 0} (v w : CoreView E) (h limit k : ℕ) (r : Result Polled Refusal) (sub out : List E) → IsWhole v → k ≡ min limit v.setup.size
    → min limit v.setup.size ≤ length out → length sub ≡ length (take k out)
    → count_in (poll_reply r) ≤ length (take k out) → IsStep v (Poll h (length (take k out))) (poll_reply r) (polled r sub) w
    → IsStep v (Poll h limit) (poll_reply r) (take (count_in (poll_reply r)) (sub ++ drop k out)) w
poll_front v w h limit k r sub out whole is room same fits step =
    let len : length (take k out) ≡ min limit v.setup.size = length-take-le k out (omega arith) ∙ is in
    let values : polled r sub ≡ take (count_in (poll_reply r)) (sub ++ drop k out) = polled-is r sub (drop k out) (omega arith) in
    capped_step v w h limit (poll_reply r) (take (count_in (poll_reply r)) (sub ++ drop k out)) whole (rw values at (rw len at step))

-- what is ready on each state that the core shows
pub ready_is : {E : Type 0} (v : CoreView E) (h n to first : ℕ) → n ≡ to - first → to ≡ offered_to v (upstreams_of v.setup.upstreams h)
    → first ≡ slice_index v.taken h → (m : State E) → Shows v m → n ≡ available v.setup m h - slice_index m.taken h
ready_is v h n to first a b d m sh =
    let e : available v.setup m h ≡ offered_to v (upstreams_of v.setup.upstreams h) = offered_same v m sh (upstreams_of v.setup.upstreams h) in
    let t : slice_index m.taken h ≡ slice_index v.taken h = ap (λ ts. slice_index ts h) (same_taken sh) in
    omega arith

-- what a poll has found before it answers: the handler is there, room is offered, and how much it took and is let through
pub record PollsAt {E : Type 0} (v : CoreView E) (h limit first to : ℕ) : Type 0 where
  pub whole : IsWhole v
  pub inside : h < handlers v.setup
  pub left : retired_in v h ≡ false
  pub some : limit ≢ 0
  pub taken : first ≡ slice_index v.taken h
  pub offered : to ≡ offered_to v (upstreams_of v.setup.upstreams h)

pub polls_at : {E : Type 0} (v : CoreView E) (h limit count first to : ℕ) → IsWhole v → count ≡ handlers v.setup → h < count → retired_in v h ≡ false → limit ≢ 0
    → first ≡ get_or v.taken h first → to ≡ offered_to v (upstreams_of v.setup.upstreams h) → PollsAt v h limit first to
polls_at v h limit count first to whole counted inside left some read offered =
    let taken : length v.taken ≡ handlers v.setup = whole.taken_len in
    record { whole = whole; inside = omega arith; left = left; some = some; taken = get_or_read v.taken h first (omega arith) read 0; offered = offered }

-- what goes with an answer that hands nothing out
pub record GivesNothing (E : Type 0) (said : Polled) : Type 0 where
  pub none : (out : List E) → polled (Ok said) out ≡ []
  pub counts : count_in (poll_reply (Ok said)) ≡ 0

pub gives_nothing : {E : Type 0} (v : CoreView E) (first : ℕ) (said : Polled) → IsNothing v first said → GivesNothing E said
gives_nothing v first (answer.Batch start count end) is = absurd is
gives_nothing v first answer.Drained is = record { none = λ out. refl; counts = refl }
gives_nothing v first answer.Gating is = record { none = λ out. refl; counts = refl }
gives_nothing v first answer.Idle is = record { none = λ out. refl; counts = refl }

pub takes_nothing : {E : Type 0} (v new : CoreView E) (h first : ℕ) (said : Polled) → IsNothing v first said → TakesIfBatch h (Ok said) new
takes_nothing v new h first (answer.Batch start count end) is = absurd is
takes_nothing v new h first answer.Drained is = tt
takes_nothing v new h first answer.Gating is = tt
takes_nothing v new h first answer.Idle is = tt

-- what is published is written
written_shown : {E : Type 0} (known : Known E) (o : ℕ) (b : Bool) (w : Option E) → b ≡ true → Agrees known o b w → is_none w ≡ false
written_shown Nothing o b w y h = absurd h
written_shown (ClaimedBy q) o b w y h = absurd (false≢true (sym h.1 ∙ y))
written_shown (WrittenBy q event) o b w y h = absurd (false≢true (sym h.1 ∙ y))
written_shown (PublishedWith event) o b w y h = ap is_none h.1

-- a poll gives what is available, and at most what it asks for
pub poll_counts : {E : Type 0} (v : CoreView E) (m : State E) (h max : ℕ) → IsWhole v → Shows v m → h < handlers v.setup → retired_in v h ≡ false
    → length (step v.setup m (Poll h max)).values ≡ min (available v.setup m h - slice_index m.taken h) max
poll_counts {E} v m h max whole sh inside left =
    let n : ℕ = min (available v.setup m h - slice_index m.taken h) max in
    let P : Outcome E → Type 0 = λ o. length o.values ≡ n in
    let to : available v.setup m h ≡ offered_to v (upstreams_of v.setup.upstreams h) = offered_same v m sh (upstreams_of v.setup.upstreams h) in
    let f : offered_to v (upstreams_of v.setup.upstreams h) ≤ v.front = offered_front v whole (upstreams_of v.setup.upstreams h) in
    let claimed : v.front ≤ v.next = whole.front in
    let room : v.next ≤ v.setup.size + slice_index v.completed h = whole.room h inside left in
    let took : slice_index v.completed h ≤ slice_index v.taken h = whole.took h in
    let first : slice_index m.taken h ≡ slice_index v.taken h = ap (λ ts. slice_index ts h) (same_taken sh) in
    cond_both (nat_le (handlers v.setup) h) _ _ P (λ y. absurd (let out : handlers v.setup ≤ h = grind (arith, nat_tests, y) in omega arith))
    (λ n'. cond_both (m.retired h) _ _ P (λ y. absurd (false≢true (sym (same_retired sh h ∙ left) ∙ y)))
    (λ n''. cond_both (max == 0) _ _ P (λ y. (let z : max ≡ 0 = grind (arith, nat_tests, y) in omega arith))
    (λ some. cond_both (nat_lt (slice_index m.taken h) (available v.setup m h)) _ _ P
    (λ y. (let more : slice_index m.taken h < available v.setup m h = grind (arith, nat_tests, y) in
    (given m.written (slice_index m.taken h) n
    (λ k low high. written_shown (known_at v k) _ _ _ (below_front v m sh k (omega arith)) (sh.recent k (omega arith) (omega arith)))).0))
    (λ none. let z : available v.setup m h ≤ slice_index m.taken h = grind (arith, nat_tests, none) in
    cond_both (m.halted && (slice_index m.taken h == next m)) _ _ P (λ y. omega arith)
    (λ a. cond_both (nat_lt (slice_index m.taken h) (cursor v.setup m)) _ _ P (λ y. omega arith) (λ b. omega arith))))))
