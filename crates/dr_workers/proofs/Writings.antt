-- A script's events, written and published.
use Rattle.std.proofs.Common.{◌≡◌, ◌<◌, ◌≤◌, ◌+◌, ◌-◌, ℕ, zero, suc, List, [], ◌∷◌, ◌++◌, length, take, drop, map, get_or}
use Rattle.std.proofs.Common.{set, replicate, Option, None, Some, Ok, refl, sym, ap, ◌∙◌, subst, arith, append_assoc}
use Rattle.std.specs.Prelude.{◌==◌, false, flat_map, not}
use Rattle.std.specs.List.{range_with_len}
use Rattle.std.proofs.lemmas.Bool.{eqb-true, not-false}
use Rattle.std.proofs.lemmas.List.{append-nil, length-drop, length-take-le, map-append, take_more, take_all, take-append-drop, take-take, drop-take}
use Rattle.std.proofs.Math.Seq.{set-append_seam}
use Rattle.dr_meaning.specs.declared.command.Claimed.{Claimed}
use Rattle.dr_meaning.specs.declared.ends.Trouble.{Trouble}
use Rattle.dr_meaning.specs.declared.refusal.Refusal.{Refusal}
use Rattle.dr_meaning.specs.declared.refusal.Refusal.TheVariants.{BadCount, NoProducer, NotClaimed, OutOfOrder}
use Rattle.dr_meaning.specs.Meaning.Refusals.{NoneHolds, sequence_causes}
use Rattle.dr_meaning.specs.Calls.Ends.{written_of, Sent, Verdict, WhereShown, Claims, MayFail, PublishAnswers, StopsAt, Writes}
use Rattle.dr_meaning.specs.Calls.Ends.{WritesAll, Publishes, publish_tests, with_event, with_events}
use Rattle.dr_meaning.proofs.ManyWrites.{with_events-append, written_more}
use Rattle.dr_workers.specs.Meaning.Work.{Adds, Writing}
use Rattle.dr_workers.proofs.Picks.{there}
use Rattle.dr_workers.proofs.Showing.{shown_as, shown_none, shown_through}

abbrev pub some : {E : Type 0} → E → Option E
some e = Some e

abbrev pub Opens : {E : Type 0} → ℕ → Claimed → Sent E → Sent E → Type 0
Opens n c old new = Claims n (Ok c) old new

abbrev pub Puts : {E : Type 0} → ℕ → E → Sent E → Sent E → Type 0
Puts s e old new = Writes s e (Ok tt) old new

abbrev pub Shows : {E : Type 0} → ℕ → ℕ → Sent E → Sent E → Type 0
Shows lo hi old new = Publishes lo hi (Ok tt) old new

pub length-map : {E : Type 0} (xs : List E) → length (map some xs) ≡ length xs
length-map [] = refl
length-map (x ∷ xs) = ap suc (length-map xs)

-- one more of the events stands where nothing stood
next_put : {E : Type 0} (events : List E) (k i : ℕ) (e : E) → k < length events → i ≡ k → get_or events k e ≡ e
    → set (map some (take k events) ++ replicate (length events - k) None) i (Some e)
    ≡ map some (take (k + 1) events) ++ replicate (length events - (k + 1)) None
next_put events k i e less at is =
    let many : length (map some (take k events)) ≡ k = length-map (take k events) ∙ length-take-le k events (omega arith) in
    let place : i ≡ length (map some (take k events)) = at ∙ sym many in
    let left : length events - k ≡ suc (length events - (k + 1)) = omega arith in
    let front : map some (take (k + 1) events) ≡ map some (take k events) ++ Some e ∷ [] = ap (map some) (take_more events k e less)
    ∙ map-append some (take k events) (get_or events k e ∷ []) ∙ ap (λ x. map some (take k events) ++ Some x ∷ []) is in
    rw (place, left, front)
    (set-append_seam (map some (take k events)) None (replicate (length events - (k + 1)) None) (Some e)
    ∙ sym (append_assoc (map some (take k events)) (Some e ∷ []) (replicate (length events - (k + 1)) None)))

writing_more : {E : Type 0} (lo : ℕ) (events : List E) (k s : ℕ) (e : E) → k < length events → s ≡ lo + k → get_or events k e ≡ e
    → (a b c : Sent E) → Writing lo events k a b → Puts s e b c → Writing lo events (k + 1) a c
writing_more lo events k s e less at is a b c h put = record {
  published = ap (λ x. x.published) put ∙ h.published;
  pending = λ front nothing.
      let here : s - length b.published ≡ k = (let same = ap length h.published in omega arith) in
      ap (λ x. x.pending) put ∙ ap (λ l. set l (s - length b.published) (Some e)) (h.pending front nothing)
      ∙ next_put events k (s - length b.published) e less here is;
}

writing_none : {E : Type 0} (lo : ℕ) (events : List E) (a : Sent E) → Writing lo events 0 a a
writing_none lo events a =
    record { published = refl; pending = λ front nothing. (let over : length events - 0 ≡ length events = omega arith in rw over nothing) }

-- the first of some events are written one after another
writing_first : {E : Type 0} (lo : ℕ) (events : List E) (k : ℕ) → k ≤ length events → (a : Sent E) → Writing lo events k a (with_events lo (take k events) a)
writing_first lo events zero within a = writing_none lo events a
writing_first {E} lo events (suc k) within a =
    let less : k < length events = omega arith in
    let on : k + 1 ≡ suc k = omega arith in
    let before : Sent E = with_events lo (take k events) a in
    let at = there events k less in
    let e : E = at.0 in
    let next : with_event before (lo + k) e ≡ with_events lo (take (k + 1) events) a =
    written_more lo k (lo + k) events e e less refl at.2 (Some a) (Some before) (Some (with_event before (lo + k) e)) refl refl in
    subst (λ n. Writing lo events n a (with_events lo (take n events) a)) on
    (writing_more lo events k (lo + k) e less refl at.2 a before (with_events lo (take (k + 1) events) a)
    (writing_first lo events k (omega arith) a) (sym next))

written_as : {E : Type 0} (lo : ℕ) (events : List E) (a b : Sent E) → WritesAll lo events a b → Writing lo events (length events) a b
written_as lo events a b h =
    let all : take (length events) events ≡ events = take_all (length events) events (omega arith) in
    subst (λ x. Writing lo events (length events) a x) (ap (λ l. with_events lo l a) all ∙ sym h) (writing_first lo events (length events) (omega arith) a)

-- all events are written
pub writes_as : {E : Type 0} (lo : ℕ) (events : List E) (o p : Option (Sent E)) → WhereShown (WritesAll lo events) o p
    → WhereShown (Writing lo events (length events)) o p
writes_as lo events o p h = shown_as (WritesAll lo events) (Writing lo events (length events)) (written_as lo events) o p h

wrote_through : {E : Type 0} (lo : ℕ) (xs ys zs : List E) → zs ≡ xs ++ ys → (n : ℕ) → n ≡ lo + length xs → (a b c : Sent E) → WritesAll lo xs a b
    → WritesAll n ys b c → WritesAll lo zs a c
wrote_through lo xs ys zs is n at a b c h k = k ∙ ap (λ m. with_events m ys b) at ∙ ap (λ x. with_events (lo + length xs) ys x) h
    ∙ sym (with_events-append lo xs ys a) ∙ ap (λ l. with_events lo l a) (sym is)

-- some events after others
pub writes_through : {E : Type 0} (lo : ℕ) (xs ys zs : List E) → zs ≡ xs ++ ys → (n : ℕ) → n ≡ lo + length xs → (o p q : Option (Sent E))
    → WhereShown (WritesAll lo xs) o p → WhereShown (WritesAll n ys) p q → WhereShown (WritesAll lo zs) o q
writes_through lo xs ys zs is n at o p q h k = shown_through (WritesAll lo xs) (WritesAll n ys) (WritesAll lo zs) (wrote_through lo xs ys zs is n at) o p q h k

same_published : {E : Type 0} (lo : ℕ) (events : List E) (k : ℕ) (a b : Sent E) → Writing lo events k a b → Adds [] a b
same_published lo events k a b h = h.published ∙ sym (append-nil a.published)

written_adds : {E : Type 0} (lo : ℕ) (events : List E) (a b : Sent E) → WritesAll lo events a b → Adds [] a b
written_adds lo events a b h = same_published lo events (length events) a b (written_as lo events a b h)

-- what was written is not published yet
pub only_written : {E : Type 0} (lo : ℕ) (events : List E) (o p : Option (Sent E)) → WhereShown (WritesAll lo events) o p → WhereShown (Adds []) o p
only_written lo events o p h = shown_as (WritesAll lo events) (Adds []) (written_adds lo events) o p h

pub adds_nothing : {E : Type 0} (lo : ℕ) (events : List E) (o p q : Option (Sent E)) → WhereShown (WritesAll lo events) o p → q ≡ p → WhereShown (Adds []) o q
adds_nothing lo events o p q h same = rw same (only_written lo events o p h)

nothing_added : {E : Type 0} (a : Sent E) → Adds [] a a
nothing_added a = sym (append-nil a.published)

pub added_none : {E : Type 0} (o p : Option (Sent E)) → p ≡ o → WhereShown (Adds []) o p
added_none o p same = rw same (shown_none (Adds []) nothing_added o)

claimed_adds : {E : Type 0} (n : ℕ) (c : Claimed) (a b d : Sent E) → Opens n c a b → Adds [] b d → Adds [] a d
claimed_adds n c a b d h k = k ∙ ap (λ x. x.published ++ []) h.1

-- a claim after which nothing was published
pub claim_adds : {E : Type 0} (n : ℕ) (c : Claimed) (o p q : Option (Sent E)) → WhereShown (Opens n c) o p → WhereShown (Adds []) p q → WhereShown (Adds []) o q
claim_adds n c o p q h k = shown_through (Opens n c) (Adds []) (Adds []) (claimed_adds n c) o p q h k

take_over : {E : Type 0} (xs : List (Option E)) (n : ℕ) → n ≡ length xs → take n xs ≡ xs
take_over xs n is = take_all n xs (omega arith)

unwrapped : {E : Type 0} (xs : List E) → written_of (map some xs) ≡ xs
unwrapped [] = refl
unwrapped (x ∷ xs) = ap (λ l. x ∷ l) (unwrapped xs)

nothing_left : {E : Type 0} (xs : List (Option E)) → length xs ≡ 0 → xs ≡ []
nothing_left [] h = refl
nothing_left (x ∷ xs) h = absurd (omega arith)

-- what was claimed, written and then published
sent_all : {E : Type 0} (events : List E) (c : Claimed) → c.hi + 1 ≡ c.lo + length events → (a b d e : Sent E) → Opens (length events) c a b
    → Writing c.lo events (length events) b d → c.lo ≡ length d.published → Shows c.lo c.hi d e → Adds events a e
sent_all events c is a b d e claim write first_next shows =
    let same : d.published ≡ a.published = write.published ∙ ap (λ x. x.published) claim.1 in
    let at : c.lo ≡ length a.published = first_next ∙ ap length same in
    let before : b.published ≡ a.published = ap (λ x. x.published) claim.1 in
    let first : c.lo ≡ length b.published = at ∙ ap length (sym before) in
    let none : length a.pending ≡ 0 = (let lo = claim.0 in omega arith) in
    let pending : b.pending ≡ replicate (length events) None = ap (λ x. x.pending) claim.1
    ∙ ap (λ l. l ++ replicate (length events) None) (nothing_left a.pending none) in
    let all : take (length events) events ≡ events = take_all (length events) events (omega arith) in
    let over : length events - length events ≡ 0 = omega arith in
    let written : d.pending ≡ map some events = write.pending first pending ∙ ap (λ n. map some (take (length events) events) ++ replicate n None) over
    ∙ append-nil (map some (take (length events) events)) ∙ ap (map some) all in
    let many : c.hi + 1 - length d.published ≡ length d.pending = (let long = ap length written ∙ length-map events in let lo = first_next in omega arith) in
    ap (λ x. x.published) shows
    ∙ ap (λ l. d.published ++ written_of l) (take_over d.pending (c.hi + 1 - length d.published) many ∙ written)
    ∙ ap (λ l. d.published ++ l) (unwrapped events) ∙ ap (λ l. l ++ events) same

-- the last of the tests fails too
last_fails : (tests : List (Verdict × Refusal)) (test : Verdict × Refusal) → NoneHolds MayFail (tests ++ test ∷ []) → MayFail test.0
last_fails [] test h = h.0
last_fails (t ∷ tests) test h = last_fails tests test h.1

-- an only producer's publication begins where the published ones end
in_order : {E : Type 0} (lo hi : ℕ) (d : Sent E) → PublishAnswers (Some d) lo hi (Ok tt) → lo ≡ length d.published
in_order lo hi d h =
    let tests = publish_tests (Some d) lo hi in
    let before : List (Verdict × Refusal) = (tests.no_producer, NoProducer) ∷ (tests.bad_count, BadCount) ∷ (tests.unclaimed, NotClaimed)
    ∷ flat_map (λ s. sequence_causes (tests.of_sequence s)) (range_with_len lo (hi + 1 - lo)) in
    let last : not (lo == length d.published) ≡ false = last_fails before (tests.out_of_order, OutOfOrder) h in
    eqb-true lo (length d.published) (not-false (lo == length d.published) last)

pub sends : {E : Type 0} (events : List E) (c : Claimed) → c.hi + 1 ≡ c.lo + length events → (o p q r : Option (Sent E))
    → WhereShown (Opens (length events) c) o p → WhereShown (Writing c.lo events (length events)) p q
    → PublishAnswers q c.lo c.hi (Ok tt) → WhereShown (Shows c.lo c.hi) q r → WhereShown (Adds events) o r
sends events c is None None None None h k answer l = tt
sends events c is None None None (Some e) h k answer l = absurd l
sends events c is None None (Some d) r h k answer l = absurd k
sends events c is None (Some b) q r h k answer l = absurd h
sends events c is (Some a) None q r h k answer l = absurd h
sends events c is (Some a) (Some b) None r h k answer l = absurd k
sends events c is (Some a) (Some b) (Some d) None h k answer l = absurd l
sends events c is (Some a) (Some b) (Some d) (Some e) h k answer l = sent_all events c is a b d e h k (in_order c.lo c.hi d answer) l

-- one part of a script after another
added_more : {E : Type 0} (xs ys zs : List E) → zs ≡ xs ++ ys → (a b c : Sent E) → Adds xs a b → Adds ys b c → Adds zs a c
added_more xs ys zs is a b c h k = k ∙ ap (λ l. l ++ ys) h ∙ append_assoc a.published xs ys ∙ ap (λ l. a.published ++ l) (sym is)

pub adds_more : {E : Type 0} (xs ys zs : List E) → zs ≡ xs ++ ys → (o p q : Option (Sent E)) → WhereShown (Adds xs) o p → WhereShown (Adds ys) p q
    → WhereShown (Adds zs) o q
adds_more xs ys zs is o p q h k = shown_through (Adds xs) (Adds ys) (Adds zs) (added_more xs ys zs is) o p q h k

-- the first of a script, and then the next
pub first_and_next : {E : Type 0} (xs : List E) (n m : ℕ) → take (n + m) xs ≡ take n xs ++ take m (drop n xs)
first_and_next xs n m =
    let less : n ≤ n + m = omega arith in
    sym (take-append-drop n (take (n + m) xs)) ∙ ap (λ l. l ++ drop n (take (n + m) xs)) (take-take n (n + m) xs less)
    ∙ ap (λ l. take n xs ++ l) (drop-take n m xs)

-- how far a call came that writes many

pub stops_within : {E : Type 0} (shown : Option (Sent E)) (lo n count : ℕ) (trouble : Option Trouble) → StopsAt shown lo n count trouble → count ≤ n
stops_within shown lo n count None stops = omega arith
stops_within shown lo n count (Some trouble) stops = (let less = stops.0 in omega arith)

pub stops_before : {E : Type 0} (shown : Option (Sent E)) (lo n count : ℕ) (trouble : Option Trouble) (why : Trouble) → trouble ≡ Some why
    → StopsAt shown lo n count trouble → count < n
stops_before shown lo n count trouble why is stops = (let at = subst (λ t. StopsAt shown lo n count t) is stops in at.0)

pub stops_nowhere : {E : Type 0} (shown : Option (Sent E)) (lo n count : ℕ) (trouble : Option Trouble) → trouble ≡ None
    → StopsAt shown lo n count trouble → count ≡ n
stops_nowhere shown lo n count trouble none stops = subst (λ t. StopsAt shown lo n count t) none stops

-- the events after the first ones, as a slice has them
pub rest_of : {E : Type 0} (events : List E) (done : ℕ) → take (length events - done) (drop done events) ≡ drop done events
rest_of events done =
    (let left : length (drop done events) ≡ length events - done = length-drop done events in take_all (length events - done) (drop done events) (omega arith))

pub length-rest : {E : Type 0} (events : List E) (done : ℕ) → length (take (length events - done) (drop done events)) ≡ length events - done
length-rest events done = ap length (rest_of events done) ∙ length-drop done events

pub more_written : {E : Type 0} (lo done count : ℕ) (events : List E) → done ≤ length events → (o p q : Option (Sent E))
    → WhereShown (WritesAll lo (take done events)) o p
    → WhereShown (WritesAll (lo + done) (take count (take (length events - done) (drop done events)))) p q
    → WhereShown (WritesAll lo (take (done + count) events)) o q
more_written lo done count events within o p q h k =
    let many : length (take done events) ≡ done = length-take-le done events within in
    writes_through lo (take done events) (take count (drop done events)) (take (done + count) events) (first_and_next events done count) (lo + done)
    (omega arith) o p q h
    (subst (λ l. WhereShown (WritesAll (lo + done) (take count l)) p q) (rest_of events done) k)

pub all_written : {E : Type 0} (lo done count : ℕ) (events : List E) → done + count ≡ length events → (o p : Option (Sent E))
    → WhereShown (WritesAll lo (take (done + count) events)) o p → WhereShown (WritesAll lo events) o p
all_written lo done count events all o p h = subst (λ l. WhereShown (WritesAll lo l) o p) (take_all (done + count) events (omega arith)) h
