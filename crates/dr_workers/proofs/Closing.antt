-- What was claimed is published, or was refused to an end that shows nothing.
use Rattle.std.proofs.Common.{◌≡◌, ◌≢◌, ◌⊎◌, ◌<◌, ◌≤◌, ◌+◌, ◌-◌, ℕ, Bool, true, false, List, [], ◌∷◌, ◌++◌, length, take, drop, map, replicate}
use Rattle.std.proofs.Common.{get_or, Option, None, Some, Result, Ok, Err, inl, inr, refl, sym, ap, ◌∙◌, arith, length-append}
use Rattle.std.specs.Prelude.{◌==◌, OnErr, OnOk, flat_map, is_none, nat_le, nat_lt, not}
use Rattle.std.specs.List.{range_with_len}
use Rattle.std.proofs.lemmas.Bool.{false≢true}
use Rattle.std.proofs.lemmas.Bool.Decides.{nat_tests}
use Rattle.std.proofs.lemmas.List.{append-nil, get_or-map, length-replicate, length-set, take_all}
use Rattle.std.proofs.Math.Seq.{drop-length}
use Rattle.dr_meaning.specs.declared.command.Claimed.{Claimed}
use Rattle.dr_meaning.specs.declared.ends.Trouble.{Trouble}
use Rattle.dr_meaning.specs.declared.ends.Trouble.TheVariants.{Refused, Memory}
use Rattle.dr_meaning.specs.declared.refusal.Refusal.{Refusal}
use Rattle.dr_meaning.specs.declared.refusal.Refusal.TheVariants.{OutOfOrder}
use Rattle.dr_meaning.specs.Meaning.Refusals.{NoneHolds, IsFirst, publish_causes, sequence_causes}
use Rattle.dr_meaning.specs.Calls.Ends.{Sent, Verdict, WhereShown, MayFail, MayHold, PublishAnswers, StopsAt, WriteAnswers, WritesAll}
use Rattle.dr_meaning.specs.Calls.Ends.{Exactly, Publishes, claimed_in, end_sequence_tests, open_event, publish_tests, with_event, with_events}
use Rattle.dr_meaning.proofs.Causes.{none_join, none_of_stretch}
use Rattle.dr_workers.specs.Inside.Writes.{HasClosed, MayRefuse}
use Rattle.dr_workers.specs.Meaning.Work.{Adds, LeavesNothingOpen, Writing}
use Rattle.dr_workers.proofs.Showing.{shown_none, shown_through}
use Rattle.dr_workers.proofs.Writings.{Opens, Shows, length-map, some}

-- Where a write is refused.

pub same_published : {E : Type 0} (lo : ℕ) (xs : List E) (e : Sent E) → (with_events lo xs e).published ≡ e.published
same_published lo [] e = refl
same_published lo (x ∷ xs) e = same_published (lo + 1) xs (with_event e lo x)

pub same_pending : {E : Type 0} (lo : ℕ) (xs : List E) (e : Sent E) → length (with_events lo xs e).pending ≡ length e.pending
same_pending lo [] e = refl
same_pending lo (x ∷ xs) e = same_pending (lo + 1) xs (with_event e lo x) ∙ length-set e.pending _ (Some x)

-- a write is refused where the sequence is not claimed, or is published
refused_where : {E : Type 0} (b : Sent E) (s : ℕ) (r : Refusal) → WriteAnswers (Some b) s (Err (Refused r)) → (claimed_in b ≤ s) ⊎ (s < length b.published)
refused_where b s r (inl none) = absurd (false≢true none.0)
refused_where b s r (inr (h, inl unclaimed)) = inl (grind (arith, nat_tests, unclaimed.0))
refused_where b s r (inr (h, inr (h', inl published))) = inr (grind (arith, nat_tests, published.0))
refused_where b s r (inr (h, inr (h', inr (h'', inl strange)))) = absurd (false≢true strange.0)
refused_where b s r (inr (h, inr (h', inr (h'', inr (h''', never))))) = absurd never

closed_there : {E : Type 0} (lo : ℕ) (written : List E) (a b : Sent E) (s n : ℕ) → lo ≤ s → s < lo + n → WritesAll lo written a b
    → (claimed_in b ≤ s) ⊎ (s < length b.published) → HasClosed lo n a
closed_there lo written a b s n low high wrote closed =
    let published : length b.published ≡ length a.published = ap (λ x. length x.published) wrote ∙ ap length (same_published lo written a) in
    let pending : length b.pending ≡ length a.pending = ap (λ x. length x.pending) wrote ∙ same_pending lo written a in
    record { sequence = s; first = low; last = high; closed = elim closed [ inl beyond ↦ inl (omega arith) | inr below ↦ inr (omega arith) ] }

pub write_refused : {E : Type 0} (lo : ℕ) (written : List E) (n at m count : ℕ) (o p : Option (Sent E)) (r : Refusal)
    → WhereShown (WritesAll lo written) o p → lo ≤ at → at + m ≤ lo + n
    → StopsAt p at m count (Some (Refused r)) → MayRefuse lo n o
write_refused lo written n at m count None p r wrote low high stops = tt
write_refused lo written n at m count (Some a) None r wrote low high stops = absurd wrote
write_refused lo written n at m count (Some a) (Some b) r wrote low high stops =
    let less : count < m = stops.0 in
    closed_there lo written a b (at + count) n (omega arith) (omega arith) wrote (refused_where b (at + count) r stops.1)

-- the trouble of a result
abbrev pub trouble_of : Result (Unit {0}) Trouble → Option Trouble
trouble_of (Ok done) = None
trouble_of (Err trouble) = Some trouble

-- What was claimed may be written.

may_write : {E : Type 0} (n : ℕ) (c : Claimed) (a b : Sent E) → Opens n c a b → HasClosed c.lo n b → ⊥
may_write n c a b claim here =
    let lo = claim.0 in
    let low = here.first in
    let high = here.last in
    let published : length b.published ≡ length a.published = ap (λ x. length x.published) claim.1 in
    let pending : length b.pending ≡ length a.pending + n = ap (λ x. length x.pending) claim.1 ∙ length-append a.pending (replicate n None)
    ∙ ap (λ k. length a.pending + k) (length-replicate n None) in
    elim here.closed [ inl beyond ↦ omega arith | inr below ↦ omega arith ]

-- a refused write leaves nothing open: the end shows nothing
pub nothing_written : {E : Type 0} (n : ℕ) (c : Claimed) (o p q : Option (Sent E)) → WhereShown (Opens n c) o p → MayRefuse c.lo n p → WhereShown (Adds []) p q
    → WhereShown LeavesNothingOpen o q
nothing_written n c None None None h refuses k = tt
nothing_written n c None None (Some d) h refuses k = absurd k
nothing_written n c None (Some b) q h refuses k = absurd h
nothing_written n c (Some a) None q h refuses k = absurd h
nothing_written n c (Some a) (Some b) q h refuses k = absurd (may_write n c a b h refuses)

-- What was written may be published.

abbrev CannotHold : Verdict → Type 0
CannotHold v = MayHold v → ⊥

no_refusal : (r : Refusal) (tests : List (Verdict × Refusal)) → NoneHolds CannotHold tests → IsFirst MayHold MayFail r tests → ⊥
no_refusal r [] none first = first
no_refusal r (t ∷ tests) none (inl here) = none.0 here.0
no_refusal r (t ∷ tests) none (inr later) = no_refusal r tests none.1 later.1

cannot : (b : Bool) → b ≡ false → CannotHold (Exactly b)
cannot b not holds = absurd (false≢true (sym not ∙ holds))

-- an end after a claim and its writes, where nothing was open before
record Filled {E : Type 0} (events : List E) (lo : ℕ) (d : Sent E) : Type 0 where
  first : lo ≡ length d.published
  pending : d.pending ≡ map some events

filled : {E : Type 0} (events : List E) (c : Claimed) (a b d : Sent E) → a.pending ≡ [] → Opens (length events) c a b
    → Writing c.lo events (length events) b d → Filled events c.lo d
filled events c a b d closed claim write =
    let before : b.published ≡ a.published = ap (λ x. x.published) claim.1 in
    let none : length a.pending ≡ 0 = ap length closed in
    let at : c.lo ≡ length b.published = (let lo = claim.0 in let same = ap length before in omega arith) in
    let pending : b.pending ≡ replicate (length events) None = ap (λ x. x.pending) claim.1 ∙ ap (λ l. l ++ replicate (length events) None) closed in
    let all : take (length events) events ≡ events = take_all (length events) events (omega arith) in
    let over : length events - length events ≡ 0 = omega arith in
    record {
      first = at ∙ ap length (sym write.published);
      pending = write.pending at pending ∙ ap (λ n. map some (take (length events) events) ++ replicate n None) over
          ∙ append-nil (map some (take (length events) events)) ∙ ap (map some) all;
    }

written_there : {E : Type 0} (xs : List E) (k : ℕ) → k < length xs → is_none (get_or (map some xs) k None) ≡ false
written_there [] k less = absurd (omega arith)
written_there (x ∷ xs) k less = ap is_none (get_or-map some (x ∷ xs) k x None less)

may_publish : {E : Type 0} (events : List E) (lo hi : ℕ) (d : Sent E) (r : Refusal) → lo ≤ hi → hi + 1 ≡ lo + length events → Filled events lo d
    → PublishAnswers (Some d) lo hi (Err (Refused r)) → ⊥
may_publish {E} events lo hi d r ordered is f refused =
    let tests = publish_tests (Some d) lo hi in
    let first = f.first in
    let many : length d.pending ≡ length events = ap length f.pending ∙ length-map events in
    let each : (k : ℕ) → k < hi + 1 - lo → NoneHolds CannotHold (sequence_causes (end_sequence_tests (Some d) (lo + k)))
    = λ k less.
    let here : lo + k - length d.published ≡ k = omega arith in
    let written : is_none (open_event d (lo + k)) ≡ false = rw (here, f.pending) (written_there events k (omega arith)) in (
      cannot (nat_lt (lo + k) (length d.published)) (grind (arith, nat_tests, first)),
      (cannot false refl, (cannot (is_none (open_event d (lo + k))) written, tt)),
    ) in
    let stretch = none_of_stretch MayHold CannotHold (λ s. sequence_causes (end_sequence_tests (Some d) s)) lo (hi + 1 - lo) each in
    let order : (lo == length d.published) ≡ true = grind (arith, nat_tests, first) in
    let last : NoneHolds CannotHold ((tests.out_of_order, OutOfOrder) ∷ []) = (cannot (not (lo == length d.published)) (ap not order), tt) in
    let whole = none_join MayHold CannotHold (flat_map (λ s. sequence_causes (tests.of_sequence s)) (range_with_len lo (hi + 1 - lo)))
    ((tests.out_of_order, OutOfOrder) ∷ []) stretch last in
    let claimed = cannot (nat_le (claimed_in d) hi) (grind (arith, nat_tests, first, many, is)) in
    no_refusal r (publish_causes lo hi tests) (cannot false refl, (cannot (nat_lt hi lo) (grind (arith, nat_tests, ordered)), (claimed, whole))) refused

-- a claim, its writes and the publication

pub drop_over : {A : Type 0} (xs : List A) (n : ℕ) → n ≡ length xs → drop n xs ≡ []
drop_over xs n is = ap (λ k. drop k xs) is ∙ drop-length xs

all_published : {E : Type 0} (events : List E) (c : Claimed) → c.hi + 1 ≡ c.lo + length events → (a b d e : Sent E) → Opens (length events) c a b
    → Writing c.lo events (length events) b d → Shows c.lo c.hi d e → LeavesNothingOpen a e
all_published events c is a b d e claim write shows closed =
    let f = filled events c a b d closed claim write in
    let first = f.first in
    let many : c.hi + 1 - length d.published ≡ length d.pending = (let long = ap length f.pending ∙ length-map events in omega arith) in
    ap (λ x. x.pending) shows ∙ drop_over d.pending (c.hi + 1 - length d.published) many

not_refused : {E : Type 0} (events : List E) (c : Claimed) → c.lo ≤ c.hi → c.hi + 1 ≡ c.lo + length events → (a b d : Sent E) (trouble : Trouble)
    → trouble ≢ Memory → Opens (length events) c a b
    → Writing c.lo events (length events) b d → PublishAnswers (Some d) c.lo c.hi (Err trouble) → LeavesNothingOpen a d
not_refused events c ordered is a b d Memory other claim write answer closed = absurd (other refl)
not_refused events c ordered is a b d (Refused r) other claim write answer closed =
    absurd (may_publish events c.lo c.hi d r ordered is (filled events c a b d closed claim write) answer)

abbrev pub Publishing : {E : Type 0} → Claimed → Result (Unit {0}) Trouble → Option (Sent E) → Option (Sent E) → Type 0
Publishing c (Ok done) q s = WhereShown (Shows c.lo c.hi) q s
Publishing c (Err trouble) q s = s ≡ q

pub publishing : {E : Type 0} (c : Claimed) (r : Result (Unit {0}) Trouble) (q s : Option (Sent E))
    → OnOk r (WhereShown (Publishes c.lo c.hi (Ok tt)) q s) → OnErr r (s ≡ q) → Publishing c r q s
publishing c (Ok done) q s h k = h
publishing c (Err trouble) q s h k = k

pub leaves_nothing_open : {E : Type 0} (events : List E) (c : Claimed) → c.lo ≤ c.hi → c.hi + 1 ≡ c.lo + length events
    → (r : Result (Unit {0}) Trouble) → r ≢ Err Memory → (o p q s : Option (Sent E))
    → WhereShown (Opens (length events) c) o p → WhereShown (Writing c.lo events (length events)) p q → PublishAnswers q c.lo c.hi r
    → Publishing c r q s → WhereShown LeavesNothingOpen o s
leaves_nothing_open events c ordered is (Ok done) waits None None None None h k answer l = tt
leaves_nothing_open events c ordered is (Ok done) waits None None None (Some e) h k answer l = absurd l
leaves_nothing_open events c ordered is r waits None None (Some d) s h k answer l = absurd k
leaves_nothing_open events c ordered is r waits None (Some b) q s h k answer l = absurd h
leaves_nothing_open events c ordered is r waits (Some a) None q s h k answer l = absurd h
leaves_nothing_open events c ordered is r waits (Some a) (Some b) None s h k answer l = absurd k
leaves_nothing_open events c ordered is (Ok done) waits (Some a) (Some b) (Some d) None h k answer l = absurd l
leaves_nothing_open events c ordered is (Ok done) waits (Some a) (Some b) (Some d) (Some e) h k answer l = all_published events c is a b d e h k l
leaves_nothing_open events c ordered is (Err trouble) waits None None None s h k answer l = rw l tt
leaves_nothing_open events c ordered is (Err trouble) waits (Some a) (Some b) (Some d) s h k answer l =
    rw l (not_refused events c ordered is a b d trouble (λ out. waits (ap Err out)) h k answer)

-- one part of a script after another

pub open_none : {E : Type 0} (o : Option (Sent E)) → WhereShown LeavesNothingOpen o o
open_none {E} o = shown_none (LeavesNothingOpen {E = E}) (λ a h. h) o

pub open_same : {E : Type 0} (o p : Option (Sent E)) → p ≡ o → WhereShown LeavesNothingOpen o p
open_same o p same = rw same (open_none o)

pub open_more : {E : Type 0} (o p q : Option (Sent E)) → WhereShown LeavesNothingOpen o p → WhereShown LeavesNothingOpen p q → WhereShown LeavesNothingOpen o q
open_more {E} o p q h k = shown_through (LeavesNothingOpen {E = E}) LeavesNothingOpen LeavesNothingOpen (λ a b c x y closed. y (x closed)) o p q h k
