-- What a sender's calls change of what it knows; and a claim of what size and limit allow is refused for good only where the ring is found halted.
use Rattle.std.proofs.Common.{◌≡◌, ◌≢◌, ℕ, ◌+◌, ◌/◌, ◌<◌, ◌≤◌, max, if◌then◌else◌, ◌==◌, ◌||◌, nat_lt, Bool, false, List}
use Rattle.std.proofs.Common.{[], ◌∷◌, ◌++◌, length, take, Result, Ok, Err, ⊎_elim, refl, sym, ap, ◌∙◌, subst, arith, append_assoc}
use Rattle.std.proofs.lemmas.Bool.{false≢true, le-ltb, ne_eqb}
use Rattle.dr_seq.specs.Size.{IsSize}
use Rattle.dr_seq.proofs.Sizes.{size_positive}
use Rattle.dr_seq.specs.declared.event.Event.{Event}
use Rattle.dr_meaning.specs.declared.command.Claimed.{Claimed}
use Rattle.dr_meaning.specs.declared.ends.Trouble.{Trouble}
use Rattle.dr_meaning.specs.declared.ends.Trouble.TheVariants.{Memory, Refused}
use Rattle.dr_meaning.specs.declared.ends.Wrote.{Wrote}
use Rattle.dr_meaning.specs.declared.refusal.Refusal.{Refusal}
use Rattle.dr_meaning.specs.declared.refusal.Refusal.TheVariants.{NoRoom, Halted}
use Rattle.dr_meaning.specs.Meaning.Refusals.{IsFirst, claim_causes}
use Rattle.dr_meaning.specs.Calls.Calling.{CallsLead, InletCall, TriesClaim, WritesOne, WritesMany, PublishesStretch}
use Rattle.dr_meaning.specs.Calls.Ends.{Claims, GivesStretch, Sent, MayFail, MayHold, Publishes, Writes, WritesAll}
use Rattle.dr_runs.specs.declared.look.Look.{Look}
use Rattle.dr_runs.specs.Looks.{look, last_look}
use Rattle.dr_runs.specs.OneSender.Words.{halt_word}
use Rattle.dr_runs.proofs.Looks.{last_look_more}
use Rattle.dr_ring.specs.declared.record.SenderRecord.{SenderRecord}
use Rattle.dr_ring.specs.Meaning.Moments.{fresh_sender}
use Rattle.dr_ring.specs.Meaning.Records.{claimed}
use Rattle.dr_ring.specs.Meaning.Settling.{FoundUnhalted}
use Rattle.dr_ring.specs.Meaning.Shape.{Shape}
use Rattle.dr_ring.specs.Calls.Ends.{SenderEnd, SenderPlace, sender_place}
use Rattle.dr_ring.specs.Calls.Sending.{ClosesOnceDone, LooksToClaim, gate_looks, tests_of_claim}
use Rattle.dr_ring.specs.Calls.Inlets.{sender_does}

pub claims : (a b : SenderEnd) (n : ℕ) (answer : Result Claimed Trouble) → sender_does a (TriesClaim n answer) b
    → Claims n answer a.knows.sent b.knows.sent × GivesStretch n answer
claims a b n (Ok stretch) is = (is.1.sent, is.1.stretch)
claims a b n (Err Memory) is = absurd is
claims a b n (Err (Refused refusal)) is = (is.1.sent, is.1.stretch)

pub writes : (a b : SenderEnd) (s : ℕ) (event : Event) (answer : Result (Unit {0}) Trouble) → sender_does a (WritesOne s event answer) b
    → Writes s event answer a.knows.sent b.knows.sent
writes a b s event (Ok done) is = is.1.1
writes a b s event (Err Memory) is = absurd is
writes a b s event (Err (Refused refusal)) is = is.1.1

pub writes_all : (a b : SenderEnd) (lo : ℕ) (events : List Event) (wrote : Wrote) → sender_does a (WritesMany lo events wrote) b
    → WritesAll lo (take wrote.count events) a.knows.sent b.knows.sent
writes_all a b lo events wrote is = is.sent

pub publishes : (a b : SenderEnd) (lo hi : ℕ) (answer : Result (Unit {0}) Trouble) → sender_does a (PublishesStretch lo hi answer) b
    → Publishes lo hi answer a.knows.sent b.knows.sent
publishes a b lo hi (Ok done) is = is.1.1
publishes a b lo hi (Err Memory) is = absurd is
publishes a b lo hi (Err (Refused refusal)) is = is.1.1

-- no such call halts the ring, and the sender stays at its place
abbrev pub Stays : SenderEnd → SenderEnd → Type 0
Stays a b = (sender_place b ≡ sender_place a) × (b.knows.halted ≡ a.knows.halted)

pub stays : (a b : SenderEnd) (call : InletCall Event) → sender_does a call b → Stays a b
stays a b (TriesClaim n (Ok stretch)) is = (is.0, ap (λ (r : SenderRecord). r.halted) is.1.only)
stays a b (TriesClaim n (Err Memory)) is = absurd is
stays a b (TriesClaim n (Err (Refused refusal))) is = (is.0, ap (λ (r : SenderRecord). r.halted) is.1.only)
stays a b (WritesOne s event (Ok done)) is = (is.0, ap (λ (r : SenderRecord). r.halted) is.1.2)
stays a b (WritesOne s event (Err Memory)) is = absurd is
stays a b (WritesOne s event (Err (Refused refusal))) is = (is.0, ap (λ (r : SenderRecord). r.halted) is.1.2)
stays a b (WritesMany lo events wrote) is = (is.place, ap (λ (r : SenderRecord). r.halted) is.only)
stays a b (PublishesStretch lo hi (Ok done)) is = (is.0, ap (λ (r : SenderRecord). r.halted) is.1.2)
stays a b (PublishesStretch lo hi (Err Memory)) is = absurd is
stays a b (PublishesStretch lo hi (Err (Refused refusal))) is = (is.0, ap (λ (r : SenderRecord). r.halted) is.1.2)

pub stays_all : (a b : SenderEnd) (calls : List (InletCall Event)) → CallsLead sender_does a calls b → Stays a b
stays_all a b [] lead = (ap sender_place lead, ap (λ (e : SenderEnd). e.knows.halted) lead)
stays_all a b (call ∷ calls) lead =
    let first = stays a lead.0 call lead.1 in let rest = stays_all lead.0 b calls lead.2 in (rest.0 ∙ first.0, rest.1 ∙ first.1)

-- a sender's ring has a size
pub sized : (a b : SenderEnd) (n : ℕ) (answer : Result Claimed Trouble) → sender_does a (TriesClaim n answer) b → IsSize a.knows.plan.size
sized a b n (Ok stretch) is = is.1.size
sized a b n (Err Memory) is = absurd is
sized a b n (Err (Refused refusal)) is = is.1.size

-- a claim of some within the size and the limit is refused for want of room, or since the ring is halted
only_halted : (r : SenderRecord) (n : ℕ) (refusal : Refusal) → 0 < n → n ≤ r.plan.size → claimed r + n ≤ r.plan.limit → refusal ≢ NoRoom
    → IsFirst MayHold MayFail refusal (claim_causes (tests_of_claim r n)) → Halted ≡ refusal
only_halted r n refusal some size limit other first =
    let no_count : (n == 0 || nat_lt r.plan.size n) ≡ false = rw (ne_eqb n 0 (λ (e : n ≡ 0). omega arith), le-ltb r.plan.size n size) refl in
    let within : nat_lt r.plan.limit (claimed r + n) ≡ false = le-ltb r.plan.limit (claimed r + n) limit in
    ⊎_elim (λ here. absurd (false≢true here.0))
    (λ x. ⊎_elim (λ here. absurd (false≢true (sym no_count ∙ here.0)))
    (λ y. ⊎_elim (λ here. here.1)
    (λ z. ⊎_elim (λ here. absurd (false≢true (sym within ∙ here.0)))
    (λ u. ⊎_elim (λ here. absurd (other (sym here.1))) (λ none. absurd none.1) u.1) z.1) y.1) x.1) first

-- the last look of a claim that is refused so
found : (before seen xs : List Look) → seen ≡ xs ++ look halt_word 1 ∷ [] → last_look 0 (before ++ seen) halt_word ≡ 1
found before seen xs is =
    ap (λ (ys : List Look). last_look 0 (before ++ ys) halt_word) is
    ∙ ap (λ (ys : List Look). last_look 0 ys halt_word) (sym (append_assoc before xs (look halt_word 1 ∷ [])))
    ∙ last_look_more 0 (before ++ xs) halt_word 1

finds_halt : (r : SenderRecord) (n : ℕ) (seen : List Look) → LooksToClaim r n seen (Err Halted) → last_look 0 (r.looks ++ seen) halt_word ≡ 1
finds_halt r n seen looks =
    ⊎_elim (λ first. found r.looks seen [] first) (λ late. found r.looks seen (look halt_word 0 ∷ gate_looks r late.counts) late.saw) looks

pub refused_by_halt : (a b : SenderEnd) (n : ℕ) (trouble : Trouble) → 0 < n → n ≤ a.knows.plan.size → claimed a.knows + n ≤ a.knows.plan.limit
    → trouble ≢ Refused NoRoom
    → sender_does a (TriesClaim n (Err trouble)) b → last_look 0 b.knows.looks halt_word ≡ 1
refused_by_halt a b n Memory some size limit other is = absurd is
refused_by_halt a b n (Refused refusal) some size limit other is =
    let halted : Halted ≡ refusal = only_halted a.knows n refusal some size limit (λ e. other (ap Refused e)) is.1.answer in
    ap (λ (r : SenderRecord). last_look 0 r.looks halt_word) is.1.only
    ∙ finds_halt a.knows n is.1.seen (subst (λ (x : Refusal). LooksToClaim a.knows n is.1.seen (Err x)) (sym halted) is.1.looks)

-- a close finds no halt
pub unhalted_before : (e e' : SenderEnd) → ClosesOnceDone e e' → FoundUnhalted e'.knows → FoundUnhalted e.knows
unhalted_before e e' closes found = subst (λ (l : List Look). last_look 0 l halt_word ≡ 0) closes.saw found

-- where nobody else halted the ring, none is: of a new ring's sender that leaves nothing open, and claims no more than its slots, as its limit allows
-- (that a ring has slots is told by a claim that was tried, so the premise on their number may lean on it)
pub no_refusal_within : (k : Shape) (given last back : SenderEnd) (calls : List (InletCall Event)) (n : ℕ) (trouble : Trouble) → given.knows ≡ fresh_sender k
    → CallsLead sender_does given calls back → back.knows.sent.pending ≡ [] → FoundUnhalted back.knows → 0 < n → (0 < k.size → n ≤ k.size)
    → length back.knows.sent.published + n ≤ k.limit → trouble ≢ Refused NoRoom
    → sender_does last (TriesClaim n (Err trouble)) back → ⊥
no_refusal_within k given last back calls n trouble fresh lead complete unhalted some within fits other is =
    let came = stays_all given back calls lead in
    let here = (stays last back (TriesClaim n (Err trouble)) is).0 in
    let plan : last.knows.plan ≡ k = ap (λ (p : SenderPlace). p.1) (sym here ∙ came.0) ∙ ap (λ (r : SenderRecord). r.plan) fresh in
    let size : last.knows.plan.size ≡ k.size = ap (λ (p : Shape). p.size) plan in
    let most : last.knows.plan.limit ≡ k.limit = ap (λ (p : Shape). p.limit) plan in
    let slots : 0 < last.knows.plan.size = size_positive last.knows.plan.size (sized last back n (Err trouble) is) in
    let same : back.knows.sent ≡ last.knows.sent = (claims last back n (Err trouble) is).0 in
    let published : length back.knows.sent.published ≡ length last.knows.sent.published = ap (λ (e : Sent Event). length e.published) same in
    let pending : 0 ≡ length last.knows.sent.pending = sym (ap length complete) ∙ ap (λ (e : Sent Event). length e.pending) same in
    let off : back.knows.halted ≡ false = came.1 ∙ ap (λ (r : SenderRecord). r.halted) fresh in
    let none : last_look 0 back.knows.looks halt_word ≡ 0 =
    ap (λ (b : Bool). last_look 0 (if b then back.knows.before else back.knows.looks) halt_word) (sym off) ∙ unhalted in
    let cut : n ≤ k.size = within (omega arith) in
    let on = refused_by_halt last back n trouble some (omega arith) (omega arith) other is in
    absurd (omega arith)

-- and so of one that claims a quarter of them or less
pub no_refusal : (k : Shape) (given last back : SenderEnd) (calls : List (InletCall Event)) (n : ℕ) (trouble : Trouble) → given.knows ≡ fresh_sender k
    → CallsLead sender_does given calls back → back.knows.sent.pending ≡ [] → FoundUnhalted back.knows → 0 < n → n ≤ max (k.size / 4) 1
    → length back.knows.sent.published + n ≤ k.limit → trouble ≢ Refused NoRoom
    → sender_does last (TriesClaim n (Err trouble)) back → ⊥
no_refusal k given last back calls n trouble fresh lead complete unhalted some cut fits other is =
    no_refusal_within k given last back calls n trouble fresh lead complete unhalted some (λ slots. omega arith) fits other is
