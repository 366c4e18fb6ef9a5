-- A producer's worker over an end that shows what it sent: where it leaves nothing open, no write and no publication was refused, and it gives up at a claim.
use Rattle.std.proofs.Common.{◌≡◌, ◌≢◌, ◌+◌, ◌-◌, ◌<◌, ℕ, min, List, [], ◌∷◌, length, take, drop}
use Rattle.std.proofs.Common.{replicate, Option, None, Some, Result, Ok, Err, ⊎_elim, sym, ap, ◌∙◌, subst, arith, length-append}
use Rattle.std.proofs.lemmas.List.{length-replicate, length-set}
use Rattle.dr_meaning.specs.declared.command.Claimed.{Claimed}
use Rattle.dr_meaning.specs.declared.ends.Trouble.{Trouble}
use Rattle.dr_meaning.specs.declared.ends.Trouble.TheVariants.{Refused, Memory}
use Rattle.dr_meaning.specs.declared.ends.Wrote.{Wrote}
use Rattle.dr_meaning.specs.declared.refusal.Refusal.{Refusal}
use Rattle.dr_meaning.specs.declared.refusal.Refusal.TheVariants.{NoRoom}
use Rattle.dr_meaning.specs.Calls.Calling.{CallsLead, InletCall, TriesClaim, WritesOne, WritesMany, PublishesStretch}
use Rattle.dr_meaning.specs.Calls.Ends.{Sent, Claims, GivesStretch, Publishes, Writes, WritesAll}
use Rattle.dr_workers.specs.Calls.Serving.{ClaimFails, EndsIn, GivesUp, InOrder, IsNextStep, PartFails, Task, ToClaim, ToSend, Ended, sent_on, task_after}
use Rattle.dr_workers.specs.Meaning.Work.{Part}
use Rattle.dr_workers.proofs.Closing.{drop_over, same_pending, same_published}

-- how each call changes what an end shows
pub record Changes {S E : Type 0} (does : S → InletCall E → S → Type 0) (shown : S → Sent E) : Type 0 where
  pub claims : (a b : S) (n : ℕ) (answer : Result Claimed Trouble) → does a (TriesClaim n answer) b
      → Claims n answer (shown a) (shown b) × GivesStretch n answer
  pub writes : (a b : S) (s : ℕ) (event : E) (answer : Result (Unit {0}) Trouble) → does a (WritesOne s event answer) b
      → Writes s event answer (shown a) (shown b)
  pub writes_all : (a b : S) (lo : ℕ) (events : List E) (wrote : Wrote) → does a (WritesMany lo events wrote) b
      → WritesAll lo (take wrote.count events) (shown a) (shown b)
  pub publishes : (a b : S) (lo hi : ℕ) (answer : Result (Unit {0}) Trouble) → does a (PublishesStretch lo hi answer) b
      → Publishes lo hi answer (shown a) (shown b)

-- nothing is open before a claim, and then its stretch is, until it is published
abbrev IsAt : {E : Type 0} → Task E → Sent E → Type 0
IsAt (ToClaim rest) e = e.pending ≡ []
IsAt (ToSend stretch s events rest) e = (0 < length e.pending) × (stretch.lo ≡ length e.published) × (stretch.hi + 1 ≡ stretch.lo + length e.pending)
IsAt Ended e = Unit {0}

still_open : {E : Type 0} (stretch : Claimed) (s s' : ℕ) (events events' rest : List E) (x y : Sent E) → y.published ≡ x.published
    → length y.pending ≡ length x.pending
    → IsAt (ToSend stretch s events rest) x → IsAt (ToSend stretch s' events' rest) y
still_open stretch s s' events events' rest x y published pending at =
    let same = ap length published in let some = at.0 in let lo = at.1 in let hi = at.2 in (omega arith, omega arith, omega arith)

open_on : {E : Type 0} (stretch : Claimed) (s : ℕ) (events rest : List E) (trouble : Option Trouble) (e : Sent E) → IsAt (ToSend stretch s events rest) e
    → IsAt (sent_on stretch s events rest trouble) e
open_on stretch s events rest None e at = at
open_on stretch s events rest (Some Memory) e at = at
open_on stretch s events rest (Some (Refused refusal)) e at = tt

refused_on : {E : Type 0} (rest : List E) (n : ℕ) (refusal : Refusal) (e : Sent E) → IsAt (ToClaim rest) e
    → IsAt (task_after (ToClaim rest) (TriesClaim n (Err (Refused refusal)))) e
refused_on rest n NoRoom e at = at
refused_on rest n other e at = tt

opened : {E : Type 0} (stretch : Claimed) (n : ℕ) (events rest : List E) (x y : Sent E) → 0 < n → x.pending ≡ [] → Claims n (Ok stretch) x y
    → GivesStretch n (Ok stretch)
    → IsAt (ToSend stretch stretch.lo events rest) y
opened stretch n events rest x y some none claims gives =
    let before : length x.pending ≡ 0 = ap length none in
    let published : length y.published ≡ length x.published = ap (λ e. length e.published) claims.1 in
    let pending : length y.pending ≡ length x.pending + n = ap (λ e. length e.pending) claims.1 ∙ length-append x.pending (replicate n None)
    ∙ ap (λ k. length x.pending + k) (length-replicate n None) in
    let lo = claims.0 in let hi = gives.1 in (omega arith, omega arith, omega arith)

closed : {E : Type 0} (lo hi : ℕ) (stretch : Claimed) (s : ℕ) (events rest : List E) (x y : Sent E) → lo ≡ stretch.lo → hi ≡ stretch.hi
    → Publishes lo hi (Ok tt) x y → IsAt (ToSend stretch s events rest) x → IsAt (ToClaim rest) y
closed lo hi stretch s events rest x y low high publishes at =
    let first = at.1 in let last = at.2 in
    let many : hi + 1 - length x.published ≡ length x.pending = omega arith in
    ap (λ e. e.pending) publishes ∙ drop_over x.pending (hi + 1 - length x.published) many

-- once its work ended a worker calls nothing
no_step : {E : Type 0} (cut : ℕ) (call : InletCall E) → IsNextStep cut Ended call → ⊥
no_step cut (TriesClaim n answer) next = next
no_step cut (WritesOne s event answer) next = next
no_step cut (WritesMany lo events wrote) next = next
no_step cut (PublishesStretch lo hi answer) next = next

module _ {S E : Type 0} (does : S → InletCall E → S → Type 0) (shown : S → Sent E) (changes : Changes does shown) (cut : ℕ) (some : 0 < cut) where
  -- one write more, or many
  wrote : (stretch : Claimed) (s s' at : ℕ) (events events' rest : List E) (event : E) (answer : Result (Unit {0}) Trouble) (a b : S)
      → does a (WritesOne at event answer) b
      → IsAt (ToSend stretch s events rest) (shown a) → IsAt (ToSend stretch s' events' rest) (shown b)
  wrote stretch s s' at events events' rest event (Ok done) a b is here =
      let changed = changes.writes a b at event (Ok done) is in
      still_open stretch s s' events events' rest (shown a) (shown b) (ap (λ e. e.published) changed)
      (ap (λ e. length e.pending) changed ∙ length-set (shown a).pending (at - length (shown a).published) (Some event)) here
  wrote stretch s s' at events events' rest event (Err trouble) a b is here =
      let same = changes.writes a b at event (Err trouble) is in
      still_open stretch s s' events events' rest (shown a) (shown b) (ap (λ e. e.published) same) (ap (λ e. length e.pending) same) here

  wrote_all : (stretch : Claimed) (s s' lo : ℕ) (events events' rest xs : List E) (answer : Wrote) (a b : S) → does a (WritesMany lo xs answer) b
      → IsAt (ToSend stretch s events rest) (shown a) → IsAt (ToSend stretch s' events' rest) (shown b)
  wrote_all stretch s s' lo events events' rest xs answer a b is here =
      let changed = changes.writes_all a b lo xs answer is in
      still_open stretch s s' events events' rest (shown a) (shown b) (ap (λ e. e.published) changed ∙ same_published lo (take answer.count xs) (shown a))
      (ap (λ e. length e.pending) changed ∙ same_pending lo (take answer.count xs) (shown a)) here

  -- a publication in trouble
  kept : (stretch : Claimed) (s lo hi : ℕ) (events rest : List E) (trouble : Trouble) (a b : S) → does a (PublishesStretch lo hi (Err trouble)) b
      → IsAt (ToSend stretch s events rest) (shown a) → IsAt (ToSend stretch s events rest) (shown b)
  kept stretch s lo hi events rest trouble a b is here = subst (IsAt (ToSend stretch s events rest)) (sym (changes.publishes a b lo hi (Err trouble) is)) here

  -- one call more
  goes_on : (task : Task E) (call : InletCall E) (a b : S) → IsNextStep cut task call → does a call b → IsAt task (shown a)
      → IsAt (task_after task call) (shown b)
  goes_on (ToClaim rest) (TriesClaim n (Ok stretch)) a b next is at =
      let claims = changes.claims a b n (Ok stretch) is in let left = next.0 in let many = next.1 in
      opened stretch n (take n rest) (drop n rest) (shown a) (shown b) (omega arith) at claims.0 claims.1
  goes_on (ToClaim rest) (TriesClaim n (Err Memory)) a b next is at = tt
  goes_on (ToClaim rest) (TriesClaim n (Err (Refused refusal))) a b next is at =
      refused_on rest n refusal (shown b) (ap (λ e. e.pending) (changes.claims a b n (Err (Refused refusal)) is).0 ∙ at)
  goes_on (ToClaim rest) (WritesOne s event answer) a b next is at = absurd next
  goes_on (ToClaim rest) (WritesMany lo events answer) a b next is at = absurd next
  goes_on (ToClaim rest) (PublishesStretch lo hi answer) a b next is at = absurd next
  goes_on (ToSend stretch s events rest) (TriesClaim n answer) a b next is at = absurd next
  goes_on (ToSend stretch s events rest) (WritesOne w event (Ok done)) a b next is at = wrote stretch s (s + 1) w events (drop 1 events) rest event
      (Ok done) a b is at
  goes_on (ToSend stretch s events rest) (WritesOne w event (Err Memory)) a b next is at = wrote stretch s s w events events rest event (Err Memory) a b is at
  goes_on (ToSend stretch s events rest) (WritesOne w event (Err (Refused refusal))) a b next is at = tt
  goes_on (ToSend stretch s events rest) (WritesMany lo xs answer) a b next is at =
      open_on stretch (s + answer.count) (drop answer.count events) rest answer.trouble (shown b)
      (wrote_all stretch s (s + answer.count) lo events (drop answer.count events) rest xs answer a b is at)
  goes_on (ToSend stretch s events rest) (PublishesStretch lo hi (Ok done)) a b next is at =
      closed lo hi stretch s events rest (shown a) (shown b) next.1 next.2 (changes.publishes a b lo hi (Ok done) is) at
  goes_on (ToSend stretch s events rest) (PublishesStretch lo hi (Err Memory)) a b next is at = kept stretch s lo hi events rest Memory a b is at
  goes_on (ToSend stretch s events rest) (PublishesStretch lo hi (Err (Refused refusal))) a b next is at = tt
  goes_on Ended call a b next is at = absurd (no_step cut call next)

  some_open : (stretch : Claimed) (s : ℕ) (events rest : List E) (e : Sent E) → IsAt (ToSend stretch s events rest) e → e.pending ≡ [] → ⊥
  some_open stretch s events rest e at none = let count : length e.pending ≡ 0 = ap length none in let more = at.0 in absurd (omega arith)

  -- the last call
  leaves_open : (part : Part E) (trouble : Trouble) (task : Task E) (call : InletCall E) (a b : S) → IsNextStep cut task call → does a call b
      → IsAt task (shown a)
      → PartFails part trouble call → (shown b).pending ≡ [] → ⊥
  leaves_open part trouble (ToClaim rest) (TriesClaim n answer) a b next is at fails none = ⊎_elim (λ x. x) (λ x. x) fails
  leaves_open part trouble (ToClaim rest) (WritesOne s event answer) a b next is at fails none = next
  leaves_open part trouble (ToClaim rest) (WritesMany lo events answer) a b next is at fails none = next
  leaves_open part trouble (ToClaim rest) (PublishesStretch lo hi answer) a b next is at fails none = next
  leaves_open part trouble (ToSend stretch s events rest) (TriesClaim n answer) a b next is at fails none = next
  leaves_open part trouble (ToSend stretch s events rest) (WritesOne w event answer) a b next is at fails none =
      some_open stretch s events rest (shown b) (wrote stretch s s w events events rest event answer a b is at) none
  leaves_open part trouble (ToSend stretch s events rest) (WritesMany lo xs answer) a b next is at fails none =
      some_open stretch s events rest (shown b) (wrote_all stretch s s lo events events rest xs answer a b is at) none
  leaves_open part trouble (ToSend stretch s events rest) (PublishesStretch lo hi (Ok done)) a b next is at fails none = ⊎_elim (λ x. x) (λ x. x) fails
  leaves_open part trouble (ToSend stretch s events rest) (PublishesStretch lo hi (Err fault)) a b next is at fails none =
      some_open stretch s events rest (shown b) (kept stretch s lo hi events rest fault a b is at) none
  leaves_open part trouble Ended call a b next is at fails none = no_step cut call next

  part_fails : (part : Part E) (trouble : Trouble) (task : Task E) (a b : S) (calls : List (InletCall E)) → IsAt task (shown a) → CallsLead does a calls b
      → InOrder cut task calls
      → EndsIn (PartFails part trouble) calls → (shown b).pending ≡ [] → ⊥
  part_fails part trouble task a b [] at lead order ends none = ends
  part_fails part trouble task a b (call ∷ []) at lead order ends none =
      leaves_open part trouble task call a lead.0 order.0 lead.1 at ends (ap (λ x. (shown x).pending) (sym lead.2) ∙ none)
  part_fails part trouble task a b (call ∷ next ∷ calls) at lead order ends none =
      part_fails part trouble (task_after task call) lead.0 b (next ∷ calls) (goes_on task call a lead.0 order.0 lead.1 at) lead.2 order.1 ends none

  -- a claim was the last call, in trouble that is more than a lack of room
  pub record LastClaim (n : ℕ) (trouble : Trouble) (b : S) : Type 0 where
    pub last : S
    pub claims : does last (TriesClaim n (Err trouble)) b
    pub other : trouble ≢ Refused NoRoom

  last_claim : (n : ℕ) (trouble : Trouble) (call : InletCall E) (a b : S) → does a call b → ClaimFails n trouble call → LastClaim n trouble b
  last_claim n trouble (TriesClaim m (Ok stretch)) a b is fails = absurd fails
  last_claim n trouble (TriesClaim m (Err fault)) a b is fails = record {
    last = a;
    claims = subst (λ t. does a (TriesClaim n (Err t)) b) fails.1 (subst (λ k. does a (TriesClaim k (Err fault)) b) fails.0 is);
    other = fails.2;
  }
  last_claim n trouble (WritesOne s event answer) a b is fails = absurd fails
  last_claim n trouble (WritesMany lo events answer) a b is fails = absurd fails
  last_claim n trouble (PublishesStretch lo hi answer) a b is fails = absurd fails

  claim_fails : (n : ℕ) (trouble : Trouble) (a b : S) (calls : List (InletCall E)) → CallsLead does a calls b → EndsIn (ClaimFails n trouble) calls
      → LastClaim n trouble b
  claim_fails n trouble a b [] lead ends = absurd ends
  claim_fails n trouble a b (call ∷ []) lead ends = subst (LastClaim n trouble) (sym lead.2) (last_claim n trouble call a lead.0 lead.1 ends)
  claim_fails n trouble a b (call ∷ next ∷ calls) lead ends = claim_fails n trouble lead.0 b (next ∷ calls) lead.2 ends

  -- so a worker that leaves nothing open gives up at the claim of the next part
  pub gives_up_at_claim : (script rest : List E) (trouble : Trouble) (a b : S) (calls : List (InletCall E)) → (shown a).pending ≡ []
      → (shown b).pending ≡ [] → CallsLead does a calls b
      → InOrder cut (ToClaim script) calls → GivesUp cut rest trouble calls → LastClaim (min (length rest) cut) trouble b
  gives_up_at_claim script rest trouble a b calls before after lead order gives =
      ⊎_elim (λ claim. claim_fails (min (length rest) cut) trouble a b calls lead claim)
      (λ part. absurd (part_fails part.0 trouble (ToClaim script) a b calls before lead order part.3 after)) gives.1
