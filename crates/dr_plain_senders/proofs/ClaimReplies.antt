-- The machine replies to a claim as it is decided.
use Rattle.std.proofs.Common.{◌≡◌, ℕ, zero, suc, ◌+◌, ◌-◌, ◌<◌, ◌≤◌, ◌⊎◌, inl, inr, Bool, true, false, ◌==◌, ◌||◌, List, [], ◌∷◌, length, get_or, sym}
use Rattle.std.proofs.Common.{refl, ap, ◌∙◌, arith}
use Rattle.std.specs.Prelude.{nat_lt, Contains}
use Rattle.std.proofs.lemmas.Bool.{lt-ltb, le-ltb, lt-leb, leb-false, eq-eqb, ne_eqb}
use Rattle.std.proofs.lemmas.List.{length-map}
use Rattle.dr_meaning.specs.declared.refusal.Refusal.{Refusal}
use Rattle.dr_meaning.specs.declared.command.Claimed.{Claimed as Stretch}
use Rattle.dr_meaning.specs.declared.command.Command.TheVariants.{Claim}
use Rattle.dr_meaning.specs.declared.command.Reply.TheVariants.{Refused, Claimed}
use Rattle.dr_meaning.specs.Meaning.Machine.{State, Outcome, next, least_completed, refusals, accepted}
use Rattle.dr_meaning.proofs.Steps.{Refuses, unless-none, unless-refused}
use Rattle.dr_meaning.proofs.Leasts.{least_of-member}
use Rattle.dr_graph.specs.Meaning.Graph.{nobody, finals, IsGated}
use Rattle.dr_runs.proofs.Offers.{final_inside, counts_below}
use Rattle.dr_plain_senders.specs.Meaning.Shape.{Shape, ring_setup}
use Rattle.dr_plain_senders.specs.Meaning.Words.{is_halted, halt_bit}
use Rattle.dr_plain_senders.specs.declared.record.Stage.{Stage}
use Rattle.dr_plain_senders.specs.Meaning.Rule.{World, KeepsRule}
use Rattle.dr_plain_senders.specs.Meaning.Moments.{picture_of}
use Rattle.dr_plain_senders.specs.Calls.Sending.{IsCount}
use Rattle.dr_plain_senders.specs.Calls.Replies.{Replies, claims_now, count_now, DecidesRefusal, DecidesStretch}
use Rattle.dr_plain_senders.proofs.Places.{claimed_low}
use Rattle.dr_plain_senders.proofs.Pictures.{count_at}

-- whether a count of sequences is bad
is_bad : {T : Type 0} (k : Shape T) (n : ℕ) → (n ≡ 0) ⊎ (k.size < n) → ((n == 0) || nat_lt k.size n) ≡ true
is_bad k n (inl none) = ap (λ (b : Bool). b || nat_lt k.size n) (eq-eqb n 0 none)
is_bad k n (inr many) = ap (λ (b : Bool). (n == 0) || b) (lt-ltb k.size n many) ∙ or_true (n == 0)
  where
    or_true : (b : Bool) → (b || true) ≡ true
    or_true true = refl
    or_true false = refl

is_good : {T : Type 0} (k : Shape T) (n : ℕ) → IsCount k n → ((n == 0) || nat_lt k.size n) ≡ false
is_good k n is = let some_one = is.0 in ap (λ (b : Bool). b || nat_lt k.size n) (ne_eqb n 0 (λ (e : n ≡ 0). omega arith)) ∙ le-ltb k.size n is.1

-- a place of a list, whatever stands for one that it has not
same_place : (xs : List ℕ) (i d e : ℕ) → i < length xs → get_or xs i d ≡ get_or xs i e
same_place [] i d e lt = absurd (omega arith)
same_place (x ∷ xs) zero d e lt = refl
same_place (x ∷ xs) (suc i) d e lt = same_place xs i d e (omega arith)

listed_at : (xs : List ℕ) (i : ℕ) → i < length xs → Contains xs (get_or xs i 0)
listed_at xs i lt = (i, lt, same_place xs i (get_or xs i 0) 0 lt)

module _ {T : Type 0} (k : Shape T) (w : World T) (K : KeepsRule k w) where
  abbrev m : State T
  m = picture_of k w

  abbrev ends : List ℕ
  ends = finals k.upstreams

  -- how many sequences are claimed, where the ring goes on
  claimed_now : is_halted (claims_now w) ≡ false → length m.owners ≡ claims_now w
  claimed_now going = length-map w.stages (λ (t : Stage T). t.owner) ∙ sym K.claim ∙ claimed_low (claims_now w) (leb-false halt_bit (claims_now w) going)

  -- a final handler's count is that of its word
  final_at : (i : ℕ) → i < length ends → get_or m.completed (get_or ends i 0) 0 ≡ count_now w ends i
  final_at i lt = count_at k w.words (get_or ends i 0) (final_inside k.upstreams (get_or ends i 0) (listed_at ends i lt))

  claim_is_refused : (p n : ℕ) (refusal : Refusal) → p < k.senders → DecidesRefusal k w n refusal → Refuses refusal (refusals (ring_setup k) m (Claim p n))
  claim_is_refused p n refusal who (inl x) = inr (lt-leb k.senders p who, inl (is_bad k n x.1, sym x.0))
  claim_is_refused p n refusal who (inr (inl x)) = inr (lt-leb k.senders p who, inr (is_good k n x.1, inl (x.2, sym x.0)))
  claim_is_refused p n refusal who (inr (inr (inl x))) =
      let all = claimed_now x.2 in let over = x.3 in
      inr (lt-leb k.senders p who, inr (is_good k n x.1, inr (x.2, inl (lt-ltb _ _ (omega arith), sym x.0))))
  claim_is_refused p n refusal who (inr (inr (inr x))) =
      let counts = x.2.0 in let F = x.2.1 in let all = claimed_now F.going in let i = F.before in let long = F.last in let among = F.among in
      let here : i < length ends = omega arith in
      let count = final_at i here in
      let now = x.2.2 i (omega arith) in
      let behind = F.behind in
      let limit = F.limit in
      let low : least_completed m ends ≤ get_or m.completed (get_or ends i 0) 0 =
      least_of-member (λ h. get_or m.completed h 0) ends (get_or ends i 0) (listed_at ends i here) in
      inr (lt-leb k.senders p who, inr (is_good k n x.1, inr (F.going, inr (le-ltb _ _ (omega arith), inl (lt-ltb _ _ (omega arith), sym x.0)))))

  pub refused_replies : (p n : ℕ) (refusal : Refusal) → p < k.senders → DecidesRefusal k w n refusal → Replies k w (Claim p n) (Refused refusal)
  refused_replies p n refusal who D =
      ap (λ (x : Outcome T). x.reply)
      (unless-refused refusal (refusals (ring_setup k) m (Claim p n)) m (accepted (ring_setup k) m (Claim p n)) (claim_is_refused p n refusal who D))

  leaves : (n : ℕ) (c : Stretch) → DecidesStretch k w n c → nat_lt (k.size + least_completed m ends) (length m.owners + n) ≡ false
  leaves n c D =
      let F = D.found in let all = claimed_now F.going in
      let g : IsGated k.upstreams nobody (λ h. 0) 0 = K.shape.graph.gate nobody (λ h. 0) (λ h u has. omega arith) 0 K.shape.graph.some refl in
      let some_one : Contains ends g.last = g.final in
      let room = counts_below m ends k.size (claims_now w + n) (let lt = some_one.1 in omega arith)
      (λ f has. let i = has.0 in let here = has.1 in let same = F.all in let count = final_at i here in let now = D.risen i (omega arith) in
      let left = F.room i (omega arith) in
      let at : get_or m.completed f 0 ≡ get_or m.completed (get_or ends i 0) 0 =
      ap (λ (h : ℕ). get_or m.completed h 0) (sym has.2 ∙ same_place ends i f 0 here) in
      omega arith) in
      le-ltb _ _ (omega arith)

  pub claimed_replies : (p n : ℕ) (c : Stretch) → p < k.senders → DecidesStretch k w n c → Replies k w (Claim p n) (Claimed c.lo c.hi)
  claimed_replies p n c who D =
      let F = D.found in let going = F.going in let all = claimed_now going in let limit = F.limit in let first = D.first in
      let at : next m ≡ c.lo = all ∙ sym D.first in
      ap (λ (x : Outcome T). x.reply)
      (unless-none (refusals (ring_setup k) m (Claim p n)) m (accepted (ring_setup k) m (Claim p n))
      (lt-leb k.senders p who, (is_good k n D.count, (going, (le-ltb _ _ (omega arith), (leaves n c D, tt))))))
      ∙ ap (λ (x : ℕ). Claimed x (x + n - 1)) at ∙ ap (λ (x : ℕ). Claimed c.lo x) (sym D.last)
