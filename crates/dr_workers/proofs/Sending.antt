-- A producer's worker, part after part of its script.
use Rattle.std.proofs.Common.{◌≡◌, ◌≢◌, ◌+◌, ◌-◌, ◌<◌, ℕ, zero, suc, min, take, drop, List, [], ◌∷◌, ◌++◌, length, Some, Result, Ok, Err, inl, inr}
use Rattle.std.proofs.Common.{refl, sym, ap, ◌∙◌, subst, arith, add-one, append_assoc, length-append, length-drop}
use Rattle.std.specs.Prelude.{flat_map}
use Rattle.std.proofs.lemmas.Grind.{flat_map-append}
use Rattle.std.proofs.Math.Seq.{drop-append_seam, take-append_seam}
use Rattle.std.proofs.lemmas.List.{append-nil, length-take-le, take-append-drop, take_all}
use Rattle.std.proofs.lemmas.List.Elements.{filter_map-append}
use Rattle.dr_meaning.specs.declared.command.Claimed.{Claimed}
use Rattle.dr_meaning.specs.declared.ends.Trouble.{Trouble}
use Rattle.dr_meaning.specs.declared.ends.Trouble.TheVariants.{Refused, Memory}
use Rattle.dr_meaning.specs.declared.refusal.Refusal.TheVariants.{NoRoom}
use Rattle.dr_meaning.specs.Calls.Calling.{InletCall, TriesClaim, PublishesStretch, SomeCalls, each_written}
use Rattle.dr_meaning.proofs.Calling.{lead_more}
use Rattle.dr_workers.specs.declared.producer.Produced.{Produced}
use Rattle.dr_workers.specs.declared.passages.Passages.{Passages}
use Rattle.dr_workers.specs.Calls.Serving.{ClaimFails, EndsIn, GivesUp, InOrder, IsNextStep, IsOpen, IsRefusal, PartFails, ProducerEnds}
use Rattle.dr_workers.specs.Calls.Serving.{PublicationFails, Sends, Task, ToClaim, ToSend, WriteFails, task_after}
use Rattle.dr_workers.specs.Calls.Stops.{Passes, begins, fault_at_end, fault_in_trouble}
use Rattle.dr_workers.specs.Inside.Retries.{AfterClaim, AreWrittenOut, IsInTroubleWith, IsPartSent, Retries, SendsPart, WriteCalls, task_at_end}
use Rattle.dr_workers.specs.Meaning.Work.{AreCut, BeginsPart, IsSent, Part, accepted_in, accepted_of, claim_of, claims_in, sending_of, writing_of}
use Rattle.dr_workers.proofs.Calling.{accepted_in-append, accepted_last, ends_after, ends_as, ends_retried, picked, rest_later, same_trouble}
use Rattle.dr_workers.proofs.Ordering.{in_order_more, retried_at_end, retried_in_order, task_more}
use Rattle.dr_workers.proofs.Stopping.{passes_more, passes_none, stops_after}
use Rattle.dr_workers.proofs.Writings.{first_and_next}

claims_in-append : {E : Type 0} (xs ys : List (InletCall E)) → claims_in (xs ++ ys) ≡ claims_in xs ++ claims_in ys
claims_in-append xs ys = filter_map-append claim_of xs ys

-- One part.

abbrev pub IsClaimed : {E : Type 0} → ℕ → Result Claimed Trouble → List (InletCall E) → Type 0
IsClaimed n answer calls = Retries (TriesClaim n (Err (Refused NoRoom))) (TriesClaim n answer) calls

abbrev pub IsPublished : {E : Type 0} → ℕ → ℕ → Result (Unit {0}) Trouble → List (InletCall E) → Type 0
IsPublished lo hi answer calls = Retries (PublishesStretch lo hi (Err Memory)) (PublishesStretch lo hi answer) calls

claims_one : {E : Type 0} (n : ℕ) (claimed : Claimed) (calls : List (InletCall E)) → IsClaimed n (Ok claimed) calls → claims_in calls ≡ n ∷ []
claims_one n claimed calls h = picked claim_of (TriesClaim n (Err (Refused NoRoom))) (TriesClaim n (Ok claimed)) calls h refl

claims_none : {E : Type 0} (n : ℕ) (trouble : Trouble) (calls : List (InletCall E)) → IsClaimed n (Err trouble) calls → claims_in calls ≡ []
claims_none n trouble calls h = picked claim_of (TriesClaim n (Err (Refused NoRoom))) (TriesClaim n (Err trouble)) calls h refl

publishes_none : {E : Type 0} (lo hi : ℕ) (answer : Result (Unit {0}) Trouble) (calls : List (InletCall E)) → IsPublished lo hi answer calls
    → claims_in calls ≡ []
publishes_none lo hi answer calls h = picked claim_of (PublishesStretch lo hi (Err Memory)) (PublishesStretch lo hi answer) calls h refl

accepts_claim : {E : Type 0} (n : ℕ) (answer : Result Claimed Trouble) (calls : List (InletCall E)) → IsClaimed n answer calls
    → accepted_in calls ≡ accepted_of (TriesClaim n answer)
accepts_claim n answer calls h = accepted_last (TriesClaim n (Err (Refused NoRoom))) (TriesClaim n answer) calls h refl

accepts_publication : {E : Type 0} (lo hi : ℕ) (answer : Result (Unit {0}) Trouble) (calls : List (InletCall E)) → IsPublished lo hi answer calls
    → accepted_in calls ≡ accepted_of (PublishesStretch lo hi answer)
accepts_publication lo hi answer calls h = accepted_last (PublishesStretch lo hi (Err Memory)) (PublishesStretch lo hi answer) calls h refl

-- the claim is the next call
claim_next : {E : Type 0} (cut : ℕ) (events rest : List E) (answer : Result Claimed Trouble) → 0 < length events
    → length events ≡ min (length (events ++ rest)) cut
    → IsNextStep cut (ToClaim (events ++ rest)) (TriesClaim (length events) answer)
claim_next cut events rest answer some size =
    (let long : length (events ++ rest) ≡ length events + length rest = length-append events rest in omega arith, size)

claim_in_order : {E : Type 0} (cut : ℕ) (events rest : List E) (answer : Result Claimed Trouble) (calls : List (InletCall E)) → 0 < length events
    → length events ≡ min (length (events ++ rest)) cut → IsClaimed (length events) answer calls → InOrder cut (ToClaim (events ++ rest)) calls
claim_in_order cut events rest answer calls some size h =
    retried_in_order cut (ToClaim (events ++ rest)) (TriesClaim (length events) (Err (Refused NoRoom))) (TriesClaim (length events) answer) calls h refl
    (claim_next cut events rest (Err (Refused NoRoom)) some size) (claim_next cut events rest answer some size)

-- and then the writes are
claim_at_end : {E : Type 0} (events rest : List E) (stretch : Claimed) (calls : List (InletCall E)) → IsClaimed (length events) (Ok stretch) calls
    → task_at_end (ToClaim (events ++ rest)) calls ≡ ToSend stretch stretch.lo events rest
claim_at_end events rest stretch calls h =
    retried_at_end (ToClaim (events ++ rest)) (TriesClaim (length events) (Err (Refused NoRoom))) (TriesClaim (length events) (Ok stretch)) calls h refl
    ∙ ap (λ l. ToSend stretch stretch.lo l (drop (length events) (events ++ rest))) (take-append_seam events rest)
    ∙ ap (λ l. ToSend stretch stretch.lo events l) (drop-append_seam events rest)

failed : (result : Result (Unit {0}) Trouble) (trouble : Trouble) → result ≡ Err trouble → result ≡ Ok tt → ⊥
failed result trouble is fine = cc

-- the claim is refused
pub part_unclaimed : {S E : Type 0} (does : S → InletCall E → S → Type 0) (events : List E) (a b : S) (may_stop must_stop : ℕ → ℕ → Type 0)
    (t : Passages) (trouble : Trouble) → trouble ≢ Refused NoRoom → SomeCalls does a b (IsClaimed (length events) (Err trouble))
    → SomeCalls does a b (SendsPart events may_stop must_stop t t (Err trouble))
part_unclaimed does events a b may_stop must_stop t trouble other h =
    let n = length events in
    let none : claims_in h.calls ≡ [] = claims_none n trouble h.calls h.holds in record {
      calls = h.calls;
      lead = h.lead;
      holds = record {
        claims = inr (none, (trouble, refl));
        passes = subst (λ l. Passes may_stop must_stop (length l) t t) (sym none) (passes_none may_stop must_stop t);
        trouble = λ fault is. inl (subst (λ f. EndsIn (ClaimFails n f) h.calls) (same_trouble (Err trouble) trouble fault refl is)
            (ends_retried (ClaimFails n trouble) (TriesClaim n (Err (Refused NoRoom))) (TriesClaim n (Err trouble)) h.calls h.holds (refl, refl, other)));
        accepted = inl (accepts_claim n (Err trouble) h.calls h.holds);
        order = λ cut rest some size. claim_in_order cut events rest (Err trouble) h.calls some size h.holds;
        end = λ rest fine. absurd (failed (Err trouble) trouble refl fine);
      };
    }

-- what is accepted of a claim and of what follows it
accepts_part : {E : Type 0} (events : List E) (stretch : Claimed) (result : Result (Unit {0}) Trouble) (first rest : List (InletCall E)) → 0 < length events
    → first ≡ TriesClaim (length events) (Ok stretch) ∷ [] → AreWrittenOut (record { stretch = stretch; events = events }) result rest
    → IsPartSent events result (first ++ rest)
accepts_part events stretch (Ok done) first rest some is written =
    (stretch, ap (λ l. l ++ rest) is ∙ ap (λ l. TriesClaim (length events) (Ok stretch) ∷ l) written)
accepts_part events stretch (Err trouble) first rest some is written =
    inr (
      stretch,
      written.0 + 1,
      some,
      ap (λ l. l ++ rest) is ∙ ap (λ l. TriesClaim (length events) (Ok stretch) ∷ l) written.1
          ∙ ap (λ n. take n (TriesClaim (length events) (Ok stretch) ∷ each_written stretch.lo events)) (sym (add-one written.0)),
    )

-- what is accepted of a claim and of the first of its writes
opened : {E : Type 0} (events : List E) (stretch : Claimed) (trouble : Trouble) (first rest : List (InletCall E))
    → accepted_in first ≡ TriesClaim (length events) (Ok stretch) ∷ []
    → AreWrittenOut (record { stretch = stretch; events = events }) (Err trouble) (accepted_in rest)
    → IsOpen (record { stretch = stretch; events = events }) (first ++ rest)
opened events stretch trouble first rest is written = (
  [],
  written.0,
  accepted_in-append first rest ∙ ap (λ l. l ++ accepted_in rest) is ∙ ap (λ l. TriesClaim (length events) (Ok stretch) ∷ l) written.1
      ∙ ap (λ n. take n (TriesClaim (length events) (Ok stretch) ∷ each_written stretch.lo events)) (sym (add-one written.0)),
)

-- after the claim the writes and the publication
pub part_claimed : {S E : Type 0} (does : S → InletCall E → S → Type 0) (events : List E) (claimed : Claimed) (a b c : S) (may_stop must_stop : ℕ → ℕ → Type 0)
    (t t' : Passages) (result : Result (Unit {0}) Trouble) → 0 < length events → SomeCalls does a b (IsClaimed (length events) (Ok claimed))
    → SomeCalls does b c (AfterClaim (record { stretch = claimed; events = events }) result) → Passes may_stop must_stop 1 t t'
    → SomeCalls does a c (SendsPart events may_stop must_stop t t' result)
part_claimed {S} {E} does events claimed a b c may_stop must_stop t t' result some h k passes =
    let n = length events in
    let part : Part E = record { stretch = claimed; events = events } in
    let one : claims_in (h.calls ++ k.calls) ≡ n ∷ [] = claims_in-append h.calls k.calls
    ∙ ap (λ l. l ++ claims_in k.calls) (claims_one n claimed h.calls h.holds) ∙ ap (λ l. n ∷ l) k.holds.claims in record {
      calls = h.calls ++ k.calls;
      lead = lead_more does a b c h.calls k.calls h.lead k.lead;
      holds = record {
        claims = inl one;
        passes = subst (λ l. Passes may_stop must_stop (length l) t t') (sym one) passes;
        trouble = λ fault is. inr (
          claimed,
          opened events claimed fault h.calls k.calls (accepts_claim n (Ok claimed) h.calls h.holds)
              (subst (λ r. AreWrittenOut part r (accepted_in k.calls)) is k.holds.accepted),
          ends_after (PartFails part fault) h.calls k.calls (k.holds.trouble fault is),
        );
        accepted = subst (IsPartSent events result) (sym (accepted_in-append h.calls k.calls))
            (accepts_part events claimed result (accepted_in h.calls) (accepted_in k.calls) some
            (accepts_claim n (Ok claimed) h.calls h.holds) k.holds.accepted);
        order = λ cut rest more size.
            in_order_more cut (ToClaim (events ++ rest)) h.calls k.calls (claim_in_order cut events rest (Ok claimed) h.calls more size h.holds)
            (subst (λ t. InOrder cut t k.calls) (sym (claim_at_end events rest claimed h.calls h.holds)) (k.holds.order cut rest some));
        end = λ rest fine.
            task_more (ToClaim (events ++ rest)) h.calls k.calls ∙ ap (λ t. task_at_end t k.calls) (claim_at_end events rest claimed h.calls h.holds)
            ∙ k.holds.end rest fine;
      };
    }

a_refusal : (trouble : Trouble) → trouble ≢ Memory → IsRefusal trouble
a_refusal Memory other = other refl
a_refusal (Refused refusal) other = tt

-- the writes, of which one is refused
pub written_in_part : {S E : Type 0} (does : S → InletCall E → S → Type 0) (part : Part E) (a b : S) (trouble : Trouble)
    → SomeCalls does a b (WriteCalls part.stretch.lo part.events (Err trouble)) → SomeCalls does a b (AfterClaim part (Err trouble))
written_in_part does part a b trouble h =
    record {
      calls = h.calls;
      lead = h.lead;
      holds = record {
        claims = h.holds.claims;
        trouble = λ fault is.
            ends_as (WriteFails part.stretch.lo part.events fault) (PartFails part fault) (λ call fails. inl fails) h.calls (h.holds.trouble fault is);
        accepted = h.holds.accepted;
        order = λ cut rest some. h.holds.order cut part.stretch rest some;
        end = λ rest fine. absurd (failed (Err trouble) trouble refl fine);
      };
    }

-- what is accepted of all writes and of a publication
accepts_rest : {E : Type 0} (part : Part E) (result : Result (Unit {0}) Trouble) (xs ys : List (InletCall E)) → xs ≡ each_written part.stretch.lo part.events
    → ys ≡ accepted_of (PublishesStretch part.stretch.lo part.stretch.hi result) → AreWrittenOut part result (xs ++ ys)
accepts_rest part (Ok done) xs ys is then = ap (λ l. l ++ ys) is ∙ ap (λ l. each_written part.stretch.lo part.events ++ l) then
accepts_rest part (Err trouble) xs ys is then =
    let all = each_written part.stretch.lo part.events in
    (length all, ap (λ l. l ++ ys) is ∙ ap (λ l. all ++ l) then ∙ append-nil all ∙ sym (take_all (length all) all (omega arith)))

-- all of the writes, and then the publication
pub written_and_published : {S E : Type 0} (does : S → InletCall E → S → Type 0) (part : Part E) (a b c : S) (result : Result (Unit {0}) Trouble)
    → result ≢ Err Memory → SomeCalls does a b (WriteCalls part.stretch.lo part.events (Ok tt))
    → SomeCalls does b c (IsPublished part.stretch.lo part.stretch.hi result) → SomeCalls does a c (AfterClaim part result)
written_and_published {S} {E} does part a b c result waits h k =
    let lo = part.stretch.lo in
    let hi = part.stretch.hi in record {
      calls = h.calls ++ k.calls;
      lead = lead_more does a b c h.calls k.calls h.lead k.lead;
      holds = record {
        claims = claims_in-append h.calls k.calls ∙ ap (λ l. l ++ claims_in k.calls) h.holds.claims ∙ publishes_none lo hi result k.calls k.holds;
        trouble = λ fault is.
            let refused : PublicationFails {E = E} part.stretch fault (PublishesStretch lo hi (Err fault)) =
            (refl, refl, refl, a_refusal fault (λ out. waits (is ∙ ap Err out))) in
            let last = ends_retried (PublicationFails part.stretch fault) (PublishesStretch lo hi (Err Memory)) (PublishesStretch lo hi result) k.calls k.holds
            (subst (λ r. PublicationFails {E = E} part.stretch fault (PublishesStretch lo hi r)) (sym is) refused) in
            ends_after (PartFails part fault) h.calls k.calls
            (ends_as (PublicationFails part.stretch fault) (PartFails part fault) (λ call fails. inr fails) k.calls last);
        accepted = subst (AreWrittenOut part result) (sym (accepted_in-append h.calls k.calls))
            (accepts_rest part result (accepted_in h.calls) (accepted_in k.calls) h.holds.accepted (accepts_publication lo hi result k.calls k.holds));
        order = λ cut rest some.
            let written = ToSend part.stretch (lo + length part.events) [] rest in
            in_order_more cut (ToSend part.stretch lo part.events rest) h.calls k.calls (h.holds.order cut part.stretch rest some)
            (subst (λ t. InOrder cut t k.calls) (sym (h.holds.end part.stretch rest refl))
            (retried_in_order cut written (PublishesStretch lo hi (Err Memory)) (PublishesStretch lo hi result) k.calls k.holds refl (refl, refl, refl)
            (refl, refl, refl)));
        end = λ rest fine.
            let written : Task E = ToSend part.stretch (lo + length part.events) [] rest in
            task_more (ToSend part.stretch lo part.events rest) h.calls k.calls ∙ ap (λ t. task_at_end t k.calls) (h.holds.end part.stretch rest refl)
            ∙ retried_at_end written (PublishesStretch lo hi (Err Memory)) (PublishesStretch lo hi result) k.calls k.holds refl
            ∙ ap (λ r. task_after written (PublishesStretch lo hi r)) fine;
      };
    }

-- Part after part.

-- what is left after some claims
abbrev pub left_after : ℕ → List ℕ → ℕ
left_after left [] = left
left_after left (n ∷ claims) = left_after (left - n) claims

left_more : (left : ℕ) (claims : List ℕ) (n : ℕ) → left_after left (claims ++ n ∷ []) ≡ left_after left claims - n
left_more left [] n = refl
left_more left (m ∷ claims) n = left_more (left - m) claims n

cut_more : (cut left : ℕ) (claims : List ℕ) (n : ℕ) → AreCut cut left claims → n ≡ min (left_after left claims) cut → AreCut cut left (claims ++ n ∷ [])
cut_more cut left [] n h is = (is, tt)
cut_more cut left (m ∷ claims) n h is = (h.0, cut_more cut (left - m) claims n h.1 is)

-- the first events of a script are sent, part by part
pub record InParts {E : Type 0} (script : List E) (sent : ℕ) (accepted : List (InletCall E)) : Type 0 where
  pub parts : List (Part E)
  pub calls : accepted ≡ flat_map sending_of parts
  pub events : flat_map (λ part. part.events) parts ≡ take sent script

-- the next events are sent too
parts_more : {E : Type 0} (script : List E) (sent n : ℕ) (xs ys : List (InletCall E)) → InParts script sent xs
    → IsPartSent (take n (drop sent script)) (Ok tt) ys
    → InParts script (sent + n) (xs ++ ys)
parts_more {E} script sent n xs ys h k =
    let part : Part E = record { stretch = k.0; events = take n (drop sent script) } in
    let one : flat_map sending_of (part ∷ []) ≡ sending_of part = append-nil (sending_of part) in
    let its : flat_map (λ (p : Part E). p.events) (part ∷ []) ≡ part.events = append-nil part.events in record {
      parts = h.parts ++ part ∷ [];
      calls = ap (λ l. l ++ ys) h.calls ∙ ap (λ l. flat_map sending_of h.parts ++ l) (k.1 ∙ sym one) ∙ sym (flat_map-append sending_of h.parts (part ∷ []));
      events = flat_map-append (λ (p : Part E). p.events) h.parts (part ∷ []) ∙ ap (λ l. l ++ flat_map (λ (p : Part E). p.events) (part ∷ [])) h.events
          ∙ ap (λ l. take sent script ++ l) its ∙ sym (first_and_next script sent n);
    }

-- the first of a list is as many of its first as it has
part_of : {E : Type 0} (rest : List E) (n : ℕ) → take n rest ≡ take (length (take n rest)) rest
part_of [] zero = refl
part_of [] (suc n) = refl
part_of (x ∷ rest) zero = refl
part_of (x ∷ rest) (suc n) = ap (λ l. x ∷ l) (part_of rest n)

-- of the next events not all are
begins_part : {E : Type 0} (rest : List E) (n : ℕ) (trouble : Trouble) (calls : List (InletCall E)) → IsPartSent (take n rest) (Err trouble) calls
    → BeginsPart rest calls
begins_part rest n trouble calls (inl none) = inl none
begins_part rest n trouble calls (inr (stretch, k, some, is)) =
    inr (record { stretch = stretch; events = take n rest }, k, part_of rest n, some, is)

-- so many events are sent so far
pub record Sending {E : Type 0} (cut : ℕ) (script : List E) (may_stop must_stop : ℕ → ℕ → Type 0) (who sent : ℕ) (passages : Passages)
    (calls : List (InletCall E)) : Type 0 where
  pub cuts : AreCut cut (length script) (claims_in calls)
  pub left : left_after (length script) (claims_in calls) ≡ length script - sent
  pub passes : Passes may_stop must_stop (length (claims_in calls)) (begins who) passages
  pub sends : InParts script sent (accepted_in calls)
  pub order : InOrder cut (ToClaim script) calls
  pub end : task_at_end (ToClaim script) calls ≡ ToClaim (drop sent script)

pub sending_none : {S E : Type 0} (does : S → InletCall E → S → Type 0) (a : S) (cut : ℕ) (script : List E) (may_stop must_stop : ℕ → ℕ → Type 0)
    (who : ℕ) (passages : Passages) → passages ≡ begins who
    → SomeCalls does a a (Sending cut script may_stop must_stop who 0 passages)
sending_none does a cut script may_stop must_stop who passages is = record {
  calls = [];
  lead = refl;
  holds = record {
    cuts = tt;
    left = omega arith;
    passes = subst (λ t. Passes may_stop must_stop 0 (begins who) t) (sym is) (passes_none may_stop must_stop (begins who));
    sends = record { parts = []; calls = refl; events = refl };
    order = tt;
    end = refl;
  };
}

-- how long the next part is
part_length : {E : Type 0} (script : List E) (sent n cut : ℕ) → n ≡ min (length script - sent) cut → length (take n (drop sent script)) ≡ n
part_length script sent n cut is =
    let left : length (drop sent script) ≡ length script - sent = length-drop sent script in
    length-take-le n (drop sent script) (omega arith)

-- the claims and passages of one part more
claims_both : {E : Type 0} (n : ℕ) (xs ys : List (InletCall E)) → claims_in ys ≡ n ∷ [] → claims_in (xs ++ ys) ≡ claims_in xs ++ n ∷ []
claims_both n xs ys is = claims_in-append xs ys ∙ ap (λ l. claims_in xs ++ l) is

passes_both : {E : Type 0} (may_stop must_stop : ℕ → ℕ → Type 0) (xs ys : List (InletCall E)) (t t' t'' : Passages)
    → Passes may_stop must_stop (length (claims_in xs)) t t'
    → Passes may_stop must_stop (length (claims_in ys)) t' t'' → Passes may_stop must_stop (length (claims_in (xs ++ ys))) t t''
passes_both may_stop must_stop xs ys t t' t'' h k =
    let many : length (claims_in (xs ++ ys)) ≡ length (claims_in xs) + length (claims_in ys) = ap length (claims_in-append xs ys)
    ∙ length-append (claims_in xs) (claims_in ys) in
    subst (λ n. Passes may_stop must_stop n t t'') (sym many) (passes_more may_stop must_stop (length (claims_in xs)) (length (claims_in ys)) t t' t'' h k)

went_well : {P : Type 0} (result : Result (Unit {0}) Trouble) (trouble : Trouble) → result ≡ Ok tt → result ≡ Err trouble → P
went_well result trouble is is' = absurd (cc)

-- the order of one part more
parts_in_order : {E : Type 0} (cut : ℕ) (script : List E) (sent n : ℕ) (xs ys : List (InletCall E)) → n ≡ min (length script - sent) cut → 0 < n
    → InOrder cut (ToClaim script) xs → task_at_end (ToClaim script) xs ≡ ToClaim (drop sent script)
    → ((rest : List E) → 0 < length (take n (drop sent script)) → length (take n (drop sent script)) ≡ min (length (take n (drop sent script) ++ rest)) cut
    → InOrder cut (ToClaim (take n (drop sent script) ++ rest)) ys)
    → InOrder cut (ToClaim script) (xs ++ ys)
parts_in_order cut script sent n xs ys size some h end k =
    let left = drop sent script in
    let long : length (take n left) ≡ n = part_length script sent n cut size in
    let all : length left ≡ length script - sent = length-drop sent script in
    let whole : length (take n left ++ drop n left) ≡ length left = ap length (take-append-drop n left) in
    let next : InOrder cut (ToClaim (take n left ++ drop n left)) ys =
    k (drop n left) (omega arith) (long ∙ size ∙ ap (λ l. min l cut) (sym all ∙ sym whole)) in
    in_order_more cut (ToClaim script) xs ys h
    (subst (λ t. InOrder cut t ys) (sym end) (subst (λ l. InOrder cut (ToClaim l) ys) (take-append-drop n left) next))

parts_at_end : {E : Type 0} (script : List E) (sent n : ℕ) (xs ys : List (InletCall E)) → task_at_end (ToClaim script) xs ≡ ToClaim (drop sent script)
    → ((rest : List E) → task_at_end (ToClaim (take n (drop sent script) ++ rest)) ys ≡ ToClaim rest)
    → task_at_end (ToClaim script) (xs ++ ys) ≡ ToClaim (drop (sent + n) script)
parts_at_end script sent n xs ys end k =
    let left = drop sent script in
    task_more (ToClaim script) xs ys ∙ ap (λ t. task_at_end t ys) end ∙ ap (λ l. task_at_end (ToClaim l) ys) (sym (take-append-drop n left)) ∙ k (drop n left)
    ∙ ap (λ l. ToClaim l) (rest_later sent n script)

-- one part more
pub sending_more : {S E : Type 0} (does : S → InletCall E → S → Type 0) (a b c : S) (cut : ℕ) (script : List E) (may_stop must_stop : ℕ → ℕ → Type 0)
    (who sent n : ℕ) (t t' : Passages) (result : Result (Unit {0}) Trouble) → result ≡ Ok tt → n ≡ min (length script - sent) cut → 0 < n
    → SomeCalls does a b (Sending cut script may_stop must_stop who sent t)
    → SomeCalls does b c (SendsPart (take n (drop sent script)) may_stop must_stop t t' result)
    → SomeCalls does a c (Sending cut script may_stop must_stop who (sent + n) t')
sending_more does a b c cut script may_stop must_stop who sent n t t' result is size some h k =
    let all = length script in
    let one : claims_in k.calls ≡ n ∷ [] = elim k.holds.claims [
      | inl one ↦ one ∙ ap (λ m. m ∷ []) (part_length script sent n cut size)
      | inr none ↦ went_well result none.1.0 is none.1.1
    ] in
    let whole = claims_both n h.calls k.calls one in record {
      calls = h.calls ++ k.calls;
      lead = lead_more does a b c h.calls k.calls h.lead k.lead;
      holds = record {
        cuts = subst (λ l. AreCut cut all l) (sym whole) (cut_more cut all (claims_in h.calls) n h.holds.cuts (size ∙ ap (λ l. min l cut) (sym h.holds.left)));
        left = ap (λ l. left_after all l) whole ∙ left_more all (claims_in h.calls) n ∙ ap (λ l. l - n) h.holds.left ∙ (omega arith);
        passes = passes_both may_stop must_stop h.calls k.calls (begins who) t t' h.holds.passes k.holds.passes;
        sends = subst (InParts script (sent + n)) (sym (accepted_in-append h.calls k.calls))
            (parts_more script sent n (accepted_in h.calls) (accepted_in k.calls) h.holds.sends
            (subst (λ r. IsPartSent (take n (drop sent script)) r (accepted_in k.calls)) is k.holds.accepted));
        order = parts_in_order cut script sent n h.calls k.calls size some h.holds.order h.holds.end (λ rest. k.holds.order cut rest);
        end = parts_at_end script sent n h.calls k.calls h.holds.end (λ rest. k.holds.end rest is);
      };
    }

-- all is sent
pub sends_all : {S E : Type 0} (does : S → InletCall E → S → Type 0) (a b : S) (cut : ℕ) (script : List E) (may_stop must_stop : ℕ → ℕ → Type 0)
    (who sent : ℕ) (t : Passages) (produced : Produced) → produced.sent ≡ length script → produced.sent ≡ sent → produced.fault ≡ fault_at_end t.stopped
    → SomeCalls does a b (Sending cut script may_stop must_stop who sent t) → SomeCalls does a b (Sends cut script (may_stop who) (must_stop who) produced)
sends_all does a b cut script may_stop must_stop who sent t produced whole same is h = record {
  calls = h.calls;
  lead = h.lead;
  holds = record {
    cuts = h.holds.cuts;
    gate = stops_after may_stop must_stop (length (claims_in h.calls)) who t (λ stopped. ProducerEnds cut script stopped h.calls produced) h.holds.passes
        (inl (whole, is));
    sends = subst (λ n. IsSent script n (accepted_in h.calls)) (sym same) (record {
      parts = h.holds.sends.parts;
      next = [];
      calls = h.holds.sends.calls ∙ sym (append-nil (flat_map sending_of h.holds.sends.parts));
      events = h.holds.sends.events;
      begins = inl refl;
    });
    order = h.holds.order;
  };
}

-- the next part is in trouble, after others
gives_up : {E : Type 0} (cut : ℕ) (script : List E) (sent n : ℕ) (trouble : Trouble) (xs ys : List (InletCall E)) → sent < length script
    → n ≡ min (length script - sent) cut
    → IsInTroubleWith (take n (drop sent script)) trouble ys → GivesUp cut (drop sent script) trouble (xs ++ ys)
gives_up {E} cut script sent n trouble xs ys more size h =
    let rest : List E = drop sent script in
    let left : length rest ≡ length script - sent = length-drop sent script in
    let long : length (take n rest) ≡ n = part_length script sent n cut size in
    let next : n ≡ min (length rest) cut = size ∙ ap (λ l. min l cut) (sym left) in (
      omega arith,
      elim h [
        | inl claim ↦ inl (subst (λ m. EndsIn (ClaimFails m trouble) (xs ++ ys)) (long ∙ next)
            (ends_after (ClaimFails (length (take n rest)) trouble) xs ys claim))
        | inr part ↦ inr (
          record { stretch = part.0; events = take n rest },
          ap (λ m. take m rest) next,
          (
            accepted_in xs ++ part.1.0,
            part.1.1,
            accepted_in-append xs ys ∙ ap (λ l. accepted_in xs ++ l) part.1.2
                ∙ sym (append_assoc (accepted_in xs) part.1.0 (take (part.1.1 + 1) (writing_of (record { stretch = part.0; events = take n rest })))),
          ),
          ends_after (PartFails (record { stretch = part.0; events = take n rest }) trouble) xs ys part.2,
        )
      ],
    )

-- a part is in trouble
pub sends_in_trouble : {S E : Type 0} (does : S → InletCall E → S → Type 0) (a b c : S) (cut : ℕ) (script : List E) (may_stop must_stop : ℕ → ℕ → Type 0)
    (who sent n : ℕ) (t t' : Passages) (result : Result (Unit {0}) Trouble) (trouble : Trouble) (produced : Produced)
    → sent < length script → n ≡ min (length script - sent) cut → 0 < n → result ≡ Err trouble → produced.sent ≡ sent
    → produced.fault ≡ Some (fault_in_trouble t'.stopped trouble)
    → SomeCalls does a b (Sending cut script may_stop must_stop who sent t)
    → SomeCalls does b c (SendsPart (take n (drop sent script)) may_stop must_stop t t' result)
    → SomeCalls does a c (Sends cut script (may_stop who) (must_stop who) produced)
sends_in_trouble does a b c cut script may_stop must_stop who sent n t t' result trouble produced more size some fails same is h k =
    let all = length script in
    let part = take n (drop sent script) in record {
      calls = h.calls ++ k.calls;
      lead = lead_more does a b c h.calls k.calls h.lead k.lead;
      holds = record {
        cuts = elim k.holds.claims [
          | inl one ↦
              subst (λ l. AreCut cut all l) (sym (claims_both n h.calls k.calls (one ∙ ap (λ m. m ∷ []) (part_length script sent n cut size))))
              (cut_more cut all (claims_in h.calls) n h.holds.cuts (size ∙ ap (λ l. min l cut) (sym h.holds.left)))
          | inr none ↦ subst (λ l. AreCut cut all l)
              (sym (claims_in-append h.calls k.calls ∙ ap (λ l. claims_in h.calls ++ l) none.0 ∙ append-nil (claims_in h.calls))) h.holds.cuts
        ];
        gate = stops_after may_stop must_stop (length (claims_in (h.calls ++ k.calls))) who t'
            (λ stopped. ProducerEnds cut script stopped (h.calls ++ k.calls) produced)
            (passes_both may_stop must_stop h.calls k.calls (begins who) t t' h.holds.passes k.holds.passes)
            (inr (
              trouble,
              subst (λ m. GivesUp cut (drop m script) trouble (h.calls ++ k.calls)) (sym same)
                  (gives_up cut script sent n trouble h.calls k.calls more size (k.holds.trouble trouble fails)),
              is,
            ));
        sends = subst (λ m. IsSent script m (accepted_in (h.calls ++ k.calls))) (sym same) (record {
          parts = h.holds.sends.parts;
          next = accepted_in k.calls;
          calls = accepted_in-append h.calls k.calls ∙ ap (λ l. l ++ accepted_in k.calls) h.holds.sends.calls;
          events = h.holds.sends.events;
          begins = begins_part (drop sent script) n trouble (accepted_in k.calls) (subst (λ r. IsPartSent part r (accepted_in k.calls)) fails k.holds.accepted);
        });
        order = parts_in_order cut script sent n h.calls k.calls size some h.holds.order h.holds.end (λ rest. k.holds.order cut rest);
      };
    }
