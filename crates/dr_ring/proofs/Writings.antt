-- Many events, written one after another.
use Rattle.std.proofs.Common.{◌≡◌, ℕ, ◌+◌, ◌<◌, List, [], ◌∷◌, ◌++◌, length, take, get_or, None, Some, Ok, Err, sym, refl, ap, ◌∙◌, subst, arith, append_assoc}
use Rattle.std.proofs.lemmas.List.{length-take-le, take_more, append-nil}
use Rattle.dr_seq.specs.declared.event.Event.{Event}
use Rattle.dr_meaning.specs.declared.refusal.Refusal.{Refusal}
use Rattle.dr_meaning.specs.declared.ends.Trouble.TheVariants.{Refused}
use Rattle.dr_meaning.specs.Calls.Ends.{WriteAnswers, WritesAll}
use Rattle.dr_meaning.proofs.ManyWrites.{below_more, answer_before, written_more}
use Rattle.dr_ring.specs.declared.record.SenderRecord.{SenderRecord}
use Rattle.dr_ring.specs.declared.record.Step.{Step}
use Rattle.dr_ring.specs.declared.record.Step.TheVariants.{SenderStoresFirst, SenderStoresSecond}
use Rattle.dr_runs.specs.Runs.{IsBeginning}
use Rattle.dr_ring.specs.Calls.Ends.{SenderEnd, sender_place}
use Rattle.dr_runs.proofs.Beginnings.{begins_same, begins_on}
use Rattle.dr_ring.specs.Calls.Sending.{OnlySends, WriteCall}
use Rattle.dr_ring.specs.Calls.Inlets.{WriteAllCall, writes_from}

-- a sender has written the first k of some events
pub record WroteFirst (e : SenderEnd) (lo : ℕ) (events : List Event) (k : ℕ) (e' : SenderEnd) : Type 0 where
  pub place : sender_place e' ≡ sender_place e
  pub answers : (j : ℕ) → j < k → WriteAnswers (Some e.knows.sent) (lo + j) (Ok tt)
  pub sent : WritesAll lo (take k events) e.knows.sent e'.knows.sent
  pub only : OnlySends e.knows e'.knows
  pub stored : e'.stored ≡ e.stored ++ writes_from lo (take k events)
  pub past : IsBeginning e.past e'.past

pub wrote_none : (e : SenderEnd) (lo : ℕ) (events : List Event) → WroteFirst e lo events 0 e
wrote_none e lo events = record {
  place = refl;
  answers = λ j lt. absurd (omega arith);
  sent = refl;
  only = refl;
  stored = sym (append-nil e.stored);
  past = begins_same e.past;
}

-- what another sender's record has besides what it sent
only_more : (a b c : SenderRecord) → OnlySends a b → OnlySends b c → OnlySends a c
only_more a b c one two = two ∙ ap (λ (r : SenderRecord). record r { sent = c.sent }) one

writes_append : (lo : ℕ) (xs : List Event) (event : Event)
    → writes_from lo (xs ++ event ∷ []) ≡ writes_from lo xs ++ SenderStoresFirst (lo + length xs) event.first ∷ SenderStoresSecond event.second ∷ []
writes_append lo [] event =
    let at : lo ≡ lo + 0 = omega arith in
    ap (λ (n : ℕ). let steps : List Step = SenderStoresFirst n event.first ∷ SenderStoresSecond event.second ∷ [] in steps) at
writes_append lo (x ∷ xs) event =
    let at : lo + 1 + length xs ≡ lo + length (x ∷ xs) = omega arith in
    ap (λ (steps : List Step). SenderStoresFirst lo x.first ∷ SenderStoresSecond x.second ∷ steps)
    (writes_append (lo + 1) xs event
    ∙ ap (λ (n : ℕ). writes_from (lo + 1) xs ++ SenderStoresFirst n event.first ∷ SenderStoresSecond event.second ∷ []) at)

pub wrote_more : (e a b : SenderEnd) (lo k s : ℕ) (events : List Event) (d event : Event) → k < length events → s ≡ lo + k → get_or events k d ≡ event
    → WroteFirst e lo events k a → WriteCall a s event b (Ok tt) → WroteFirst e lo events (k + 1) b
wrote_more e a b lo k s events d event less at is W C =
    let many : length (take k events) ≡ k = length-take-le k events (omega arith) in
    let place : s ≡ lo + length (take k events) = omega arith in
    let more : take (k + 1) events ≡ take k events ++ event ∷ [] = take_more events k d less ∙ ap (λ (x : Event). take k events ++ x ∷ []) is in
    let steps : ℕ → List Step = λ n. SenderStoresFirst n event.first ∷ SenderStoresSecond event.second ∷ [] in record {
      place = C.0 ∙ W.place;
      answers = below_more (λ j. WriteAnswers (Some e.knows.sent) (lo + j) (Ok tt)) k W.answers
          (subst (λ (n : ℕ). WriteAnswers (Some e.knows.sent) n (Ok tt)) at
          (answer_before lo s (take k events) (Ok tt) (Some e.knows.sent) (Some a.knows.sent) W.sent C.1.0));
      sent = written_more lo k s events d event less at is (Some e.knows.sent) (Some a.knows.sent) (Some b.knows.sent) W.sent C.1.1;
      only = only_more e.knows a.knows b.knows W.only C.1.2;
      past = begins_on e.past a.past b.past W.past C.3;
      stored =
          C.2 ∙ ap (λ (xs : List Step). xs ++ steps s) W.stored ∙ append_assoc e.stored (writes_from lo (take k events)) (steps s)
          ∙ ap (λ (n : ℕ). e.stored ++ (writes_from lo (take k events) ++ steps n)) place
          ∙ ap (λ (xs : List Step). e.stored ++ xs) (sym (writes_append lo (take k events) event) ∙ ap (writes_from lo) (sym more));
    }

-- the next one is refused
pub wrote_refused : (e a b : SenderEnd) (lo k : ℕ) (events : List Event) (refusal : Refusal) → k < length events → WroteFirst e lo events k a
    → sender_place b ≡ sender_place a
    → WriteAnswers (Some a.knows.sent) (lo + k) (Err (Refused refusal)) → b.knows.sent ≡ a.knows.sent → OnlySends a.knows b.knows → b.stored ≡ a.stored
    → IsBeginning a.past b.past → WriteAllCall e lo events b (record { count = k; trouble = Some (Refused refusal) })
wrote_refused e a b lo k events refusal less W place answer sent only stored past = record {
  place = place ∙ W.place;
  answers = record {
    written = W.answers;
    stops = (less, answer_before lo (lo + k) (take k events) (Err (Refused refusal)) (Some e.knows.sent) (Some a.knows.sent) W.sent answer);
  };
  sent = sent ∙ W.sent;
  only = only_more e.knows a.knows b.knows W.only only;
  stored = stored ∙ W.stored;
  memory = λ is. cc;
  past = begins_on e.past a.past b.past W.past past;
}

-- all are written
pub wrote_each : (e a : SenderEnd) (lo k n : ℕ) (events : List Event) → k ≡ n → n ≡ length events → WroteFirst e lo events k a
    → WriteAllCall e lo events a (record { count = n; trouble = None })
wrote_each e a lo k n events same all W = record {
  place = W.place;
  answers = record { written = subst (λ m. (j : ℕ) → j < m → WriteAnswers (Some e.knows.sent) (lo + j) (Ok tt)) same W.answers; stops = all };
  sent = subst (λ m. WritesAll lo (take m events) e.knows.sent a.knows.sent) same W.sent;
  only = W.only;
  stored = subst (λ m. a.stored ≡ e.stored ++ writes_from lo (take m events)) same W.stored;
  memory = λ is. cc;
  past = W.past;
}
