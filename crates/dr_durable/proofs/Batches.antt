-- What a handler is shown of batches whose last events are marked.
use Rattle.std.proofs.Common.{◌≡◌, ℕ, ◌+◌, ◌-◌, ◌<◌, ◌≤◌, min, Bool, true, false, All, List, [], ◌∷◌, ◌++◌, length, map}
use Rattle.std.proofs.Common.{refl, sym, subst, ◌∙◌, ap, arith, append-nil, append_assoc}
use Rattle.std.proofs.lemmas.List.{length-append, map-append}
use Rattle.std.proofs.lemmas.List.Elements.{All-cons, All-head, All-nil, All-tail}
use Rattle.dr_meaning.specs.Calls.Handling.{GoesThrough, Relation, Showing, showings}
use Rattle.dr_workers.specs.Meaning.Work.{Dealt, FollowFrom, dealt_events, shown_of}
use Rattle.dr_disruptor.specs.Serving.{IsMarked, IsPolled}

-- calls that go on from others
pub parted : {E A : Type 0} (goes : Relation E A) (old : A) (first rest : List (Showing E)) (new : A) → GoesThrough goes old (first ++ rest) new
    → (between : A) × GoesThrough goes old first between × GoesThrough goes between rest new
parted goes old [] rest new is = (old, refl, is)
parted goes old (x ∷ first) rest new is = let more = parted goes is.0 first rest new is.2 in (more.0, (is.0, is.1, more.1), more.2)

abbrev pub event_of : {E : Type 0} → Showing E → E
event_of x = x.event

module _ {E : Type 0} where
  pub shown_append : (front rest : List (Dealt E)) → shown_of (front ++ rest) ≡ shown_of front ++ shown_of rest
  shown_append [] rest = refl
  shown_append (b ∷ front) rest =
      let here = showings b.events b.first b.end in
      ap (λ (l : List (Showing E)). here ++ l) (shown_append front rest) ∙ sym (append_assoc here (shown_of front) (shown_of rest))

  events_shown : (events : List E) (first : ℕ) (end : Bool) → map event_of (showings events first end) ≡ events
  events_shown [] first end = refl
  events_shown (e ∷ []) first end = refl
  events_shown (e ∷ f ∷ events) first end = ap (λ (l : List E). e ∷ l) (events_shown (f ∷ events) (first + 1) end)

  -- they are the batches' events
  pub events_of_all : (batches : List (Dealt E)) → map event_of (shown_of batches) ≡ dealt_events batches
  events_of_all [] = refl
  events_of_all (b ∷ batches) =
      map-append event_of (showings b.events b.first b.end) (shown_of batches)
      ∙ ap (λ (l : List E). l ++ map event_of (shown_of batches)) (events_shown b.events b.first b.end)
      ∙ ap (λ (l : List E). b.events ++ l) (events_of_all batches)

  -- the last batch has events, of which the last one is marked
  abbrev pub LastMarked : List (Dealt E) → Type 0
  LastMarked [] = Unit {0}
  LastMarked (b ∷ []) = IsMarked b
  LastMarked (b ∷ d ∷ batches) = LastMarked (d ∷ batches)

  pub marked_last : (batches : List (Dealt E)) → All IsMarked batches → LastMarked batches
  marked_last [] marked = tt
  marked_last (b ∷ []) marked = All-head IsMarked b [] marked
  marked_last (b ∷ d ∷ batches) marked = marked_last (d ∷ batches) (All-tail IsMarked b (d ∷ batches) marked)

  pub marked_front : (front rest : List (Dealt E)) → All IsMarked (front ++ rest) → All IsMarked front
  marked_front [] rest marked = All-nil IsMarked
  marked_front (b ∷ front) rest marked =
      All-cons IsMarked b front (All-head IsMarked b (front ++ rest) marked) (marked_front front rest (All-tail IsMarked b (front ++ rest) marked))

  -- what ends with a mark
  abbrev pub EndsMarked : List (Showing E) → Type 0
  EndsMarked shown = (front : List (Showing E)) × (last : Showing E) × (shown ≡ front ++ last ∷ []) × (last.end ≡ true)

  one_marked : (events : List E) (first : ℕ) → 0 < length events → EndsMarked (showings events first true)
  one_marked [] first some = absurd (omega arith)
  one_marked (e ∷ []) first some = ([], record { event = e; sequence = first; end = true }, refl, refl)
  one_marked (e ∷ f ∷ events) first some =
      let later = one_marked (f ∷ events) (first + 1) (omega arith) in
      let here : Showing E = record { event = e; sequence = first; end = false } in
      (here ∷ later.0, later.1, ap (λ (l : List (Showing E)). here ∷ l) later.2, later.3)

  pub ends_marked : (b : Dealt E) (batches : List (Dealt E)) → LastMarked (b ∷ batches) → EndsMarked (shown_of (b ∷ batches))
  ends_marked b [] marked =
      let one = one_marked b.events b.first marked.0 in
      (one.0, one.1, append-nil (showings b.events b.first b.end) ∙ ap (λ (end : Bool). showings b.events b.first end) marked.1 ∙ one.2, one.3)
  ends_marked b (d ∷ batches) marked =
      let later = ends_marked d batches marked in
      let here = showings b.events b.first b.end in
      (here ++ later.0, later.1, ap (λ (l : List (Showing E)). here ++ l) later.2 ∙ sym (append_assoc here later.0 (later.1 ∷ [])), later.3)

  -- a poll that was offered no more than the run has gave the last batch: so all that was offered to it
  pub last_marked : (most s : ℕ) (batches : List (Dealt E)) → FollowFrom s batches
      → All (IsPolled most (λ n. n ≤ s + length (dealt_events batches))) batches → LastMarked batches
  last_marked most s [] order polled = tt
  last_marked most s (b ∷ []) order polled =
      let one = All-head (IsPolled most (λ n. n ≤ s + length (b.events ++ []))) b [] polled in
      let offered = one.0 in
      let within : offered ≤ s + length (b.events ++ []) = one.1 in
      let all : length (b.events ++ []) ≡ length b.events = ap length (append-nil b.events) in
      let many : length b.events ≡ min (offered - b.first) most = one.2 in
      let first : b.first ≡ s = order.0 in
      let some : 0 < length b.events = order.1 in
      let whole : b.first + length b.events ≡ offered = omega arith in
      (some, one.3.1 whole)
  last_marked most s (b ∷ d ∷ batches) order polled =
      let later = dealt_events (d ∷ batches) in
      let sum : length (b.events ++ later) ≡ length b.events + length later = length-append b.events later in
      let same : s + length (b.events ++ later) ≡ s + length b.events + length later = omega arith in
      let rest = All-tail (IsPolled most (λ n. n ≤ s + length (b.events ++ later))) b (d ∷ batches) polled in
      last_marked most (s + length b.events) (d ∷ batches) order.2 (subst (λ (all : ℕ). All (IsPolled most (λ n. n ≤ all)) (d ∷ batches)) same rest)
