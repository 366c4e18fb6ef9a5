-- What a handler holds of the events that it was shown.
use Rattle.std.proofs.Common.{◌≡◌, ℕ, ◌+◌, Bool, false, List, [], ◌∷◌, ◌++◌, refl, subst, append-nil, append_assoc}
use Rattle.dr_meaning.specs.Calls.Handling.{GoesThrough, Relation, Showing, showings}
use Rattle.dr_workers.specs.Meaning.Work.{Dealt, dealt_events, shown_of}

-- calls that go on from others
parted : {E A : Type 0} (goes : Relation E A) (old : A) (first rest : List (Showing E)) (new : A) → GoesThrough goes old (first ++ rest) new
    → (between : A) × GoesThrough goes old first between × GoesThrough goes between rest new
parted goes old [] rest new is = (old, refl, is)
parted goes old (x ∷ first) rest new is = let more = parted goes is.0 first rest new is.2 in (more.0, (is.0, is.1, more.1), more.2)

-- a handler that holds something of the events that it was shown, which each call keeps
module _ {E A : Type 0} (goes : Relation E A) (Has : A → List E → Type 0)
    (keeps : (old new : A) (before : List E) (event : E) (s : ℕ) (end : Bool) → Has old before → goes old event s end new → Has new (before ++ event ∷ [])) where
  -- holds it after a batch
  pub along : (old new : A) (before events : List E) (first : ℕ) (end : Bool) → Has old before → GoesThrough goes old (showings events first end) new
      → Has new (before ++ events)
  along old new before [] first end has is = rw append-nil (subst (λ x. Has x before) is has)
  along old new before (e ∷ []) first end has is = subst (λ x. Has x (before ++ e ∷ [])) is.2 (keeps old is.0 before e first end has is.1)
  along old new before (e ∷ f ∷ events) first end has is =
      let shown = keeps old is.0 before e first false has is.1 in
      subst (λ l. Has new l) (append_assoc before (e ∷ []) (f ∷ events)) (along is.0 new (before ++ e ∷ []) (f ∷ events) (first + 1) end shown is.2)

  -- and after several
  pub along_batches : (old new : A) (before : List E) (batches : List (Dealt E)) → Has old before → GoesThrough goes old (shown_of batches) new
      → Has new (before ++ dealt_events batches)
  along_batches old new before [] has is = rw append-nil (subst (λ x. Has x before) is has)
  along_batches old new before (batch ∷ batches) has is =
      let parts = parted goes old (showings batch.events batch.first batch.end) (shown_of batches) new is in
      subst (λ l. Has new l) (append_assoc before batch.events (dealt_events batches))
      (along_batches parts.0 new (before ++ batch.events) batches (along old parts.0 before batch.events batch.first batch.end has parts.1) parts.2)
