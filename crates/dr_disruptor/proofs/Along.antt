-- For contracts of your own around a run: what a handler holds after it, and how much was sent.
use Rattle.std.proofs.Common.{◌≡◌, ℕ, Bool, List, [], ◌∷◌, ◌++◌, length, ap, subst, sym, ◌∙◌}
use Rattle.std.proofs.lemmas.List.{length-map}
use denote.RawPtr.{Ptr}
use Rattle.dr_meaning.specs.Calls.Handling.{Relation}
use Rattle.dr_workers.proofs.Along.{along_batches}
use Rattle.dr_plain.specs.declared.settled.Settled.{Settled}
use Rattle.dr_plain.specs.Calls.Ends.{SenderEnd}
use Rattle.dr_lent.specs.Events.{events_of}
use Rattle.dr_plain.specs.Meaning.Shape.{Shape}
use Rattle.dr_disruptor.specs.declared.running.RunOutcome.{RunOutcome}
use Rattle.dr_disruptor.specs.Handlers.{WentThrough}
use Rattle.dr_disruptor.specs.Running.{IsOutcomeBy}

-- a handler that holds something of the events that it was shown, as of none of them at first, and that each call keeps
module _ {E A : Type 0} (goes : Relation E A) (Has : A → List E → Type 0)
    (keeps : (old new : A) (before : List E) (event : E) (s : ℕ) (end : Bool) → Has old before → goes old event s end new → Has new (before ++ event ∷ [])) where
  -- holds it after a run
  pub along_run : (most : ℕ) (start after : A) (events : List E) → WentThrough goes most start after events → Has start [] → Has after events
  along_run most start after events went none = subst (Has after) went.dealt (along_batches goes Has keeps start after [] went.batches none went.through)

-- as many events were sent as are counted
pub sent_count : {E S T A B : Type 0} {sends : S → B → S → Type 0} {sender_in : S → SenderEnd E} {goes : Relation E A} {listed : T → List A}
    {went : ℕ → List E → T → T → Type 0} {most : ℕ} {shape : Ptr → Shape} {events : List E} {handlers : T} {ran : RunOutcome E T (Settled E) B}
    (r : IsOutcomeBy sends sender_in goes listed went most shape events handlers ran)
    → ran.settled.published ≡ length (events_of (sender_in r.back).knows.published)
sent_count {sender_in} r = r.settled.published ∙ ap length r.settled.sent ∙ sym (length-map (sender_in r.back).knows.published _)
