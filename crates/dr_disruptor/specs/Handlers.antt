-- What handlers went through.
use Rattle.std.specs.Prelude.{◌≡◌, ℕ, ◌≤◌, List, length, All}
use mathlib.Core.Option.{some}
use lib.ListN.{get_elem?}
use Rattle.dr_meaning.specs.Calls.Handling.{GoesThrough, Relation}
use Rattle.dr_workers.specs.Meaning.Work.{Dealt, FollowFrom, dealt_events, shown_of}
use Rattle.dr_disruptor.specs.Serving.{IsPolled}

-- a handler went from one meaning to another through exactly these events: each once, in sequence order from 0 on, in batches, each of as many as were offered then but at most of so many, of which the last is marked if and only if no more were offered
pub record WentThrough {E A : Type 0} (goes : Relation E A) (most : ℕ) (start after : A) (events : List E) : Type 0 where
  pub batches : List (Dealt E)
  pub through : GoesThrough goes start (shown_of batches) after
  pub order : FollowFrom 0 batches
  pub dealt : dealt_events batches ≡ events
  pub polled : All (IsPolled most (λ n. n ≤ length events)) batches

-- so did each handler, from the one that was given at its place
pub record AllWentThrough {E A : Type 0} (goes : Relation E A) (most : ℕ) (events : List E) (starts afters : List A) : Type 0 where
  pub many : length afters ≡ length starts
  pub each : (h : ℕ) (start after : A) → get_elem? starts h ≡ some start → get_elem? afters h ≡ some after → WentThrough goes most start after events
