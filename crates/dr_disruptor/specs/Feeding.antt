-- What the threads of a run's senders promise, and what they gave back.
use Rattle.std.specs.Prelude.{◌≡◌, ℕ, List, [], length}
use mathlib.Core.Option.{some}
use lib.ListN.{get_elem?}
use Rattle.std.specs.declared.thread.PromisedHandle.{PromisedHandle}
use Rattle.dr_plain_senders.specs.Calls.Ends.{SenderEnd}
use Rattle.dr_plain_senders.specs.Calls.InPlace.{sending_of}
use Rattle.dr_disruptor.specs.declared.feeds.FeedsPromise.{FeedsPromise}
use Rattle.dr_disruptor.specs.declared.feeds.Delivered.{Delivered}

-- a sender claimed nothing and published nothing
abbrev pub IsUnsent : {E : Type 0} → SenderEnd E → Type 0
IsUnsent e = ((sending_of e).pending ≡ []) × ((sending_of e).published ≡ [])

-- a closure was given this sender, answered this and left the sender so, and nothing of what that claimed is left unpublished
abbrev pub LeavesClosed : {F E A : Type 0} → (F → SenderEnd E → A → SenderEnd E → Type 0) → F → SenderEnd E → Delivered E A → Type 0
LeavesClosed gives feed given back = gives feed given back.answer back.sender × ((sending_of back.sender).pending ≡ [])

-- the thread of a sender that a closure sends by, the end that it was given, and the closure
abbrev pub Feeder : Type 0 → Type 0 → Type 0 → Type 0 → Type 0
Feeder R E A F = PromisedHandle (Delivered E A) (FeedsPromise R E A F)

module _ {R E A F : Type 0} where
  abbrev pub fed_sender : Feeder R E A F → SenderEnd E
  fed_sender w = w.promise.end.value

  abbrev pub given_feed : Feeder R E A F → F
  given_feed w = w.promise.feed.value

-- each thread gave back what it promised, in their order
pub record AreGiven {B P : Type 0} (kept_by : P → B → Type 0) (threads : List (PromisedHandle B P)) (given : List B) : Type 0 where
  pub many : length given ≡ length threads
  pub each : (p : ℕ) (back : B) → get_elem? given p ≡ some back → (w : PromisedHandle B P) × (get_elem? threads p ≡ some w) × kept_by w.promise back

-- at its place each closure was given the sender that stands there
pub record AreSent {F E A : Type 0} (gives : F → SenderEnd E → A → SenderEnd E → Type 0) (feeds : List F) (given : List (SenderEnd E)) (sent : List (Delivered E A)) : Type 0 where
  pub many : length sent ≡ length given
  pub each : (p : ℕ) (back : Delivered E A) → get_elem? sent p ≡ some back
      → (feed : F) × (e : SenderEnd E) × (get_elem? feeds p ≡ some feed) × (get_elem? given p ≡ some e) × LeavesClosed gives feed e back
