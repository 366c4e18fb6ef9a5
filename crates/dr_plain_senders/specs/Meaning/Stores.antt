-- Whose store a step of a ring is.
use Rattle.std.specs.Prelude.{ℕ, ◌+◌, ◌*◌, ◌==◌, Bool, false, List, filter}
use Rattle.dr_plain_senders.specs.declared.record.Step.{Step}
use Rattle.dr_plain_senders.specs.declared.record.Step.TheVariants.{SenderClaims, SenderPublishes, SenderHalts, ReceiverCompletes, HalterHalts, HalterLooks}
use Rattle.dr_plain_senders.specs.declared.record.Step.TheVariants.{SenderLooksAtClaims, SenderLooksAtCount, SenderLooksAtMark, ReceiverLooksAtClaims}
use Rattle.dr_plain_senders.specs.declared.record.Step.TheVariants.{ReceiverLooksAtMark, ReceiverLooksAtCount}

-- the halter is end 0, and senders and receivers take turns behind it
abbrev pub sender_number : ℕ → ℕ
sender_number p = 2 * p + 1

abbrev pub receiver_number : ℕ → ℕ
receiver_number h = 2 * h + 2

module _ {T : Type 0} where
  -- whether a step is a store by the end of a number; an exchange counts as one, also where it finds another number
  abbrev pub is_store_of : ℕ → Step T → Bool
  is_store_of end (SenderClaims p found more) = end == sender_number p
  is_store_of end (SenderPublishes p s events) = end == sender_number p
  is_store_of end (SenderHalts p) = end == sender_number p
  is_store_of end HalterHalts = end == 0
  is_store_of end (ReceiverCompletes h n) = end == receiver_number h
  -- and these are loads
  is_store_of end (SenderLooksAtClaims p) = false
  is_store_of end (SenderLooksAtCount p h) = false
  is_store_of end (SenderLooksAtMark p s) = false
  is_store_of end (ReceiverLooksAtClaims h) = false
  is_store_of end (ReceiverLooksAtMark h room) = false
  is_store_of end (ReceiverLooksAtCount h u room) = false
  is_store_of end (HalterLooks word) = false

  -- what a sender stored in a run, in order
  abbrev pub stores_of_sender : ℕ → List (Step T) → List (Step T)
  stores_of_sender p steps = filter (is_store_of (sender_number p)) steps

  -- what the receiver of a handler stored in a run, in order
  abbrev pub stores_of_receiver : ℕ → List (Step T) → List (Step T)
  stores_of_receiver h steps = filter (is_store_of (receiver_number h)) steps

  -- what the halter stored in a run, in order
  abbrev pub stores_of_halter : List (Step T) → List (Step T)
  stores_of_halter steps = filter (is_store_of 0) steps
