-- Whose store a step of a ring is.
use Rattle.std.specs.Prelude.{ℕ, ◌==◌, Bool, false, List, filter}
use Rattle.dr_plain.specs.declared.record.Step.{Step}
use Rattle.dr_plain.specs.declared.record.Step.TheVariants.{SenderPublishes, SenderHalts, SenderCloses, ReceiverCompletes, HalterHalts}
use Rattle.dr_runs.specs.Runs.{receiver_number}

module _ {T : Type 0} where
  -- whether a step is a store by the end of a number
  abbrev pub is_store_of : ℕ → Step T → Bool
  is_store_of end (SenderPublishes events) = end == 0
  is_store_of end SenderHalts = end == 0
  is_store_of end SenderCloses = end == 0
  is_store_of end HalterHalts = end == 1
  is_store_of end (ReceiverCompletes h n) = end == receiver_number h
  is_store_of end _ = false

  -- what the sender stored in a run, in order
  abbrev pub stores_of_sender : List (Step T) → List (Step T)
  stores_of_sender steps = filter (is_store_of 0) steps

  -- what the halter stored in a run, in order
  abbrev pub stores_of_halter : List (Step T) → List (Step T)
  stores_of_halter steps = filter (is_store_of 1) steps

  -- what the receiver of a handler stored in a run, in order
  abbrev pub stores_of_receiver : ℕ → List (Step T) → List (Step T)
  stores_of_receiver h steps = filter (is_store_of (receiver_number h)) steps
