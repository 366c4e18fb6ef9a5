-- Whose store a step of a ring is.
use Rattle.std.specs.Prelude.{ℕ, ◌==◌, Bool, false, List, filter}
use Rattle.dr_ring.specs.declared.record.Step.{Step}
use Rattle.dr_ring.specs.declared.record.Step.TheVariants.{SenderStoresFirst, SenderStoresSecond, SenderPublishes, SenderHalts, SenderCloses}
use Rattle.dr_ring.specs.declared.record.Step.TheVariants.{ReceiverCompletes, HalterHalts}
use Rattle.dr_ring.specs.declared.record.Step.TheVariants.{SenderLooksAtCount, SenderLooksAtHalt, ReceiverLooksAtClosed, ReceiverLooksAtCursor}
use Rattle.dr_ring.specs.declared.record.Step.TheVariants.{ReceiverLooksAtCount, ReceiverLoadsFirst, ReceiverLoadsSecond}
use Rattle.dr_runs.specs.Runs.{receiver_number}

-- whether a step is a store by the end of a number
abbrev pub is_store_of : ℕ → Step → Bool
is_store_of end (SenderStoresFirst s first) = end == 0
is_store_of end (SenderStoresSecond second) = end == 0
is_store_of end (SenderPublishes n) = end == 0
is_store_of end SenderHalts = end == 0
is_store_of end SenderCloses = end == 0
is_store_of end HalterHalts = end == 1
is_store_of end (ReceiverCompletes h n) = end == receiver_number h
-- and these are loads
is_store_of end (SenderLooksAtCount h) = false
is_store_of end (SenderLooksAtHalt more) = false
is_store_of end (ReceiverLooksAtClosed h) = false
is_store_of end (ReceiverLooksAtCursor h) = false
is_store_of end (ReceiverLooksAtCount h u) = false
is_store_of end (ReceiverLoadsFirst h) = false
is_store_of end (ReceiverLoadsSecond h) = false

-- what the sender stored in a run, in order
abbrev pub stores_of_sender : List Step → List Step
stores_of_sender steps = filter (is_store_of 0) steps

-- what the receiver of a handler stored in a run, in order
abbrev pub stores_of_receiver : ℕ → List Step → List Step
stores_of_receiver h steps = filter (is_store_of (receiver_number h)) steps

-- what the halter stored in a run, in order
abbrev pub stores_of_halter : List Step → List Step
stores_of_halter steps = filter (is_store_of 1) steps
