-- What a replay over the ring came of.
use Rattle.std.specs.Prelude.{ℕ, ◌^◌, Result, Ok, Err, List, [], ◌∷◌}
use Rattle.dr_seq.specs.declared.event.Event.{Event}
use Rattle.dr_ring.specs.Calls.Ends.{SenderEnd, ReceiverEnd, HalterEnd}
use Rattle.dr_ring.specs.Calls.Making.{AreFreshEnds}
use Rattle.dr_ring.specs.Calls.Settling.{HasRun}
use Rattle.dr_reports.specs.Passing.{replay_graph}
use Rattle.dr_replay.specs.Calls.Workers.{AreThrough, IsFirstOf, IsRun, endings_of, ends_of}
use Rattle.dr_files.specs.declared.fault.FileFault.TheVariants as file
use Rattle.dr_replay.specs.declared.ring.Returned.{Returned}
use Rattle.dr_replay.specs.declared.fault.ReplayFault.{ReplayFault}
use Rattle.dr_replay.specs.declared.fault.ReplayFault.TheVariants as fault

-- a run of the sender and the three handlers' workers over a new ring of so many slots, each of which came to its gate with each claim or batch
pub record RunOver (may_stop must_stop : ℕ → ℕ → Type 0) (size : ℕ) (events : List Event) : Type 0 where
  pub sender : SenderEnd
  pub journal : ReceiverEnd
  pub replica : ReceiverEnd
  pub business : ReceiverEnd
  pub halter : HalterEnd
  pub fresh : AreFreshEnds (record { upstreams = replay_graph; size = size; limit = 2 ^ 62 }) sender (journal ∷ replica ∷ business ∷ []) halter
  pub ran : Returned
  pub run : IsRun may_stop must_stop size events sender journal replica business ran
  -- the ends that came back are those of one run, which the halter never halted
  pub came : HasRun ran.sender (ends_of ran) halter

-- a report, also one whose write failed, comes of a run in which each handler received these events and no worker had a fault,
-- and a worker's fault is the first of those of a run; of a file's other faults and of memory nothing is said
abbrev pub CameOf : {A : Type 0} → (ℕ → ℕ → Type 0) → (ℕ → ℕ → Type 0) → ℕ → Result A ReplayFault → List Event → Type 0
CameOf may_stop must_stop size (Ok done) events = (over : RunOver may_stop must_stop size events) × AreThrough events over.ran
CameOf may_stop must_stop size (Err (fault.Worker who f)) events = (over : RunOver may_stop must_stop size events) × IsFirstOf (endings_of over.ran) (fault.Worker who f)
CameOf may_stop must_stop size (Err (fault.Audit f)) events = ⊥
CameOf may_stop must_stop size (Err (fault.File file.Write)) events = (over : RunOver may_stop must_stop size events) × AreThrough events over.ran
CameOf may_stop must_stop size (Err (fault.File f)) events = Unit {0}
