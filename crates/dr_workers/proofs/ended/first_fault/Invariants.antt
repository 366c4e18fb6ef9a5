use Rattle.std.proofs.Common.{◌≡◌, take}
use Rattle.dr_workers.specs.Meaning.FirstFault.{faults_of, is_memory, is_refused, is_stopped, least}
use Rattle.dr_workers.proofs.ended.first_fault.Given as goal

abbrev pub invariant-loop-worker : goal.invariant-loop-worker
invariant-loop-worker l =
    (l.memory ≡ least (faults_of is_memory (take l.worker-index l.ended)))
    × (l.stopped ≡ least (faults_of is_stopped (take l.worker-index l.ended)))
    × (l.refused ≡ least (faults_of is_refused (take l.worker-index l.ended)))
