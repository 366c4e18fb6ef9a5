-- The numbers and names of workers' faults.
use Rattle.std.specs.Prelude.{ℕ, List, codes}
use Rattle.dr_workers.specs.declared.fault.WorkFault.{WorkFault}
use Rattle.dr_workers.specs.declared.fault.WorkFault.TheVariants.{Refused, Memory, Stopped}

abbrev pub number_of : WorkFault → ℕ
number_of (Refused refusal) = 53
number_of Memory = 40
number_of Stopped = 54

abbrev pub name_of : WorkFault → List ℕ
name_of (Refused refusal) = codes "worker-refused"
name_of Memory = codes "no-memory"
name_of Stopped = codes "stopped"
