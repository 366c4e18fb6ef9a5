-- The name of each cause by which a record is at fault.
use Rattle.std.specs.Prelude.{ℕ, List, codes}
use Rattle.dr_graph.specs.Calls.Fault.{fault_name}
use Rattle.dr_meaning.specs.Calls.OpenFault.{name_of}
use Rattle.dr_meaning.specs.declared.open_fault.OpenFault.TheVariants as opening
use Rattle.dr_drive.specs.declared.fault.Cause.{Cause}
use Rattle.dr_drive.specs.declared.fault.Cause.TheVariants.{NoRing, BadRecord, BadSize, BadProducers, BadLimit, NoGroup, Graph, NoStart}

abbrev pub cause_name : Cause → List ℕ
cause_name NoRing = codes "no ring"
cause_name BadRecord = codes "bad record"
cause_name BadSize = codes "bad-size"
cause_name BadProducers = name_of opening.BadProducers
cause_name BadLimit = name_of opening.BadLimit
cause_name NoGroup = codes "no group"
cause_name (Graph fault) = fault_name fault
cause_name NoStart = codes "no start"
