-- The faults of declaring and building a graph: each has a number and a name of its own.
use Rattle.std.specs.Prelude.{ℕ, List, codes}
use Rattle.dr_graph.specs.declared.fault.GraphFault.{GraphFault}
use Rattle.dr_graph.specs.declared.fault.GraphFault.TheVariants.{BadName, Duplicate, Stranger, Cycle, TooMany, NoHandlers, EmptyGroup, NoMemory}

abbrev pub fault_number : GraphFault → ℕ
fault_number BadName = 21
fault_number Duplicate = 22
fault_number Stranger = 23
fault_number Cycle = 24
fault_number TooMany = 25
fault_number NoHandlers = 26
fault_number EmptyGroup = 27
fault_number NoMemory = 40

abbrev pub fault_name : GraphFault → List ℕ
fault_name BadName = codes "bad-name"
fault_name Duplicate = codes "duplicate"
fault_name Stranger = codes "stranger"
fault_name Cycle = codes "cycle"
fault_name TooMany = codes "too-many"
fault_name NoHandlers = codes "no-handlers"
fault_name EmptyGroup = codes "empty-group"
fault_name NoMemory = codes "no-memory"
