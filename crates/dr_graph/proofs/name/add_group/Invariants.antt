use Rattle.std.proofs.Common.{drop}
use Rattle.dr_graph.specs.Meaning.Name.{texts}
use Rattle.dr_graph.proofs.Adding.{IsAdding}
use Rattle.dr_graph.proofs.name.add_group.Given as goal

abbrev pub invariant-loop-name : goal.invariant-loop-name
invariant-loop-name l = IsAdding l.initial.names.keys l.names.keys (texts (drop l.name-index l.group)) (texts l.group)
