use Rattle.std.proofs.Common.{drop}
use Rattle.dr_graph.specs.Meaning.Name.{given}
use Rattle.dr_graph.proofs.Adding.{IsAdding}
use Rattle.dr_graph.proofs.name.add_names.Given as goal

abbrev pub invariant-loop-name : goal.invariant-loop-name
invariant-loop-name l = IsAdding l.initial.names.keys l.names.keys (given (drop l.name-index l.more)) (given l.more)
