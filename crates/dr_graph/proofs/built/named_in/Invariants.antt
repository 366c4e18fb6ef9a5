use Rattle.std.proofs.Common.{◌≡◌, take}
use Rattle.dr_graph.specs.Meaning.Name.{texts}
use Rattle.dr_graph.specs.Meaning.Graph.{names_in}
use Rattle.dr_graph.proofs.built.named_in.Given as goal

abbrev pub invariant-loop-h : goal.invariant-loop-h
invariant-loop-h l = texts l.names.items ≡ names_in (texts l.declared) (take l.h-index l.order)
