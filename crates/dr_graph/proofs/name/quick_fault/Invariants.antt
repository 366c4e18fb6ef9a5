use Rattle.std.proofs.Common.{◌≡◌, ◌++◌, take, drop}
use Rattle.dr_graph.specs.Meaning.Declaration.{name_faults}
use Rattle.dr_graph.specs.Meaning.Name.{texts, given}
use Rattle.dr_graph.proofs.name.quick_fault.Given as goal

abbrev pub invariant-loop-name : goal.invariant-loop-name
invariant-loop-name l = record {
  seen : texts l.seen.keys ≡ given (take l.name-index l.names);
  so_far :
      name_faults (texts l.declared.keys) (given l.names)
      ≡ name_faults (texts l.declared.keys ++ given (take l.name-index l.names)) (given (drop l.name-index l.names));
}
