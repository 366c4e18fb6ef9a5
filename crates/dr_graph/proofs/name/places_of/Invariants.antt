use Rattle.std.proofs.Common.{◌≡◌, map, take}
use Rattle.dr_graph.specs.Meaning.Name.{texts, index_of}
use Rattle.dr_graph.proofs.name.places_of.Given as goal

abbrev pub invariant-loop-name : goal.invariant-loop-name
invariant-loop-name l = l.places.items ≡ map (index_of (texts l.declared.keys)) (texts (take l.name-index l.group))
