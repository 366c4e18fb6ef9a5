use Rattle.std.proofs.Common.{◌≡◌, ◌++◌, map, take, drop}
use Rattle.std.specs.String.{string_bytes}
use Rattle.dr_graph.specs.Meaning.Declaration.{name_faults}
use Rattle.dr_graph.proofs.name.slow_fault.Given as goal

abbrev pub invariant-loop-i : goal.invariant-loop-i
invariant-loop-i l =
    name_faults (map (λ n. string_bytes n) l.declared.keys) (map (λ n. n.now) l.names)
    ≡ name_faults (map (λ n. string_bytes n) l.declared.keys ++ map (λ n. n.now) (take l.i l.names)) (map (λ n. n.now) (drop l.i l.names))
