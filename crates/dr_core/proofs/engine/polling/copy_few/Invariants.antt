use Rattle.std.proofs.Common.{◌≡◌, ◌++◌, map, drop}
use Rattle.std.specs.List.{range_with_len}
use Rattle.dr_seq.specs.Slots.{event_at}
use Rattle.dr_core.proofs.engine.polling.copy_few.Given as goal

abbrev pub invariant-loop-k : goal.invariant-loop-k
invariant-loop-k g l = (d : g.row.E.Denot) → l.out ≡ map (λ s. event_at d l.events s) (range_with_len l.first l.k) ++ drop l.k l.fn.out
