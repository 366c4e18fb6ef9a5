use Rattle.std.proofs.Common.{◌≡◌, map}
use Rattle.std.specs.List.{range_with_len}
use Rattle.dr_replay.specs.Meaning.Scripts.{script_in}
use Rattle.dr_replay.proofs.scripts.scripts.Given as goal

abbrev pub invariant-loop-p : goal.invariant-loop-p
invariant-loop-p l = map (λ v. v.items) l.all.items ≡ map (script_in l.fn.events.items) (range_with_len 0 l.p)
