use Rattle.std.specs.Prelude.{◌≡◌, ◌+◌, ◌*◌, ◌≤◌, sum_by, vec_len}
use Rattle.dr_lock.specs.Inside.Weights.{most_calls, weight}
use Rattle.dr_lock.proofs.shared.finish.Given as goal

abbrev pub invariant-loop-end : goal.invariant-loop-end
invariant-loop-end g l = record {
  parts : l.all.parts + l.fn.shared.given + vec_len l.ends ≡ 65 + vec_len l.fn.ends;
  few : l.all.parts ≤ 65;
  amount : l.all.amount + weight (sum_by (λ end. end.calls) l.ends.items) (sum_by (λ end. end.halts) l.ends.items) ≡ weight (sum_by (λ end. end.calls) l.fn.ends.items) (sum_by (λ end. end.halts) l.fn.ends.items);
  small : sum_by (λ end. end.calls) l.fn.ends.items + most_calls * vec_len l.ends ≤ sum_by (λ end. end.calls) l.ends.items + most_calls * vec_len l.fn.ends;
}

abbrev pub decreases-loop-end : goal.decreases-loop-end
decreases-loop-end g l = vec_len l.ends
