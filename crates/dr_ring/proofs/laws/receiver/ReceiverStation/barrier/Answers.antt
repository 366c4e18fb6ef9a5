use Rattle.std.proofs.Common.{rules, ℕ, List, arith, ◌∙◌, sym, ap, length, get_or}
use Rattle.dr_runs.proofs.Stations.{loaded_more}
use Rattle.dr_ring.proofs.Rounds.{round_more, round_all}
use Rattle.dr_ring.proofs.laws.receiver.ReceiverStation.barrier.Goals as goal

pub loop-place-preserved : goal.loop-place-preserved
loop-place-preserved c =
    let inv = c.loop-place.invariant in let look = c.look_at_count-count.ensures in (
      loaded_more c.args.self.now _ _ _ inv.0 look.step,
      search rules,
      round_more _ _ _ _ c.args.cursor c.loop-place.available _ c.loop-place.place _ c.look_at_count-count.result inv.2
          (let lt = c.loop-place-test.true in let same = ap length c.upstreams-place-end.ensures in omega arith)
          (ap (λ (xs : List ℕ). get_or xs c.loop-place.place 0) (sym (c.upstreams.ensures ∙ inv.1)))
          look.step.1 look.finds.1 look.finds.2 c.lesser-available.ensures,
    )

pub returns-clause-answer : goal.returns-clause-answer
returns-clause-answer c =
    round_all _ _ c.args.cursor c.loop-place.available c.loop-place.place c.loop-place.invariant.2
    (let same = ap length c.upstreams-place-end.ensures in search rules)
