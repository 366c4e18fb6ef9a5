use Rattle.std.proofs.Common.{◌≡◌, arith}
use Rattle.dr_seq.specs.Slots.{event_at}
use Rattle.dr_core.proofs.Copying.{copy-more}
use Rattle.dr_core.proofs.engine.polling.copy_few.Goals as goal

pub loop-k-preserved : goal.loop-k-preserved
loop-k-preserved g c d =
    copy-more (λ s. event_at d c.args.events.now s) c.args.first c.loop-k.k c.loop-k.out c.args.out.now c.get.result (omega arith) (c.loop-k.invariant d) (c.get.ensures d)

pub returns : goal.returns
returns g c d =
    let all = c.loop-k-test.false in
    let end = c.loop-k.auto.k-end in
    let same : c.loop-k.k ≡ c.args.count = omega arith in
    rw same at (c.loop-k.invariant d)
