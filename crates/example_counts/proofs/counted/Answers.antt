use Rattle.std.proofs.Common.{◌<◌, ◌^◌, arith, sym, ◌∙◌}
use Rattle.dr_disruptor.proofs.Along.{sent_count}
use Rattle.example_counts.proofs.Counting.{all_counted}
use Rattle.example_counts.proofs.counted.Goals as goal

pub returns : goal.returns
returns g c =
    let ran = c.in_ok-ran.ran in
    let went = c.in_ok-ran.ensures.ran in
    let few : ran.settled.published < 2 ^ 64 = omega arith in (
      all_counted _ _ _ _ went.through.0 c.default.ensures _ (sent_count went) few ∙ sym c.published.ensures,
      all_counted _ _ _ _ went.through.1 c.default-2.ensures _ (sent_count went) few ∙ sym c.published.ensures,
    )
