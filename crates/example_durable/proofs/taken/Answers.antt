use Rattle.std.proofs.Common.{◌<◌, ◌^◌, arith, sym, ap, ◌∙◌}
use Rattle.dr_disruptor.proofs.Along.{sent_count}
use Rattle.dr_disruptor.specs.declared.way.Way.{Way}
use Rattle.example_durable.proofs.Trading.{fits}
use Rattle.example_durable.proofs.taken.Goals as goal

pub returns : goal.returns
returns g c =
    let ran = c.in_ok-ran.ran in
    let went = c.in_ok-ran.ensures.ran in
    let many = sent_count went in
    let few : ran.settled.published < 2 ^ 64 = omega arith in
    let way = ap (λ (w : Way). w.batch) c.by-way.ensures in
    (_, sym many ∙ sym c.published-sent.ensures, _, fits _ _ _ many few way, went.through.0, went.through.1)
