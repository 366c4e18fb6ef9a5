use Rattle.std.proofs.Common.{rules, ◌≡◌, ◌^◌, ◌<◌, [], length, ap, arith, refl}
use Rattle.dr_ring.specs.declared.record.SenderRecord.{SenderRecord}
use Rattle.dr_workers.specs.Calls.Stops.{MayStop}
use Rattle.dr_replay.specs.Calls.Workers.{Says}
use Rattle.dr_replay.proofs.Endings.{came_of, ends_of_workers}
use Rattle.dr_replay.proofs.Heeding.{run_heeds, where_ok}
use Rattle.dr_replay.proofs.Settled.{AreThree, are_three, run_over, run_says}
use Rattle.dr_replay.proofs.Stopping.{run_served, run_stopped}
use Rattle.dr_replay.proofs.ring.report.Goals as goal

pub returns-in-Ok-ran : goal.returns-in-Ok-ran
unfolding run_over
returns-in-Ok-ran g c =
    let ran = c.in-Ok-ran.ran in
    let is = c.in-Ok-ran.ensures in
    let events = c.args.events.now in
    let made = c.in-Ok.ensures.made in
    let ends = c.three-receivers.result in
    let short : length events < 2 ^ 62 = search rules in
    let three : AreThree ends.0 ends.1 ends.2 = are_three _ _ _ _ ends.0 ends.1 ends.2 c.in_ok-graph.ensures.graph made c.three-receivers.ensures in
    let none : c.in-Ok.sender.knows.sent.published ≡ [] = ap (λ (r : SenderRecord). r.sent.published) made.sender in
    let says : Says events ran = run_says events _ _ _ _ ran is none three.journal three.replica three.business in
    record {
      text = c.finish.ensures.text events says;
      stops = where_ok c.finish.result (run_heeds _ _ _ events _ _ _ _ ran is three.journal three.replica three.business)
          (c.finish.ensures.received events says);
      first = ends_of_workers (MayStop g.G.Gate.may_stop c.args.gate.now) ran _ (run_stopped (g.G.Gate.may_stop c.args.gate.now) _ _ _ _ _ ran is)
          (run_served _ events _ _ _ _ ran is made.sender refl refl
          (omega arith) three.journal_from three.replica_from three.business_from) c.finish.ensures.unhalted c.finish.ensures.first;
      ran = came_of events ran _ (run_over _ events _ _ _ ends.0 ends.1 ends.2 ran c.in_ok-graph.ensures.graph made c.three-receivers.ensures is)
          (λ run. refl) c.finish.result c.finish.ensures.came (c.finish.ensures.received events says) c.finish.ensures.first;
    }
