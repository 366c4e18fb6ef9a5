use Rattle.dr_replay.specs.declared.given_back.Delivered.{Delivered}
use Rattle.dr_replay.proofs.Scripting.{moved}
use Rattle.dr_replay.proofs.lock.gathered.Goals as goal

pub loop-producer-preserved : goal.loop-producer-preserved
loop-producer-preserved g c =
    let was = c.loop-producer.invariant in
    let taken = c.in-Some.ensures.steps.0 in (
      moved (λ (s : Delivered g.row.L.Denot). s.end) c.loop-producer.ends.items c.push.new.self.items _ _ _ _ was.0 c.in_ok-push.ensures.items taken,
      moved (λ (s : Delivered g.row.L.Denot). s.fault) _ _ _ _ _ _ was.1 c.in_ok-push-2.ensures.items taken,
    )
