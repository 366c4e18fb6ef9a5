use Rattle.std.proofs.Common.{rules, ◌≡◌, ◌+◌, ◌∙◌, length, ap}
use Rattle.std.proofs.lemmas.List.{length_push}
use Rattle.dr_disruptor_lock.specs.declared.jobs.Job.{Job}
use Rattle.dr_disruptor_lock.specs.Jobs.{IsJobOf}
use Rattle.dr_disruptor_lock.proofs.Listing.{each_more, moved}
use Rattle.dr_disruptor_lock.proofs.jobs.jobs_of.Goals as goal

pub loop-handler-preserved : goal.loop-handler-preserved
loop-handler-preserved g c =
    let was = c.loop-handler.invariant in
    let pushed = c.in_ok-push.ensures.items in
    let taken = c.in-Some.ensures.steps.0 in
    let job : Job g.row.L.Denot g.row.H.Denot = record { who = c.len-who.result; end = c.in_ok-end.end; watching = c.in_ok-watching.watching } in
    let long : length c.push.new.self.items ≡ length c.loop-handler.jobs.items + 1 = ap length pushed ∙ length_push c.loop-handler.jobs.items job in
    let given = c.in_ok-end.ensures.given in
    let new = c.in_ok-watching.ensures.new in
    let who : c.len-who.result ≡ length c.loop-handler.jobs.items = search rules in (
      moved (λ (j : Job g.row.L.Denot g.row.H.Denot). j.watching.handler) _ _ job c.in-Some.handler _ _ _ was.0 pushed new.0 taken,
      search rules,
      search rules,
      each_more (IsJobOf c.args.room) _ _ job pushed was.3 (who, c.in_ok-end.ensures.unused, search rules, c.in_ok-watching.ensures.room),
    )
