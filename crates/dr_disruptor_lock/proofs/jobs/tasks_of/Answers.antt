use Rattle.std.proofs.Common.{rules, ◌≡◌, ◌+◌, ◌∙◌, length, ap, arith, refl}
use Rattle.std.proofs.lemmas.List.{length_push}
use Rattle.dr_disruptor_lock.specs.declared.jobs.Task.{Task}
use Rattle.dr_disruptor_lock.specs.Jobs.{IsTaskOf}
use Rattle.dr_disruptor_lock.proofs.Listing.{each_more, moved}
use Rattle.dr_disruptor_lock.proofs.jobs.tasks_of.Goals as goal

pub loop-script-preserved : goal.loop-script-preserved
loop-script-preserved g c =
    let was = c.loop-script.invariant in
    let pushed = c.in_ok-push.ensures.items in
    let taken = c.in-Some.ensures.steps.0 in
    let task : Task g.row.L.Denot = record { who = 16 + c.len-at.result; p = c.len-at.result; end = c.in_ok-end.end; script = c.in-Some.script } in
    let long : length c.push.new.self.items ≡ length c.loop-script.tasks.items + 1 = ap length pushed ∙ length_push c.loop-script.tasks.items task in
    let short = ap length taken in
    let given = c.in_ok-end.ensures.given in
    let p : c.len-at.result ≡ length c.loop-script.tasks.items = search rules in (
      moved (λ (t : Task g.row.L.Denot). t.script) _ _ task c.in-Some.script _ _ _ was.0 pushed refl taken,
      omega arith,
      search rules,
      search rules,
      each_more IsTaskOf _ _ task pushed was.4 (p, c.in_ok-end.ensures.unused),
    )
