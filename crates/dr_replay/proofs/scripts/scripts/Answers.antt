use Rattle.std.proofs.Common.{refl, ap, ◌∙◌, ◌+◌}
use Rattle.dr_replay.specs.Meaning.Scripts.{script_in}
use Rattle.dr_replay.proofs.Scripting.{listed_more}
use Rattle.dr_replay.proofs.scripts.scripts.Goals as goal

pub loop-p-preserved : goal.loop-p-preserved
loop-p-preserved c =
    let script = c.in_ok-script_of.ensures ∙ ap (λ l. script_in l c.loop-p.p) c.deref-in-loop-p.ensures.value in
    listed_more (script_in c.args.events.items) (λ v. v.items) c.loop-p.all.items c.push.new.self.items c.in_ok-script_of.field-0 c.loop-p.p
    (c.loop-p.p + 1) c.loop-p.invariant c.in_ok-push.ensures.items script refl
