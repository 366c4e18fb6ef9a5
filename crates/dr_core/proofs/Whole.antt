-- What holds of every core: it is reached, so that its counts are those of a state that some transcript leads to.
use Rattle.std.proofs.Common.{◌≡◌, ◌≤◌, ◌∙◌, List, ap, sym, subst, length}
use Rattle.dr_meaning.specs.declared.command.Command.{Command}
use Rattle.dr_meaning.specs.declared.command.Reply.{Reply}
use Rattle.dr_meaning.specs.Meaning.Machine.{State, handlers, next, front}
use Rattle.dr_core.specs.Calls.CoreView.{CoreView}
use Rattle.dr_core.specs.Calls.Shows.{Counts, Flags, Shows, IsStep}
use Rattle.dr_core.specs.Calls.Reached.{RunsTo, IsReached}
use Rattle.dr_meaning.specs.Meaning.Counts.{IsSetup, AreInOrder, AreInBounds}
use Rattle.dr_core.specs.Inside.Fields.{IsWhole}
use Rattle.dr_meaning.proofs.Leasts.{least_is}
use Rattle.dr_meaning.proofs.Sound.{IsSound}
use Rattle.dr_meaning.proofs.FiveLaws.{reached}
use Rattle.dr_meaning.proofs.Bounds.{IsBounded, bounded}
use Rattle.dr_core.proofs.Running.{step_reached}
use Rattle.dr_core.proofs.Shown.{same_next, same_front}

pub reached_whole : {E : Type 0} (v : CoreView E) → IsSetup v.setup → length v.retired ≡ handlers v.setup → IsReached v → IsWhole v
reached_whole {E} v setup retired is =
    let runs : RunsTo v.setup is.transcript v = is.runs in
    let m : State E = runs.state in
    let sh : Shows v m = runs.shows in
    let sound : IsSound v.setup m = (reached v.setup is.transcript m runs.leads).sound in
    let bounds : IsBounded v.setup m = bounded v.setup is.transcript m setup.graph runs.leads in
    let front : front m ≤ next m = (least_is m.published (next m)).within in
    record {
      setup = setup;
      retired = retired;
      reached = is;
      front = rw (same_front sh, same_next sh) at front;
      order = subst (λ (n : Counts). AreInOrder v.setup n.front n.taken n.completed) sh.counts sound.order;
      bounds = subst (λ (f : Flags). AreInBounds v.setup v.next v.completed f.retired) sh.flags
          (subst (λ (n : Counts). AreInBounds v.setup n.next n.completed m.retired) sh.counts bounds);
    }

-- so each step of a core leaves it whole
pub step_whole : {E : Type 0} {old new : (CoreView E)} {command : (Command E)} {reply : Reply} {values : List E} → IsStep old command reply values new
    → length new.retired ≡ length old.retired → IsWhole old → IsWhole new
step_whole {old = old} {new = new} is same whole =
    reached_whole new (subst IsSetup (sym is.same_setup) whole.setup) (same ∙ whole.retired ∙ ap handlers (sym is.same_setup)) (step_reached is whole.reached)
