-- Nobody is stuck in a state that a core shows, and what it sees settles what it answers.
use Rattle.std.proofs.Common.{◌≡◌, List, sym, ◌∙◌}
use Rattle.dr_meaning.specs.declared.command.Command.{Command}
use Rattle.dr_meaning.specs.declared.command.Reply.{Reply}
use Rattle.dr_meaning.specs.Meaning.Machine.{State}
use Rattle.dr_core.specs.Calls.Reached.{IsReached}
use Rattle.dr_core.specs.Calls.CoreView.{CoreView}
use Rattle.dr_core.specs.Calls.Shows.{Shows, IsStep}
use Rattle.dr_core.specs.Calls.Going.{IsNeverStuck}
use Rattle.dr_core.specs.Inside.Fields.{IsWhole}
use Rattle.dr_meaning.proofs.Progress.{nobody_is_stuck}
use Rattle.dr_meaning.proofs.Finishing.{can_finish}

pub never_stuck : {E : Type 0} (v : CoreView E) → IsWhole v → IsNeverStuck v
never_stuck v whole =
    let reached : IsReached v = whole.reached in
    record {
      transcript = reached.transcript;
      state = reached.runs.state;
      leads = reached.runs.leads;
      shows = reached.runs.shows;
      going = nobody_is_stuck v.setup reached.transcript reached.runs.state whole.graph reached.runs.leads;
      finishes = λ event. can_finish event v.setup reached.transcript reached.runs.state whole.graph.layered reached.runs.leads;
    }

pub settled : {E : Type 0} (v new other : CoreView E) (command : Command E) (r s : Reply) (xs ys : List E) → IsReached v → IsStep v command r xs new
    → IsStep v command s ys other → (r ≡ s) × (xs ≡ ys)
settled {E} v new other command r s xs ys reached one two =
    let m : State E = reached.runs.state in
    let sh : Shows v m = reached.runs.shows in
    (sym (one.replies m sh) ∙ two.replies m sh, sym (one.hands_out m sh) ∙ two.hands_out m sh)
