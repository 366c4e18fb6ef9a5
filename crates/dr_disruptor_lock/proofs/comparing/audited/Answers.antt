use Rattle.std.proofs.Common.{◌∙◌, List, ap, subst}
use Rattle.std.specs.Prelude.{IfErr, IfOk}
use Rattle.dr_seq.specs.declared.event.Event.{Event}
use Rattle.dr_meaning.specs.Meaning.Machine.{handlers}
use Rattle.dr_lock.specs.Meaning.Audit.{Faults, IsAudited, scripts_of}
use Rattle.dr_lock.specs.Meaning.History.{transcript}
use Rattle.dr_disruptor_lock.proofs.comparing.audited.Goals as goal

pub returns : goal.returns
returns c =
    let h = c.args.recorded.now.history in
    let same = ap scripts_of c.as_slice.ensures.value ∙ c.in_ok-views.ensures in
    record {
      list = subst (λ (l : List (List Event)). IfOk c.audit.result (λ list. IsAudited (transcript h) (handlers h.core.setup) l list.items)) same c.audit.ensures.list;
      fault = subst (λ (l : List (List Event)). IfErr c.audit.result (Faults (transcript h) (handlers h.core.setup) l)) same c.audit.ensures.fault;
    }
