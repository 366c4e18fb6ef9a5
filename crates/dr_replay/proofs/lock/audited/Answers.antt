use Rattle.std.proofs.Common.{◌∙◌, ap, rules}
use Rattle.dr_lock.specs.Meaning.Audit.{scripts_of}
use Rattle.dr_replay.proofs.Endings.{audit_finds, reports}
use Rattle.dr_replay.proofs.lock.audited.Goals as goal

pub returns-in-Err : goal.returns-in-Err
returns-in-Err c =
    let same = ap scripts_of c.as_slice.ensures.value ∙ c.in_ok-views.ensures in
    record {
      text = λ events are. tt;
      fault = rw c.audit_fault.ensures (audit_finds c.args.recorded.now.history _ _ c.in-Err.found same c.in-Err.ensures.fault);
    }

pub returns-clause-text : goal.returns-clause-text
returns-clause-text c =
    λ sent are.
    let same = ap scripts_of c.as_slice.ensures.value ∙ c.in_ok-views.ensures ∙ are in
    reports c.args.recorded.now.history _ sent _ _ same c.in-Ok.ensures.list (search rules)
