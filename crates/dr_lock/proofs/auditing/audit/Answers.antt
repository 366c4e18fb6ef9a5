use Rattle.std.proofs.Common.{◌≡◌, ◌≤◌, ◌<◌, ℕ, length, ap, ◌∙◌, arith}
use Rattle.std.proofs.lemmas.List.{length-map}
use Rattle.std.proofs.lemmas.Result.{err_from_is_err_and}
use Rattle.dr_meaning.specs.Meaning.Machine.{handlers, producers}
use Rattle.dr_lock.specs.Meaning.History.{IsRecorded, transcript}
use Rattle.dr_lock.specs.Inside.Sequences.{Lists, published_of}
use Rattle.dr_lock.specs.Meaning.Audit.{Faults, scripts_of}
use Rattle.dr_lock.specs.Inside.Auditing.{Differs, SentIn}
use Rattle.dr_lock.proofs.Findings.{IsChecked, lists_of, followed, scripts_fault, drained_fault, audited}
use Rattle.dr_lock.proofs.auditing.audit.Goals as goal
use Rattle.dr_lock.proofs.auditing.audit.Given.{Over}
use Rattle.dr_lock.proofs.auditing.audit.Goals.{After-len}

pub sequences-requires : goal.sequences-requires
sequences-requires g c =
    let k = c.args.recorded.now.history in
    let r : IsRecorded k = c.history.ensures.recorded in
    (k.core.setup, r.runs.state, followed k r _ c.history.ensures.entries)

pub returns-in_err-check_scripts-clause-fault : goal.returns-in_err-check_scripts-clause-fault
returns-in_err-check_scripts-clause-fault g c =
    let k = c.args.recorded.now.history in
    let r : IsRecorded k = c.history.ensures.recorded in
    let list = c.in_ok-list.list.items in
    let scripts = scripts_of c.args.scripts.now in
    let lists : Lists list r.runs.state = lists_of k r _ c.history.ensures.entries list c.in_ok-list.ensures in
    let d : Differs list scripts c.in_err-check_scripts.field-0.0 = rw (c.deref.ensures.value) at c.in_err-check_scripts.ensures.fault in
    let f : Faults (transcript k) (handlers k.core.setup) scripts c.in_err-check_scripts.field-0.0 =
    scripts_fault c.every_transcript_tells_its_state.ensures k r list lists scripts c.in_err-check_scripts.field-0.0 d in
    let p = err_from_is_err_and c.from_residual-in_err-check_scripts.result c.from_residual-in_err-check_scripts.ensures.1 in
    rw (p.1, p.2) f

-- the scripts were found sent
checked : (g : Over) (c : After-len g) → IsChecked c.args.recorded.now.history c.history.ensures.recorded (scripts_of c.args.scripts.now) c.in_ok-all.all.items
checked g c =
    let k = c.args.recorded.now.history in
    let scripts = scripts_of c.args.scripts.now in
    let long : length scripts ≡ length c.args.scripts.now = length-map c.args.scripts.now (λ s. s.now) in
    let few : producers k.core.setup.mode ≤ c.max-producers.result = omega (arith, c.max-producers.ensures, c.producers.ensures) in
    let short : length scripts ≤ c.max-producers.result = omega (arith, c.max-producers.ensures, long) in
    let same : (p : ℕ) → p < c.max-producers.result → SentIn c.in_ok-list.list.items scripts p = rw (c.deref.ensures.value) at c.in_ok-check_scripts.ensures.same in
    record {
      list = c.in_ok-list.list.items;
      lists = lists_of k c.history.ensures.recorded _ c.history.ensures.entries c.in_ok-list.list.items c.in_ok-list.ensures;
      bound = c.max-producers.result;
      few = few;
      short = short;
      same = same;
      published = c.in_ok-all.ensures ∙ ap published_of c.deref-2.ensures.value;
    }

counted : (g : Over) (c : After-len g) → c.len.result ≡ length c.in_ok-all.all.items
counted g c = c.len.ensures ∙ c.in_ok-all.all.ok.0

pub returns-in_err-check_drained-clause-fault : goal.returns-in_err-check_drained-clause-fault
returns-in_err-check_drained-clause-fault g c =
    let k = c.args.recorded.now.history in
    let at : After-len g = (goal.at.returns-in_err-check_drained-clause-fault g c).After-len in
    let f : Faults (transcript k) (handlers k.core.setup) (scripts_of c.args.scripts.now) c.in_err-check_drained.field-0.0 =
    drained_fault c.every_transcript_tells_its_state.ensures k c.history.ensures.recorded _ _ (checked g at) c.len.result (counted g at)
    c.in_err-check_drained.field-0.0 c.in_err-check_drained.ensures.fault in
    let p = err_from_is_err_and c.from_residual-in_err-check_drained.result c.from_residual-in_err-check_drained.ensures.1 in
    rw (p.1, p.2) f

pub returns-clause-list : goal.returns-clause-list
returns-clause-list g c =
    let at : After-len g = (goal.at.returns-clause-list g c).After-len in
    audited c.every_transcript_tells_its_state.ensures c.args.recorded.now.history c.history.ensures.recorded _ _ (checked g at) c.len.result (counted g at) c.in_ok-check_drained.ensures.drained
