use Rattle.dr_journal.specs.Calls.Writers.{writer_of}
use Rattle.dr_durable.proofs.Stored.{run_had_stored, run_stored}
use Rattle.dr_durable.proofs.what_a_run_stores.Goals as goal

pub returns-clause-all : goal.returns-clause-all
returns-clause-all g c most start after events went fresh none =
    let d = g.D.Device in
    let e = g.E.AsRecord in
    run_stored d.seen d.may_leave d.moment d.left_since d.faults writer_of (λ event. e.record_of (e.value event)) _ (λ old new event s end goes. goes.0)
    e.value e.value_in (λ old new event s end goes. goes.1) most start after events went fresh none

pub returns-clause-at_each_completion : goal.returns-clause-at_each_completion
returns-clause-at_each_completion g c most start after events went few fresh front rest are =
    let d = g.D.Device in
    let e = g.E.AsRecord in
    run_had_stored d.seen d.may_leave d.moment d.left_since d.faults writer_of (λ event. e.record_of (e.value event)) _ (λ old new event s end goes. goes.0)
    g.met.D.Device.only_now most start after events went few fresh front rest are
