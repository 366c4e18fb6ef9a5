use Rattle.std.proofs.Common.{Err, Ok, IfOk, IfSome, refl}
use Rattle.std.proofs.lemmas.Result.{err_from_is_err_and}
use Rattle.dr_accounts.specs.Parts.{text_of}
use Rattle.dr_files.specs.Counting.{inner_of}
use Rattle.dr_files.specs.declared.fault.FileFault.TheVariants as file
use Rattle.dr_operations.specs.EventFile.{events_of}
use Rattle.dr_replay.specs.Calls.Replayed.{LockWrites}
use Rattle.dr_replay.specs.declared.fault.ReplayFault.TheVariants as fault
use Rattle.dr_replay.specs.Calls.LockRuns.{LockRan}
use Rattle.dr_replay.proofs.LockRuns.{wrote_all, wrote_none, wrote_some}
use Rattle.dr_replay.proofs.Reporting.{at_exit, cut_merge, kept_merge, of_file}
use Rattle.dr_replay.proofs.lock.replay_lock.Goals as goal
use Rattle.dr_workers.specs.Calls.Stops.{MayStop}

pub returns-in_err-write_report-clause-bytes : goal.returns-in_err-write_report-clause-bytes
returns-in_err-write_report-clause-bytes g c =
    let input = g.R.Read.remaining (inner_of c.args.reader.now) in
    let old = g.W.Write.contents (inner_of c.args.writer.now) in
    let new = g.W.Write.contents (inner_of c.write_report.new.writer) in
    at_exit c.from_residual-in_err-write_report.result (fault.File file.Write)
    (λ r. IfSome input (λ bytes. LockWrites (MayStop g.G.Gate.may_stop c.args.gate.now) c.args.size r old new (events_of bytes)))
    c.from_residual-in_err-write_report.ensures.1
    (cut_merge c.args.size old new input c.in_ok-events.events.items (text_of c.in_ok-report.report) c.in_ok-events.ensures.file
    c.in_ok-report.ensures.text c.in_err-write_report.ensures.0)

pub returns-in_err-report-clause-bytes : goal.returns-in_err-report-clause-bytes
returns-in_err-report-clause-bytes g c =
    let p = err_from_is_err_and c.from_residual-in_err-report.result c.from_residual-in_err-report.ensures.1 in
    rw (p.1, p.2) (kept_merge (MayStop g.G.Gate.may_stop c.args.gate.now) c.args.size (g.W.Write.contents (inner_of c.args.writer.now))
    (g.R.Read.remaining (inner_of c.args.reader.now)) c.in_ok-events.events.items c.in_ok-events.events.items c.in_err-report.field-0.0
    refl c.in_ok-events.ensures.file c.in_err-report.ensures.first)

pub returns-clause-ran : goal.returns-clause-ran
returns-clause-ran g c =
    let gate = c.args.gate.now in
    let may = g.G.Gate.may_stop gate in
    let must = g.G.Gate.must_stop gate in
    let old = g.W.Write.contents (inner_of c.args.writer.now) in
    let new = g.W.Write.contents (inner_of c.write_report.new.writer) in
    of_file (LockRan may must c.args.size old new (Ok tt)) (g.R.Read.remaining (inner_of c.args.reader.now)) c.in_ok-events.events.items c.in_ok-events.events.items
    refl c.in_ok-events.ensures.file
    (wrote_all may must c.args.size text_of old new c.in_ok-events.events.items c.in_ok-report.report
    c.in_ok-write_report.ensures.0 c.in_ok-report.ensures.ran)

pub returns-in_err-write_report-clause-ran : goal.returns-in_err-write_report-clause-ran
returns-in_err-write_report-clause-ran g c =
    let gate = c.args.gate.now in
    let may = g.G.Gate.may_stop gate in
    let must = g.G.Gate.must_stop gate in
    let input = g.R.Read.remaining (inner_of c.args.reader.now) in
    let old = g.W.Write.contents (inner_of c.args.writer.now) in
    let new = g.W.Write.contents (inner_of c.write_report.new.writer) in
    at_exit c.from_residual-in_err-write_report.result (fault.File file.Write)
    (λ r. IfSome input (λ bytes. IfOk (events_of bytes) (LockRan may must c.args.size old new r)))
    c.from_residual-in_err-write_report.ensures.1
    (of_file (LockRan may must c.args.size old new (Err (fault.File file.Write))) input c.in_ok-events.events.items c.in_ok-events.events.items
    refl c.in_ok-events.ensures.file
    (wrote_some may must c.args.size text_of old new c.in_ok-events.events.items c.in_ok-report.report
    c.in_err-write_report.ensures.0 c.in_ok-report.ensures.ran))

pub returns-in_err-report-clause-ran : goal.returns-in_err-report-clause-ran
returns-in_err-report-clause-ran g c =
    let p = err_from_is_err_and c.from_residual-in_err-report.result c.from_residual-in_err-report.ensures.1 in
    let gate = c.args.gate.now in
    let may = g.G.Gate.may_stop gate in
    let must = g.G.Gate.must_stop gate in
    let old = g.W.Write.contents (inner_of c.args.writer.now) in
    rw (p.1, p.2) (of_file (LockRan may must c.args.size old old (Err c.in_err-report.field-0.0)) (g.R.Read.remaining (inner_of c.args.reader.now))
    c.in_ok-events.events.items c.in_ok-events.events.items refl c.in_ok-events.ensures.file
    (wrote_none may must c.args.size text_of old old c.in_ok-events.events.items c.in_err-report.field-0.0 c.in_err-report.ensures.ran))
