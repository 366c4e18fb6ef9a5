use Rattle.std.proofs.Common.{Err, IfOk, IfSome, Ok, ap, ◌∙◌}
use Rattle.std.proofs.lemmas.Result.{err_from_is_err_and}
use Rattle.dr_accounts.specs.Parts.{text_of}
use Rattle.dr_accounts.specs.Report.{report_of}
use Rattle.dr_accounts.specs.declared.report.Report.{Report}
use Rattle.dr_files.specs.Counting.{inner_of}
use Rattle.dr_files.specs.declared.fault.FileFault.TheVariants as file
use Rattle.dr_accounts.specs.ReplayText.{replay_text}
use Rattle.dr_replay.specs.Calls.Replayed.{ReplayWrites}
use Rattle.dr_replay.specs.Calls.RingRuns.{CameOf}
use Rattle.dr_operations.specs.EventFile.{events_of}
use Rattle.dr_replay.specs.declared.fault.ReplayFault.TheVariants as fault
use Rattle.dr_replay.proofs.Endings.{came_at_fault}
use Rattle.dr_replay.proofs.Reporting.{all_kept, at_exit, cut_report, of_file}
use Rattle.dr_replay.proofs.ring.replay_ring.Goals as goal

pub returns-in_err-write_report-clause-bytes : goal.returns-in_err-write_report-clause-bytes
returns-in_err-write_report-clause-bytes g c =
    let input = g.R.Read.remaining (inner_of c.args.reader.now) in
    let old = g.W.Write.contents (inner_of c.args.writer.now) in
    let new = g.W.Write.contents (inner_of c.write_report.new.writer) in
    let same = c.in_ok-report.ensures.text ∙ ap report_of c.as_slice.ensures.value in
    at_exit c.from_residual-in_err-write_report.result (fault.File file.Write)
    (λ r. IfSome input (λ bytes. ReplayWrites r old new (replay_text bytes)))
    c.from_residual-in_err-write_report.ensures.1
    (cut_report old new input c.in_ok-events.events.items (text_of c.in_ok-report.report) c.in_ok-events.ensures.file same c.in_err-write_report.ensures.0)

pub returns-clause-ran : goal.returns-clause-ran
returns-clause-ran g c =
    let gate = c.args.gate.now in
    of_file (CameOf {A = Unit {0}} (g.G.Gate.may_stop gate) (g.G.Gate.must_stop gate) c.args.size (Ok tt))
    (g.R.Read.remaining (inner_of c.args.reader.now)) c.as_slice.result.now c.in_ok-events.events.items c.as_slice.ensures.value
    c.in_ok-events.ensures.file c.in_ok-report.ensures.ran

pub returns-in_err-write_report-clause-ran : goal.returns-in_err-write_report-clause-ran
returns-in_err-write_report-clause-ran g c =
    let gate = c.args.gate.now in
    let input = g.R.Read.remaining (inner_of c.args.reader.now) in
    let may = g.G.Gate.may_stop gate in
    let must = g.G.Gate.must_stop gate in
    at_exit c.from_residual-in_err-write_report.result (fault.File file.Write)
    (λ r. IfSome input (λ bytes. IfOk (events_of bytes) (CameOf may must c.args.size r)))
    c.from_residual-in_err-write_report.ensures.1
    (of_file (CameOf {A = Unit {0}} may must c.args.size (Err (fault.File file.Write))) input c.as_slice.result.now c.in_ok-events.events.items
    c.as_slice.ensures.value c.in_ok-events.ensures.file c.in_ok-report.ensures.ran)

pub returns-in_err-report-clause-unwritten : goal.returns-in_err-report-clause-unwritten
returns-in_err-report-clause-unwritten g c =
    let p = err_from_is_err_and c.from_residual-in_err-report.result c.from_residual-in_err-report.ensures.1 in
    rw (p.1, p.2) (all_kept (g.W.Write.contents (inner_of c.args.writer.now)) c.in_err-report.field-0.0)

pub returns-in_err-report-clause-ran : goal.returns-in_err-report-clause-ran
returns-in_err-report-clause-ran g c =
    let gate = c.args.gate.now in
    let may = g.G.Gate.may_stop gate in
    let must = g.G.Gate.must_stop gate in
    let p = err_from_is_err_and c.from_residual-in_err-report.result c.from_residual-in_err-report.ensures.1 in
    rw (p.1, p.2) (of_file (CameOf {A = Unit {0}} may must c.args.size (Err c.in_err-report.field-0.0)) (g.R.Read.remaining (inner_of c.args.reader.now))
    c.as_slice.result.now c.in_ok-events.events.items c.as_slice.ensures.value c.in_ok-events.ensures.file
    (came_at_fault Report (Unit {0}) may must c.args.size c.as_slice.result.now c.in_err-report.field-0.0 c.in_err-report.ensures.ran))
