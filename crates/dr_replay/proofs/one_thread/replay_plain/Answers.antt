use Rattle.std.proofs.Common.{IfSome, ap, ◌∙◌}
use Rattle.dr_accounts.specs.Parts.{text_of}
use Rattle.dr_accounts.specs.Report.{report_of}
use Rattle.dr_files.specs.Counting.{inner_of}
use Rattle.dr_files.specs.declared.fault.FileFault.TheVariants as file
use Rattle.dr_accounts.specs.ReplayText.{replay_text}
use Rattle.dr_replay.specs.Calls.Replayed.{ReplayWrites}
use Rattle.dr_replay.specs.declared.fault.ReplayFault.TheVariants as fault
use Rattle.dr_replay.proofs.Reporting.{at_exit, cut_report}
use Rattle.dr_replay.proofs.one_thread.replay_plain.Goals as goal

pub returns-in_err-write_report-clause-bytes : goal.returns-in_err-write_report-clause-bytes
returns-in_err-write_report-clause-bytes g c =
    let input = g.R.Read.remaining (inner_of c.args.reader.now) in
    let old = g.W.Write.contents (inner_of c.args.writer.now) in
    let new = g.W.Write.contents (inner_of c.write_report.new.writer) in
    let same = c.in_ok-report.ensures.text ∙ ap report_of c.as_slice.ensures.value in
    at_exit c.from_residual-in_err-write_report.result (fault.File file.Write)
    (λ r. IfSome input (λ bytes. ReplayWrites r old new (replay_text bytes)))
    c.from_residual-in_err-write_report.ensures.1
    (cut_report old new input c.in_ok-events.events.items (text_of c.in_ok-report.report) c.in_ok-events.ensures.file same c.in_err-write_report.ensures.0)
