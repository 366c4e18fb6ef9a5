use Rattle.std.proofs.Common.{List, ℕ, arith, ap, ◌∙◌}
use Rattle.std.proofs.lemmas.Result.{err_from_is_err_and}
use Rattle.dr_files.specs.Counting.{faults_of, inner_of}
use Rattle.dr_drive.specs.Meaning.DriveText.{text_of}
use Rattle.dr_files.specs.Outcome.{RunWrites}
use Rattle.dr_records.specs.Records.{records_of}
use Rattle.dr_records.specs.Rows.{rows_left}
use Rattle.dr_records.proofs.RowsLeft.{numbers_fit}
use Rattle.dr_drive.proofs.Whole.{after_setup, at_input, failed_setup, never_unread, setup_counts}
use Rattle.dr_drive.proofs.tool.drive_telling.Goals as goal

pub set_up-requires : goal.set_up-requires
set_up-requires g c = numbers_fit c.as_slice.result.now (rows_left c.new-rows.result) (omega (arith, c.as_slice.type_inv.1)) c.new-rows.ensures

pub commands-requires-clause-fits : goal.commands-requires-clause-fits
commands-requires-clause-fits g c =
    let fit = numbers_fit c.as_slice.result.now (rows_left c.new-rows.result) (omega (arith, c.as_slice.type_inv.1)) c.new-rows.ensures in
    omega (arith, fit, (c.in_ok-exchange.ensures c.args.states).counted)

pub returns-in_err-exchange-clause-bytes : goal.returns-in_err-exchange-clause-bytes
returns-in_err-exchange-clause-bytes g c =
    let known = g.W.Write.contents (inner_of c.args.writer.now) in
    let text = c.in_ok-text.text.items in
    let all = c.new-rows.ensures ∙ ap records_of c.as_slice.ensures.value in
    let p = err_from_is_err_and c.from_residual-in_err-exchange.result c.from_residual-in_err-exchange.ensures.1 in
    let P : List ℕ → Type 0 = λ input. RunWrites c.from_residual-in_err-exchange.result known known (text_of c.args.states input) in
    at_input (g.R.Read.remaining (inner_of c.args.reader.now)) text P c.in_ok-text.ensures.whole
    (rw (p.1, p.2) (failed_setup c.args.states c.in_err-exchange.field-0.0 (rows_left c.new-rows.result) text known all (c.in_err-exchange.ensures c.args.states)))

pub returns-in_err-exchange-clause-counted : goal.returns-in_err-exchange-clause-counted
returns-in_err-exchange-clause-counted g c =
    let p = err_from_is_err_and c.from_residual-in_err-exchange.result c.from_residual-in_err-exchange.ensures.1 in
    rw (p.1, p.2) (setup_counts c.args.states c.in_err-exchange.field-0.0 (rows_left c.new-rows.result) (faults_of c.args.reader.now) (faults_of c.read_all.new.reader)
    (faults_of c.args.writer.now) (c.in_err-exchange.ensures c.args.states) c.in_ok-text.ensures.none)

pub returns-clause-unread : goal.returns-clause-unread
returns-clause-unread g c =
    let con = g.W.Write.contents in
    never_unread c.commands.result (con (inner_of c.args.writer.now)) (con (inner_of c.commands.new.writer)) (faults_of c.args.writer.now) (faults_of c.commands.new.writer)
    c.commands.ensures.counted

pub returns-clause-bytes : goal.returns-clause-bytes
returns-clause-bytes g c =
    let con = g.W.Write.contents in
    let old = con (inner_of c.args.writer.now) in
    let new = con (inner_of c.commands.new.writer) in
    let text = c.in_ok-text.text.items in
    let all = c.new-rows.ensures ∙ ap records_of c.as_slice.ensures.value in
    let P : List ℕ → Type 0 = λ input. RunWrites c.commands.result old new (text_of c.args.states input) in
    at_input (g.R.Read.remaining (inner_of c.args.reader.now)) text P c.in_ok-text.ensures.whole
    (after_setup c.args.states c.commands.result c.in_ok-exchange.field-0 (rows_left c.new-rows.result) (rows_left c.set_up.new.rows) text old new all (c.in_ok-exchange.ensures c.args.states) c.commands.ensures.bytes)
