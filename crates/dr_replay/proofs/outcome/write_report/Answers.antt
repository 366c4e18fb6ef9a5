use Rattle.std.proofs.Common.{◌+◌, ◌++◌, ◌∙◌, ap, string_bytes}
use Rattle.std.proofs.KnownBytes.{Appends-trans}
use Rattle.dr_accounts.specs.Parts.{text_of}
use Rattle.dr_files.specs.Counting.{faults_of, inner_of}
use Rattle.dr_files.specs.Outcome.{WriteTells}
use Rattle.dr_replay.proofs.Reporting.{at_exit}
use Rattle.dr_replay.proofs.Writing.{front_after, front_of_both, tells_after}
use Rattle.dr_replay.proofs.outcome.write_report.Goals as goal

pub returns-in_err-write_text-2 : goal.returns-in_err-write_text-2
returns-in_err-write_text-2 g c =
    let report = c.args.report.now in
    let con = g.W.Write.contents in
    let old = con (inner_of c.args.writer.now) in
    let mid = con (inner_of c.write_text.new.writer) in
    let new = con (inner_of c.write_text-2.new.writer) in
    let first = rw c.as_bytes.ensures.value at c.in_ok-write_text.ensures in
    let second = rw c.as_bytes-2.ensures.value at c.in_err-write_text-2.ensures in
    at_exit c.from_residual-in_err-write_text-2.result _
    (λ r. WriteTells r old new (text_of report) (faults_of c.args.writer.now) (faults_of c.write_text-2.new.writer))
    c.from_residual-in_err-write_text-2.ensures.1 (
      front_of_both old new (string_bytes report.journal ++ string_bytes report.replica) (string_bytes report.business)
          (front_after old mid new (string_bytes report.journal) (string_bytes report.replica) first.0 second.0),
      second.1 ∙ ap (λ n. n + 1) first.1,
    )

pub returns : goal.returns
returns g c =
    let report = c.args.report.now in
    let con = g.W.Write.contents in
    let old = con (inner_of c.args.writer.now) in
    let mid = con (inner_of c.write_text.new.writer) in
    let later = con (inner_of c.write_text-2.new.writer) in
    let first = rw c.as_bytes.ensures.value at c.in_ok-write_text.ensures in
    let second = rw c.as_bytes-2.ensures.value at c.in_ok-write_text-2.ensures in
    let third = rw c.as_bytes-3.ensures.value at c.write_text-3.ensures in
    tells_after c.write_text-3.result old later (con (inner_of c.write_text-3.new.writer)) (string_bytes report.journal ++ string_bytes report.replica)
    (string_bytes report.business) (faults_of c.args.writer.now) (faults_of c.write_text-2.new.writer) (faults_of c.write_text-3.new.writer)
    (Appends-trans old mid later (string_bytes report.journal) (string_bytes report.replica) first.0 second.0) (second.1 ∙ first.1) third
