use Rattle.std.proofs.Common.{[], Err, Ok, subst}
use Rattle.dr_files.specs.Counting.{inner_of}
use Rattle.dr_files.specs.declared.fault.FileFault.TheVariants as file
use Rattle.dr_operations.specs.Arriving.{ReadsOn}
use Rattle.dr_ledger.specs.declared.fault.LedgerFault.TheVariants as fault
use Rattle.dr_ledger.proofs.Runs.{failed_came, none_came, read_came, read_first}
use Rattle.dr_ledger.proofs.reading.read_batch.Goals as goal
use Rattle.dr_ledger.proofs.reading.read_batch.Goals.{in-Ok, in-Err-Input, in-Err-Read, in-Err}

pub returns-clause-came : goal.returns-clause-came
returns-clause-came g c =
    let old = c.args.stream.now in
    let new = c.read.new.self in
    let known = g.R.Read.remaining (inner_of c.args.input.now) in
    let left = g.R.Read.remaining (inner_of c.read.new.reader) in
    let came = c.read.new.events.items in
    elim c.match-read.branch [
      | in-Ok w ↦ rw (w.then-is, w.events-is) (read_came (Ok w.in-Ok.more) old new known left came (subst (λ b. ReadsOn (Ok w.in-Ok.more) old new known left b came) c.new-events.ensures.items w.in-Ok.ensures.read))
      | in-Err-Input w ↦ rw (w.then-is, w.events-is) (read_came (Err (file.Input w.in-Err-Input.k w.in-Err-Input.field-0-1)) old new known left came (subst (λ e. ReadsOn (Err e) old new known left [] came) w.in-Err-Input.field-0-is
          (subst (λ b. ReadsOn (Err w.in-Err-Input.field-0) old new known left b came) c.new-events.ensures.items w.in-Err-Input.ensures.read)))
      | in-Err-Read w ↦ rw (w.then-is, w.events-is, w.clear.ensures.items) (none_came old new known left)
      | in-Err w ↦ rw (w.then-is, w.events-is) (failed_came fault.Memory old new known left came tt
          (read_first (Err w.in-Err.field-0) old new known left came (subst (λ b. ReadsOn (Err w.in-Err.field-0) old new known left b came) c.new-events.ensures.items w.in-Err.ensures.read)))
    ]
