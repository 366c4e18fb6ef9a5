use Rattle.std.proofs.Common.{◌++◌, ap, ◌∙◌}
use Rattle.dr_files.specs.Counting.{inner_of}
use Rattle.dr_operations.specs.Written.{file_of}
use Rattle.dr_ledger.proofs.Printings.{prints_all, prints_front}
use Rattle.dr_ledger.proofs.printing.print_journal.Goals as goal

pub returns-in-Ok-write_text-clause-prints : goal.returns-in-Ok-write_text-clause-prints
returns-in-Ok-write_text-clause-prints g c =
    let text = c.as_bytes.ensures.value ∙ c.in_ok-push_event_file.ensures.file ∙ ap (λ l. l ++ file_of c.deref.result.now) c.new-text.ensures.bytes ∙ ap
    (λ l. file_of l) c.deref.ensures.value in
    prints_all
    (g.R.Read.remaining (inner_of c.args.input.now)) c.in-Ok.bytes.items c.in_ok-events.events.items c.as_bytes.result.now _ _ c.in-Ok.ensures.whole c.in_ok-events.ensures.said c.in_ok-events.ensures.journal text c.in-Ok-write_text.ensures.0

pub returns-clause-prints : goal.returns-clause-prints
returns-clause-prints g c =
    let text = c.as_bytes.ensures.value ∙ c.in_ok-push_event_file.ensures.file ∙ ap (λ l. l ++ file_of c.deref.result.now) c.new-text.ensures.bytes ∙ ap
    (λ l. file_of l) c.deref.ensures.value in
    prints_front
    (g.R.Read.remaining (inner_of c.args.input.now)) c.in-Ok.bytes.items c.in_ok-events.events.items c.as_bytes.result.now _ _ c.in-Ok.ensures.whole c.in_ok-events.ensures.said text c.in-Err.ensures.0
