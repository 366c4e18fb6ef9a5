use Rattle.std.proofs.Common.{◌≡◌, IfOk, List, ℕ, string_bytes, subst}
use Rattle.dr_workers.specs.Meaning.Work.{dealt_events}
use Rattle.dr_accounts.proofs.Parts.{journal_shown}
use Rattle.dr_accounts.proofs.Reports.{journal_says}
use Rattle.dr_accounts.proofs.reporter.JournalReporter.into_part.Goals as goal

pub returns : goal.returns
returns c = λ first batches new through.
    let it = c.args.self in
    let says = journal_says it (dealt_events batches) (journal_shown first it batches new through c.requires) in
    subst (λ (l : List ℕ). IfOk c.into_text.result (λ text. string_bytes text ≡ l)) says c.into_text.ensures
