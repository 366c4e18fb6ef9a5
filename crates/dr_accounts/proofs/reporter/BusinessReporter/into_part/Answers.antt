use Rattle.std.proofs.Common.{◌≡◌, IfOk, List, ℕ, string_bytes, subst}
use Rattle.dr_workers.specs.Meaning.Work.{dealt_events}
use Rattle.dr_accounts.proofs.Parts.{business_shown}
use Rattle.dr_accounts.proofs.Reports.{business_says}
use Rattle.dr_accounts.proofs.reporter.BusinessReporter.into_part.Goals as goal

pub returns : goal.returns
returns c = λ first batches new through.
    let it = c.args.self in
    let says = business_says it (dealt_events batches) (business_shown first it batches new through c.requires) c.into_text.ensures.ordered in
    subst (λ (l : List ℕ). IfOk c.into_text.result (λ text. string_bytes text ≡ l)) says c.into_text.ensures.text
