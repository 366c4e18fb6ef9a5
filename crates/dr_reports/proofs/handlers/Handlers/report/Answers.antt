use Rattle.std.proofs.Common.{◌++◌, ◌∙◌, ap, string_bytes}
use Rattle.dr_accounts.specs.Report.{journal_part, replica_part}
use Rattle.dr_accounts.proofs.Reports.{business_says, journal_says, replica_says}
use Rattle.dr_reports.proofs.handlers.Handlers.report.Goals as goal

pub returns-clause-parts : goal.returns-clause-parts
returns-clause-parts c = λ events shown.
    let all = c.args.self in
    record {
      journal = c.in_ok-into_text.ensures ∙ journal_says all.journal.handler events (shown.journal c.requires.journal);
      replica = c.in_ok-into_text-2.ensures ∙ replica_says all.replica.handler events (shown.replica c.requires.replica);
      business = c.in_ok-into_text-3.ensures.text ∙ business_says all.business.handler events (shown.business c.requires.business) c.in_ok-into_text-3.ensures.ordered;
    }

pub returns-clause-text : goal.returns-clause-text
returns-clause-text c = λ events shown.
    let all = c.args.self in
    let replica = c.in_ok-into_text-2.ensures ∙ replica_says all.replica.handler events (shown.replica c.requires.replica) in
    let business = c.in_ok-into_text-3.ensures.text ∙ business_says all.business.handler events (shown.business c.requires.business) c.in_ok-into_text-3.ensures.ordered in
    ap (λ l. l ++ string_bytes c.in_ok-into_text-2.field-0 ++ string_bytes c.in_ok-into_text-3.field-0)
    (c.in_ok-into_text.ensures ∙ journal_says all.journal.handler events (shown.journal c.requires.journal))
    ∙ ap (λ l. journal_part events ++ l ++ string_bytes c.in_ok-into_text-3.field-0) replica
    ∙ ap (λ l. journal_part events ++ replica_part events ++ l) business
