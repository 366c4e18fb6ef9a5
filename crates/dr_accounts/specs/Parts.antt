-- The report in its parts, which are written one after another.
use Rattle.std.specs.Prelude.{◌≡◌, ℕ, List, ◌++◌, string_bytes}
use Rattle.dr_seq.specs.declared.event.Event.{Event}
use Rattle.dr_accounts.specs.Report.{journal_part, replica_part, business_part}
use Rattle.dr_accounts.specs.declared.report.Report.{Report}

abbrev pub text_of : Report → List ℕ
text_of report = string_bytes report.journal ++ string_bytes report.replica ++ string_bytes report.business

-- each part is that of its handler
pub record HasParts (events : List Event) (report : Report) : Type 0 where
  pub journal : string_bytes report.journal ≡ journal_part events
  pub replica : string_bytes report.replica ≡ replica_part events
  pub business : string_bytes report.business ≡ business_part events
