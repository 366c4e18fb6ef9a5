-- A handler's part of the report, after all batches that it was shown.
use Rattle.std.proofs.Common.{List, []}
use Rattle.dr_seq.specs.declared.event.Event.{Event}
use Rattle.dr_meaning.specs.Calls.Handling.{GoesThrough, Relation}
use Rattle.dr_workers.specs.Meaning.Work.{Dealt, dealt_events, shown_of}
use Rattle.dr_accounts.specs.declared.business.Business.{Business}
use Rattle.dr_accounts.specs.declared.journal.Journal.{Journal}
use Rattle.dr_accounts.specs.declared.replica.Replica.{Replica}
use Rattle.dr_accounts.specs.Handlers.{Books, Copies, IsBusinessOf, IsJournalOf, IsReplicaOf, Journals}
use Rattle.dr_workers.proofs.Along.{along_batches}
use Rattle.dr_accounts.proofs.Shown.{business_goes, journal_goes, replica_goes}

abbrev journals : Relation Event Journal
journals old event s end new = Journals old event new

abbrev copies : Relation Event Replica
copies old event s end new = Copies old event new

abbrev books : Relation Event Business
books old event s end new = Books old event new

pub journal_shown : (first last : Journal) (batches : List (Dealt Event)) → IsJournalOf first [] → GoesThrough journals first (shown_of batches) last
    → IsJournalOf last (dealt_events batches)
journal_shown first last batches new through = along_batches journals IsJournalOf journal_goes first last [] batches new through

pub replica_shown : (first last : Replica) (batches : List (Dealt Event)) → IsReplicaOf first [] → GoesThrough copies first (shown_of batches) last
    → IsReplicaOf last (dealt_events batches)
replica_shown first last batches new through = along_batches copies IsReplicaOf replica_goes first last [] batches new through

pub business_shown : (first last : Business) (batches : List (Dealt Event)) → IsBusinessOf first [] → GoesThrough books first (shown_of batches) last
    → IsBusinessOf last (dealt_events batches)
business_shown first last batches new through = along_batches books IsBusinessOf business_goes first last [] batches new through
