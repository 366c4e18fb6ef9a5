use Rattle.std.proofs.Common.{refl}
use Rattle.dr_journal.specs.Calls.Journals.{bytes_of, records_of}
use Rattle.dr_journal.specs.Calls.Parts.{device_of}
use Rattle.dr_ledger.specs.Standing.{journal_of}
use Rattle.dr_ledger.proofs.Kept.{slices_say}
use Rattle.dr_ledger.proofs.Moments.{batch_moments}
use Rattle.dr_ledger.proofs.ledger.Ledger.store.Goals as goal

pub returns-in_err-append-clause-any_moment : goal.returns-in_err-append-clause-any_moment
returns-in_err-append-clause-any_moment g c = λ past holds.
    let d = g.D.Device in
    let was = journal_of c.args.self.now in
    let says = slices_say c.in_ok-records.records.items c.deref.result.now c.args.events.now c.args.events.now
    c.deref.ensures.value refl c.in_ok-records.ensures in
    batch_moments d.moment d.left_since (device_of was) (device_of c.append.new.self) past c.args.events.now
    (records_of d.seen was) (bytes_of c.deref.result.now) holds.records says c.append.ensures.any_moment

pub returns-in_err-copy-clause-any_moment : goal.returns-in_err-copy-clause-any_moment
returns-in_err-copy-clause-any_moment g c = λ past holds.
    let d = g.D.Device in
    let was = journal_of c.args.self.now in
    let says = slices_say c.in_ok-records.records.items c.deref.result.now c.args.events.now c.args.events.now
    c.deref.ensures.value refl c.in_ok-records.ensures in
    batch_moments d.moment d.left_since (device_of was) (device_of c.append.new.self) past c.args.events.now
    (records_of d.seen was) (bytes_of c.deref.result.now) holds.records says c.append.ensures.any_moment

pub returns-clause-any_moment : goal.returns-clause-any_moment
returns-clause-any_moment g c = λ past holds.
    let d = g.D.Device in
    let was = journal_of c.args.self.now in
    let says = slices_say c.in_ok-records.records.items c.deref.result.now c.args.events.now c.args.events.now
    c.deref.ensures.value refl c.in_ok-records.ensures in
    batch_moments d.moment d.left_since (device_of was) (device_of c.append.new.self) past c.args.events.now
    (records_of d.seen was) (bytes_of c.deref.result.now) holds.records says c.append.ensures.any_moment
