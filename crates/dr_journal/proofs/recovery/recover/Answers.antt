use Rattle.std.proofs.Common.{◌≡◌, ◌++◌, ◌∙◌, [], Err, refl, sym, ap, subst}
use Rattle.std.proofs.lemmas.List.{append-nil}
use Rattle.dr_journal.specs.Meaning.Format.{IsForeign, recovered}
use Rattle.dr_journal.specs.Calls.Journals.{bytes_of}
use Rattle.dr_journal.specs.Calls.Readers.{HasRead}
use Rattle.dr_journal.specs.Calls.Opening.{StandsForTheSame}
use Rattle.dr_journal.proofs.Feeding.{no_foreign, only_foreign}
use Rattle.dr_journal.proofs.Moments.{no_call}
use Rattle.dr_journal.proofs.Repairs.{unchanged}
use Rattle.dr_journal.proofs.recovery.recover.Goals as goal

pub finish-requires-clause-read : goal.finish-requires-clause-read
finish-requires-clause-read g c =
    let fed = c.in_default.ensures.read [] c.new-recovery.ensures.read in
    subst (λ f. HasRead c.feed.new.self f) c.requires.bytes fed.0

pub returns-in-Ok-clause-records : goal.returns-in-Ok-clause-records
returns-in-Ok-clause-records g c =
    let fed = c.in_default.ensures.read [] c.new-recovery.ensures.read in
    let all : c.feed.new.records.items ≡ fed.1.0 = fed.1.1 ∙ ap (λ l. l ++ fed.1.0) c.new-records.ensures.items in
    ap (λ l. bytes_of l) all ∙ sym fed.1.2 ∙ ap recovered c.requires.bytes

pub returns-in-Ok-clause-opened : goal.returns-in-Ok-clause-opened
returns-in-Ok-clause-opened g c =
    let fed = c.in_default.ensures.read [] c.new-recovery.ensures.read in
    no_foreign c.feed.new.self (g.D.Device.seen c.args.device) (subst (λ f. HasRead c.feed.new.self f) c.requires.bytes fed.0)

pub returns-in-Err-finish-clause-foreign : goal.returns-in-Err-finish-clause-foreign
returns-in-Err-finish-clause-foreign g c =
    let fed = c.in_default.ensures.read [] c.new-recovery.ensures.read in
    λ foreign. absurd (no_foreign c.feed.new.self (g.D.Device.seen c.args.device) (subst (λ f. HasRead c.feed.new.self f) c.requires.bytes fed.0) foreign)

pub returns-in-Err-clause-untouched : goal.returns-in-Err-clause-untouched
returns-in-Err-clause-untouched g c = λ told.
    let all = c.feed.ensures.foreign (c.in-Err.is ∙ ap (λ x. Err x) told) [] [] c.new-recovery.ensures.read in
    (refl, subst (λ f. IsForeign f) (append-nil c.args.bytes.now ∙ c.requires.bytes) all)

pub returns-in-Err-clause-foreign : goal.returns-in-Err-clause-foreign
returns-in-Err-clause-foreign g c = λ foreign.
    let here = subst (λ f. IsForeign f) (sym c.requires.bytes) foreign in
    only_foreign c.in-Err.fault
    (λ e. c.feed.ensures.free (c.in-Err.is ∙ ap (λ x. Err x) e))
    (λ e. c.feed.ensures.no_memory (c.in-Err.is ∙ ap (λ x. Err x) e) [] c.new-recovery.ensures.read here)
    (λ e. c.feed.ensures.failed (c.in-Err.is ∙ ap (λ x. Err x) e))
    (λ e. c.feed.ensures.full (c.in-Err.is ∙ ap (λ x. Err x) e))

pub returns-in-Err-clause-any_moment_err : goal.returns-in-Err-clause-any_moment_err
returns-in-Err-clause-any_moment_err g c =
    let d = g.D.Device in
    let file = d.seen c.args.device in
    no_call d.moment d.left_since d.may_leave g.met.D.Device.only_now c.args.device (StandsForTheSame file) (λ f left. unchanged file f (c.requires.durable f left))
