use Rattle.std.proofs.Common.{◌≡◌, ◌+◌, ◌++◌, ◌∷◌, [], ℕ, true, sym, subst}
use Rattle.std.specs.Prelude.{OnOk}
use Rattle.std.proofs.lemmas.List.{append-nil}
use Rattle.dr_journal.specs.Meaning.Format.{records_in}
use Rattle.dr_journal.specs.Calls.Journals.{bytes_of}
use Rattle.dr_journal.specs.Inside.Reading.{IsScanned, Takes}
use Rattle.dr_journal.proofs.Reading.{past, hole}
use Rattle.dr_journal.proofs.scan.Scan.take.Goals as goal

pub returns-then-self-clause-takes : goal.returns-then-self-clause-takes
returns-then-self-clause-takes c = λ body s.
    let was = c.args.self.now in
    let all = past was.len was.end was.last was.is_over (bytes_of was.waiting.items) was.record.items was.less body s c.if-self.true c.args.byte in
    (all.0, ([], sym (append-nil c.args.records.now.items), all.1))

pub returns-in-0-clause-takes : goal.returns-in-0-clause-takes
returns-in-0-clause-takes c = λ body s.
    let was = c.args.self.now in
    let all = hole was.len was.end was.last was.is_over (bytes_of was.waiting.items) was.record.items was.less body s c.if-self.false in
    let both = subst (λ (b : ℕ). IsScanned (was.len + 1) was.end was.last true (bytes_of was.waiting.items) was.record.items was.less (body ++ b ∷ []) × (records_in (body ++ b ∷ []) ≡ records_in body ++ [])) (sym c.in-0.is) all in
    (both.0, ([], sym (append-nil c.args.records.now.items), both.1))

pub returns-in-2-clause-takes : goal.returns-in-2-clause-takes
returns-in-2-clause-takes c = subst (λ (b : ℕ). OnOk c.end_batch.result (Takes c.args.self.now c.end_batch.new.self b c.args.records.now.items c.end_batch.new.records.items)) (sym c.in-2.is) c.end_batch.ensures.takes

pub returns-in_default-clause-takes : goal.returns-in_default-clause-takes
returns-in_default-clause-takes c = c.push_code.ensures.takes c.args.records.now.items
