use Rattle.std.proofs.Common.{◌∙◌, subst, sym}
use Rattle.std.proofs.lemmas.Result.{err_from_is_err_and}
use Rattle.std.specs.Io.KnownBytes.{Appends}
use Rattle.dr_files.specs.Counting.{inner_of}
use Rattle.dr_files.specs.Outcome.{AppendsFront}
use Rattle.dr_ledger.specs.Standing.{business_of}
use Rattle.dr_ledger.proofs.Batches.{booked_all, said, wrote_all, wrote_front}
use Rattle.dr_ledger.proofs.ledger.Ledger.answer.Goals as goal

pub returns-in_err-write_text-clause-replies : goal.returns-in_err-write_text-clause-replies
returns-in_err-write_text-clause-replies g c = λ past booked.
    let con = g.W.Write.contents in
    let text = said past c.args.events.now (business_of c.args.self.now) c.show.new.handler booked c.show.ensures (sym c.is_failed.ensures ∙ c.if-is_failed.false) c.as_bytes.result.now (c.as_bytes.ensures.value ∙ c.answers.ensures.text) in
    let p = err_from_is_err_and c.from_residual.result c.from_residual.ensures.1 in
    rw (p.1, p.2) (subst (λ t. AppendsFront (con (inner_of c.args.output.now)) (con (inner_of c.write_text.new.writer)) t) text c.in_err-write_text.ensures.0)

pub returns-then-is_err-clause-replies : goal.returns-then-is_err-clause-replies
returns-then-is_err-clause-replies g c = λ past booked.
    let con = g.W.Write.contents in
    let old = con (inner_of c.args.output.now) in
    let text = said past c.args.events.now (business_of c.args.self.now) c.show.new.handler booked c.show.ensures (sym c.is_failed.ensures ∙ c.if-is_failed.false) c.as_bytes.result.now (c.as_bytes.ensures.value ∙ c.answers.ensures.text) in
    let new = con (inner_of c.flush.new.self) in
    wrote_front old new _ (wrote_all old (con (inner_of c.write_text.new.writer)) new _ (subst (λ t. Appends old (con (inner_of c.write_text.new.writer)) t) text c.in_ok-write_text.ensures.0) c.flush.ensures.bytes)

pub returns-clause-replies : goal.returns-clause-replies
returns-clause-replies g c = λ past booked.
    let con = g.W.Write.contents in
    let old = con (inner_of c.args.output.now) in
    let well = sym c.is_failed.ensures ∙ c.if-is_failed.false in
    let text = said past c.args.events.now (business_of c.args.self.now) c.show.new.handler booked c.show.ensures well c.as_bytes.result.now (c.as_bytes.ensures.value ∙ c.answers.ensures.text) in
    let new = con (inner_of c.flush.new.self) in (
      booked_all past c.args.events.now (business_of c.args.self.now) c.show.new.handler booked c.show.ensures well c.clear.new.self (c.clear.ensures.cleared past c.args.events.now) c.clear.ensures.failed,
      wrote_all old (con (inner_of c.write_text.new.writer)) new _ (subst (λ t. Appends old (con (inner_of c.write_text.new.writer)) t) text c.in_ok-write_text.ensures.0) c.flush.ensures.bytes,
    )
