use Rattle.std.proofs.Common.{[], ◌∙◌, length, subst, sym}
use Rattle.std.proofs.KnownBytes.{Appends-nil}
use Rattle.std.proofs.lemmas.Bool.{eqb-true}
use Rattle.std.proofs.lemmas.List.{nil_from_length}
use Rattle.dr_files.specs.Counting.{inner_of}
use Rattle.dr_ledger.specs.Batches.{TurnCame}
use Rattle.dr_ledger.proofs.Batches.{rests, still_at_work}
use Rattle.dr_ledger.proofs.Turns.{unmoved}
use Rattle.dr_ledger.proofs.ledger.Ledger.turn.Goals as goal

pub returns-then-is_empty-clause-turns : goal.returns-then-is_empty-clause-turns
returns-then-is_empty-clause-turns g c = λ past work.
    let d = g.D.Device in
    let known = g.W.Write.contents (inner_of c.args.output.now) in
    let read = c.read_batch-events in
    let none = sym c.as_slice-batch.ensures.value ∙ nil_from_length c.as_slice-batch.result.now (eqb-true (length c.as_slice-batch.result.now) 0 (sym c.is_empty.ensures ∙ c.if-is_empty.true)) in
    record {
      came = [];
      leaves = rests d.seen d.may_leave read.result.then c.args.self.now (record { before = known; after = known }) past [] (still_at_work d.seen d.may_leave c.args.self.now past work) (Appends-nil known);
      comes = subst (λ l. TurnCame read.result.then c.args.stream.now read.new.stream (g.R.Read.remaining (inner_of c.args.input.now)) (g.R.Read.remaining (inner_of read.new.input)) l) none read.ensures.came;
      any_moment = unmoved d.seen d.may_leave d.moment d.left_since g.met.D.Device.only_now c.args.self.now past work;
    }

pub returns-clause-turns : goal.returns-clause-turns
returns-clause-turns g c = λ past work.
    let d = g.D.Device in
    let con = g.W.Write.contents in
    let read = c.read_batch-events in
    let took = c.in_ok-take.ensures.takes past work in
    record {
      came = c.as_slice-batch.result.now;
      leaves = rests d.seen d.may_leave read.result.then c.take.new.self (record { before = con (inner_of c.args.output.now); after = con (inner_of c.take.new.output) }) past c.as_slice-batch.result.now took.0 took.1;
      comes = subst (λ l. TurnCame read.result.then c.args.stream.now read.new.stream (g.R.Read.remaining (inner_of c.args.input.now)) (g.R.Read.remaining (inner_of read.new.input)) l) (sym c.as_slice-batch.ensures.value) read.ensures.came;
      any_moment = c.take.ensures.any_moment past work;
    }
