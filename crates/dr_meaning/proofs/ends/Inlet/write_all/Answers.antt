use Rattle.std.proofs.Common.{sym, ◌≡◌, ◌+◌, ◌∙◌, Ok, Err, arith, inr, length, refl, take}
use Rattle.dr_meaning.specs.Calls.Ends.{WriteAnswers}
use Rattle.dr_meaning.proofs.Calling.{lead_all, lead_in_trouble, lead_written}
use Rattle.dr_meaning.proofs.ManyWrites.{answer_before, below_more, written_more, written_none, written_same}
use Rattle.dr_meaning.proofs.ends.Inlet.write_all.Goals as goal

pub loop-k-init : goal.loop-k-init
loop-k-init g c = (refl, (λ k less. absurd (omega arith)), written_none c.args.lo (g.Self.Inlet.sent c.args.self.now), refl)

pub returns-in-Err-clause-kept : goal.returns-in-Err-clause-kept
returns-in-Err-clause-kept g c = c.write.ensures.kept ∙ c.loop-k.invariant.0

pub returns-in-Err-clause-answer : goal.returns-in-Err-clause-answer
returns-in-Err-clause-answer g c = record {
  written = c.loop-k.invariant.1;
  stops = (
    c.loop-k-test.true,
    answer_before c.args.lo (c.args.lo + c.loop-k.k) (take c.loop-k.k c.args.events.now) (Err c.in-Err.trouble) _ _ c.loop-k.invariant.2 c.in-Err.ensures.answer,
  );
}

pub returns-in-Err-clause-sent : goal.returns-in-Err-clause-sent
returns-in-Err-clause-sent g c = written_same c.args.lo (take c.loop-k.k c.args.events.now) _ _ _ c.loop-k.invariant.2 c.in-Err.ensures.sent

pub loop-k-preserved : goal.loop-k-preserved
loop-k-preserved g c = (
  c.write.ensures.kept ∙ c.loop-k.invariant.0,
  below_more (λ k. WriteAnswers (g.Self.Inlet.sent c.args.self.now) (c.args.lo + k) (Ok tt)) c.loop-k.k c.loop-k.invariant.1
      (answer_before c.args.lo (c.args.lo + c.loop-k.k) (take c.loop-k.k c.args.events.now) (Ok tt) _ _ c.loop-k.invariant.2 c.in-Ok.ensures.answer),
  written_more c.args.lo c.loop-k.k (c.args.lo + c.loop-k.k) c.args.events.now c.index-events-k.result c.index-events-k.result c.loop-k-test.true refl (sym c.index-events-k.is) _ _ _ c.loop-k.invariant.2 c.in-Ok.ensures.sent,
  lead_written g.Self.Inlet.does c.args.lo c.loop-k.k (c.args.lo + c.loop-k.k) c.args.events.now c.index-events-k.result c.index-events-k.result c.loop-k-test.true refl (sym c.index-events-k.is) _ _ _ c.loop-k.invariant.3 c.in-Ok.ensures.called,
)

pub returns-clause-answer : goal.returns-clause-answer
returns-clause-answer g c = record { written = λ k less. c.loop-k.invariant.1 k (let all = c.loop-k-test.false in let end = c.loop-k.auto.k-end in omega arith); stops = refl }

pub returns-clause-sent : goal.returns-clause-sent
returns-clause-sent g c =
    let all = c.loop-k-test.false in
    let end = c.loop-k.auto.k-end in
    let same : c.loop-k.k ≡ length c.args.events.now = omega arith in
    rw same at c.loop-k.invariant.2

pub returns-in-Err-clause-called : goal.returns-in-Err-clause-called
returns-in-Err-clause-called g c =
    inr (lead_in_trouble g.Self.Inlet.does c.args.lo c.loop-k.k (c.args.lo + c.loop-k.k) c.args.events.now c.index-events-k.result c.index-events-k.result c.loop-k-test.true refl (sym c.index-events-k.is) c.in-Err.trouble _ _ _ c.loop-k.invariant.3 c.in-Err.ensures.called)

pub returns-clause-called : goal.returns-clause-called
returns-clause-called g c =
    let all = c.loop-k-test.false in
    let end = c.loop-k.auto.k-end in
    let same : c.loop-k.k ≡ length c.args.events.now = omega arith in
    inr (lead_all g.Self.Inlet.does c.args.lo c.args.events.now c.args.self.now c.loop-k.self (rw same at c.loop-k.invariant.3))
