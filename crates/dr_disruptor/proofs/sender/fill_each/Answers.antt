use Rattle.std.proofs.Common.{◌+◌, [], ◌∷◌, refl, arith, ◌∙◌}
use Rattle.dr_meaning.specs.Calls.Filling.{FillsOne}
use Rattle.dr_disruptor.specs.Sending.{Fills}
use Rattle.dr_disruptor.proofs.Stretches.{filled_more, fills_more, may_fill}
use Rattle.dr_disruptor.proofs.Called.{just_more, just_none}
use Rattle.dr_disruptor.proofs.sender.fill_each.Goals as goal

pub update_at-requires-clause-within : goal.update_at-requires-clause-within
update_at-requires-clause-within g c =
    may_fill (Fills (FillsOne g.F.Fn c.args.fill.now) c.args.first) c.loop-k.k c.args.n c.args.lo (c.args.lo + c.loop-k.k)
    (g.I.InPlaceInlet.sending c.args.end.now) (g.I.InPlaceInlet.sending c.loop-k.end) c.loop-k.invariant.1 c.loop-k-test.true refl

pub loop-k-preserved : goal.loop-k-preserved
loop-k-preserved g c =
    let by = FillsOne g.F.Fn c.args.fill.now in
    let first = c.args.first in
    let number = c.args.first + c.loop-k.k in (
      c.update_at.ensures.kept ∙ c.loop-k.invariant.0,
      filled_more (Fills by first) (Fills by first) (by number) c.loop-k.k c.args.n c.args.lo (c.args.lo + c.loop-k.k)
          (g.I.InPlaceInlet.sending c.args.end.now) (g.I.InPlaceInlet.sending c.loop-k.end) (g.I.InPlaceInlet.sending c.update_at.new.self)
          c.loop-k.invariant.1 c.loop-k-test.true refl
          (λ events was now many are left. fills_more by first number events (now ∷ []) are (omega arith) (was, left, tt)) c.update_at.ensures.changes,
      just_more g.I.InPlaceInlet.does c.args.end.now c.loop-k.end c.update_at.new.self [] _ c.loop-k.invariant.2 c.update_at.ensures.called,
    )

pub loop-k-init : goal.loop-k-init
loop-k-init g c = (refl, c.requires.within, just_none g.I.InPlaceInlet.does c.args.end.now)

pub returns-clause-called : goal.returns-clause-called
returns-clause-called g c = c.loop-k.invariant.2
