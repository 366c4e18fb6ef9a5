use Rattle.std.proofs.Common.{◌+◌, [], refl, arith, ◌∙◌}
use Rattle.dr_meaning.specs.Calls.Filling.{FillsFrom}
use Rattle.dr_disruptor.specs.Sending.{FillsOn}
use Rattle.dr_disruptor.proofs.Stretches.{fills_on, filled_more, may_fill}
use Rattle.dr_disruptor.proofs.Called.{just_more, just_none}
use Rattle.dr_disruptor.proofs.sender.fill_by.Goals as goal

pub update_by-requires-clause-within : goal.update_by-requires-clause-within
update_by-requires-clause-within g c =
    may_fill (λ events. FillsOn (FillsFrom g.F.FnMut) c.args.fill.now 0 events c.loop-k.fill) c.loop-k.k c.args.n c.args.lo (c.args.lo + c.loop-k.k)
    (g.I.InPlaceInlet.sending c.args.end.now) (g.I.InPlaceInlet.sending c.loop-k.end) c.loop-k.invariant.2 c.loop-k-test.true refl

pub loop-k-preserved : goal.loop-k-preserved
loop-k-preserved g c =
    let by = FillsFrom g.F.FnMut in
    let start = c.args.fill.now in
    let old = c.loop-k.fill in
    let new = c.update_by.new.fill in (
      c.update_by.ensures.callable,
      c.update_by.ensures.kept ∙ c.loop-k.invariant.1,
      filled_more (λ events. FillsOn by start 0 events old) (λ events. FillsOn by start 0 events new) (λ was now. by old c.loop-k.k was new now)
          c.loop-k.k c.args.n c.args.lo (c.args.lo + c.loop-k.k)
          (g.I.InPlaceInlet.sending c.args.end.now) (g.I.InPlaceInlet.sending c.loop-k.end) (g.I.InPlaceInlet.sending c.update_by.new.self)
          c.loop-k.invariant.2 c.loop-k-test.true refl
          (λ events was now many are left. fills_on by 0 c.loop-k.k events start old new was now are (omega arith) left) c.update_by.ensures.changes,
      just_more g.I.InPlaceInlet.does c.args.end.now c.loop-k.end c.update_by.new.self [] _ c.loop-k.invariant.3 c.update_by.ensures.called,
    )

pub loop-k-init : goal.loop-k-init
loop-k-init g c = (c.requires.callable, refl, c.requires.within, just_none g.I.InPlaceInlet.does c.args.end.now)

pub returns-clause-called : goal.returns-clause-called
returns-clause-called g c = c.loop-k.invariant.3
