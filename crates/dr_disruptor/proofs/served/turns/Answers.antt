use Rattle.dr_disruptor.proofs.Showing.{shows_more, shows_none}
use Rattle.dr_disruptor.proofs.served.turns.Goals as goal

pub loop-init : goal.loop-init
loop-init g c = (
  tt,
  tt,
  shows_none g.O.InPlaceOutlet.kept g.O.InPlaceOutlet.received g.O.InPlaceOutlet.saw g.O.InPlaceOutlet.does g.H.InPlaceHandler.goes c.args.batch c.args.handler.now c.args.outlet.now
      c.requires.idle,
)

pub returns-then-not-goes_on-clause-shows : goal.returns-then-not-goes_on-clause-shows
returns-then-not-goes_on-clause-shows g c =
    shows_more g.O.InPlaceOutlet.kept g.O.InPlaceOutlet.received g.O.InPlaceOutlet.saw g.O.InPlaceOutlet.does g.H.InPlaceHandler.goes c.args.batch c.args.handler.now c.loop.handler c.turn-goes_on.new.handler
    c.args.outlet.now c.loop.outlet c.turn-goes_on.new.outlet c.loop.invariant.2 c.turn-goes_on.ensures.shows

pub loop-preserved : goal.loop-preserved
loop-preserved g c = (
  tt,
  tt,
  shows_more g.O.InPlaceOutlet.kept g.O.InPlaceOutlet.received g.O.InPlaceOutlet.saw g.O.InPlaceOutlet.does g.H.InPlaceHandler.goes c.args.batch c.args.handler.now c.loop.handler c.turn-goes_on.new.handler
      c.args.outlet.now c.loop.outlet c.turn-goes_on.new.outlet c.loop.invariant.2 c.turn-goes_on.ensures.shows,
)
