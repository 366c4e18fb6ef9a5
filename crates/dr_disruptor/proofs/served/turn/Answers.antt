use Rattle.std.proofs.Common.{refl}
use Rattle.dr_meaning.specs.declared.command.Polled.TheVariants.{Drained, Gating, Idle}
use Rattle.dr_disruptor.proofs.Showing.{shows_batch, shows_nothing}
use Rattle.dr_disruptor.proofs.served.turn.Goals as goal

pub returns-in-Batch-clause-shows : goal.returns-in-Batch-clause-shows
returns-in-Batch-clause-shows g c =
    shows_batch g.O.InPlaceOutlet.kept g.O.InPlaceOutlet.received g.O.InPlaceOutlet.saw g.O.InPlaceOutlet.does g.H.InPlaceHandler.goes c.args.batch c.args.handler.now c.show.new.handler c.args.outlet.now
    c.poll.new.self c.complete.new.self c.in-Batch.first c.in-Batch.count (g.O.InPlaceOutlet.offered c.poll.new.self) c.in-Batch.end c.in-Batch.ensures.kept c.complete.ensures.kept
    c.in-Batch.ensures.saw c.complete.ensures.saw c.in-Batch.ensures.taken c.in-Batch.ensures.called c.complete.ensures.called
    c.show.ensures c.complete.ensures.completed

pub returns-in-Drained-clause-shows : goal.returns-in-Drained-clause-shows
returns-in-Drained-clause-shows g c =
    shows_nothing g.O.InPlaceOutlet.kept g.O.InPlaceOutlet.received g.O.InPlaceOutlet.saw g.O.InPlaceOutlet.does g.H.InPlaceHandler.goes c.args.batch c.args.handler.now c.args.outlet.now c.poll.new.self Drained
    c.in-Drained.ensures.kept c.in-Drained.ensures.taken c.in-Drained.ensures.saw c.in-Drained.ensures.called refl c.requires.idle

pub returns-in-Gating-clause-shows : goal.returns-in-Gating-clause-shows
returns-in-Gating-clause-shows g c =
    shows_nothing g.O.InPlaceOutlet.kept g.O.InPlaceOutlet.received g.O.InPlaceOutlet.saw g.O.InPlaceOutlet.does g.H.InPlaceHandler.goes c.args.batch c.args.handler.now c.args.outlet.now c.poll.new.self Gating
    c.in-Gating.ensures.kept c.in-Gating.ensures.taken c.in-Gating.ensures.saw c.in-Gating.ensures.called refl c.requires.idle

pub returns-in-Idle-clause-shows : goal.returns-in-Idle-clause-shows
returns-in-Idle-clause-shows g c =
    shows_nothing g.O.InPlaceOutlet.kept g.O.InPlaceOutlet.received g.O.InPlaceOutlet.saw g.O.InPlaceOutlet.does g.H.InPlaceHandler.goes c.args.batch c.args.handler.now c.args.outlet.now c.poll.new.self Idle
    c.in-Idle.ensures.kept c.in-Idle.ensures.taken c.in-Idle.ensures.saw c.in-Idle.ensures.called refl c.requires.idle
