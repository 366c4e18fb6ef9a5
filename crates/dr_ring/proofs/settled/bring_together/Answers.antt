use Rattle.std.proofs.Common.{◌∙◌}
use Rattle.dr_ring.proofs.Gathering.{all_settle, all_unhalted, has_run, of_one_run, together}
use Rattle.dr_ring.proofs.settled.bring_together.Goals as goal

pub returns-clause-lists : goal.returns-clause-lists
returns-clause-lists c = all_settle _ _ _ c.args.sender c.args.receivers.items c.args.halter
    (together _ _ c.station.inside.seat.me _ _ c.args.sender c.args.receivers.items c.args.halter c.station.invariant.end
    (c.station.view_is ∙ c.sender.view_is) c.gather_halter.ensures.view c.gather_receivers.ensures.view c.requires.receivers c.compare.ensures.ran)

pub returns-clause-unhalted : goal.returns-clause-unhalted
returns-clause-unhalted c = all_unhalted _ _ _ c.args.sender c.args.receivers.items c.args.halter
    (together _ _ c.station.inside.seat.me _ _ c.args.sender c.args.receivers.items c.args.halter c.station.invariant.end
    (c.station.view_is ∙ c.sender.view_is) c.gather_halter.ensures.view c.gather_receivers.ensures.view c.requires.receivers c.compare.ensures.ran)

pub returns-clause-one : goal.returns-clause-one
returns-clause-one c = of_one_run _ _ _ c.args.sender c.args.receivers.items c.args.halter
    (together _ _ c.station.inside.seat.me _ _ c.args.sender c.args.receivers.items c.args.halter c.station.invariant.end
    (c.station.view_is ∙ c.sender.view_is) c.gather_halter.ensures.view c.gather_receivers.ensures.view c.requires.receivers c.compare.ensures.ran)
    c.moments.ensures.leads c.moments.ensures.laws

pub returns-clause-run : goal.returns-clause-run
returns-clause-run c = has_run _ _ _ c.args.sender c.args.receivers.items c.args.halter
    (together _ _ c.station.inside.seat.me _ _ c.args.sender c.args.receivers.items c.args.halter c.station.invariant.end
    (c.station.view_is ∙ c.sender.view_is) c.gather_halter.ensures.view c.gather_receivers.ensures.view c.requires.receivers c.compare.ensures.ran)
    c.moments.ensures.leads c.moments.ensures.laws
