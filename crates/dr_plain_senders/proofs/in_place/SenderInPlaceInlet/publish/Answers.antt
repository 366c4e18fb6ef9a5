use Rattle.dr_plain_senders.proofs.InPlaceSending.{may_publish, publishes}
use Rattle.dr_plain_senders.proofs.in_place.SenderInPlaceInlet.publish.Goals as goal

pub unreachable-requires : goal.unreachable-requires
unreachable-requires g c =
    let call = c.in-Err.ensures.call in
    may_publish c.args.self.now c.args.lo c.args.hi c.in-Err.field-0 call.seen call.sees call.answer c.requires.whole c.ranges.hi.fits

pub returns-clause-publishes : goal.returns-clause-publishes
returns-clause-publishes g c = publishes c.args.self.now c.publish.new.self c.args.lo c.args.hi c.in-Ok.ensures.call c.requires.whole c.ranges.hi.fits
