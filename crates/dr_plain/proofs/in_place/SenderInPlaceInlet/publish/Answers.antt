use Rattle.dr_plain.specs.Calls.Ends.{sent_of}
use Rattle.dr_plain.proofs.InPlaceSending.{may_publish, publishes}
use Rattle.dr_plain.proofs.in_place.SenderInPlaceInlet.publish.Goals as goal

pub unreachable-requires : goal.unreachable-requires
unreachable-requires g c =
    may_publish c.args.lo c.args.hi (sent_of c.args.self.now) c.in-Err.field-0 c.requires.whole c.in-Err.ensures.1.answer

pub returns-clause-publishes : goal.returns-clause-publishes
returns-clause-publishes g c =
    publishes c.args.lo c.args.hi (sent_of c.args.self.now) (sent_of c.publish.new.self) c.requires.whole c.in-Ok.ensures.1.sent
