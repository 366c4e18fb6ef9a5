use Rattle.std.proofs.Common.{ap, length}
use Rattle.dr_graph.specs.Meaning.Graph.{upstreams_of}
use Rattle.dr_plain.specs.declared.record.ReceiverRecord.{ReceiverRecord}
use Rattle.dr_plain.specs.Calls.InPlace.{offered_in}
use Rattle.dr_plain.proofs.InPlaceReceiving.{saw_same}
use Rattle.dr_plain.proofs.in_place.ReceiverInPlaceOutlet.complete.Goals as goal

pub returns-clause-saw : goal.returns-clause-saw
returns-clause-saw g c =
    saw_same c.args.self.now.knows c.complete.new.self.knows (ap (λ (r : ReceiverRecord g.row.T.Denot). r.looks) c.in-Ok.ensures.1.2)

pub returns-clause-offered : goal.returns-clause-offered
returns-clause-offered g c =
    ap (λ (r : ReceiverRecord g.row.T.Denot). offered_in (length (upstreams_of r.plan.upstreams r.number)) r.looks) c.in-Ok.ensures.1.2
