use Rattle.dr_plain_senders.proofs.InPlaceReceiving.{sees_more, takes}
use Rattle.dr_plain_senders.proofs.in_place.ReceiverInPlaceOutlet.poll.Goals as goal

pub returns-clause-saw : goal.returns-clause-saw
returns-clause-saw g c = sees_more c.args.room c.args.self.now c.poll.new.self c.in-Ok.polled c.in-Ok.ensures.call

pub returns-clause-taken : goal.returns-clause-taken
returns-clause-taken g c = takes c.args.room c.args.self.now c.poll.new.self c.in-Ok.polled c.in-Ok.ensures.call c.in-Ok.ensures.fits c.requires.room
