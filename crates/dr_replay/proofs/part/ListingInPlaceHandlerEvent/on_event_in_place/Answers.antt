use Rattle.dr_replay.proofs.Listing.{was_more}
use Rattle.dr_replay.proofs.part.ListingInPlaceHandlerEvent.on_event_in_place.Goals as goal

pub invariant_of-self : goal.invariant_of-self
invariant_of-self g c = λ fine.
    was_more g.P.Handler.goes g.P.Reporter.is_new c.self.inside.handler c.on_event.new.self c.self.inside.list.items c.push.new.self.items c.args.event.now c.args.s
    c.args.end (c.self.invariant fine) c.in-Ok.ensures.items c.on_event.ensures
