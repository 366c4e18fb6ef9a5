use Rattle.std.proofs.Common.{◌+◌, ◌<◌, rules, arith, length, ap}
use Rattle.std.proofs.lemmas.List.{length-map}
use Rattle.dr_lent.proofs.Lists.{drop_at}
use Rattle.dr_lent.specs.declared.lent.Lent.{Lent}
use Rattle.dr_lent.specs.Events.{events_of}
use Rattle.dr_runs.proofs.Elements.{at_below}
use Rattle.dr_plain_senders.proofs.events.EventsIterator.next.Goals as goal

pub overflow_add-self : goal.overflow_add-self
overflow_add-self g c =
    let r = c.args.self.now.receiver.now.knows in let next = c.args.self.now.next in let fits = c.in_ok-event.ensures.fits in
    let inside : next < length (events_of r.received) = at_below (events_of r.received) next c.in_ok-event.event.now c.in_ok-event.ensures.some.1 in
    let t : next + 1 < 18446744073709551616 = omega (arith, length-map r.received (λ (l : Lent g.row.T.Denot). l.event)) in search rules

pub returns-clause-steps : goal.returns-clause-steps
returns-clause-steps g c =
    drop_at (events_of c.args.self.now.receiver.now.knows.received) c.args.self.now.next c.in_ok-event.event.now c.in_ok-event.ensures.some.1

pub returns-clause-goes : goal.returns-clause-goes
returns-clause-goes g c =
    let received = events_of c.args.self.now.receiver.now.knows.received in
    let shorter = ap length (drop_at received c.args.self.now.next c.in_ok-event.event.now c.in_ok-event.ensures.some.1) in search rules
