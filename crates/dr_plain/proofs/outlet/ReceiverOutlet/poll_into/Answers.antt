use Rattle.std.proofs.Common.{◌≤◌, List, take, drop, length, arith, sym, ap, ◌∙◌, subst}
use Rattle.std.proofs.lemmas.List.{length-append, length-map}
use Rattle.dr_lent.specs.declared.lent.Lent.{Lent}
use Rattle.dr_lent.proofs.Copying.{copied_all}
use Rattle.dr_lent.specs.Events.{events_of}
use Rattle.dr_plain.specs.Calls.Ends.{ReceiverEnd}
use Rattle.dr_plain.proofs.Copying.{takes_batch}
use Rattle.dr_plain.proofs.outlet.ReceiverOutlet.poll_into.Goals as goal

pub copy_events-requires-clause-held : goal.copy_events-requires-clause-held
copy_events-requires-clause-held g c =
    let old = c.args.self.now.knows in let new = c.poll.new.self.knows in
    let B = takes_batch c.args.self.now c.poll.new.self _ c.in-Batch.first c.in-Batch.count c.in-Batch.end _ c.in_ok-polled.ensures.call c.in-Batch.is in
    let next = B.next in let many = B.many in let done = B.completed in
    let rises : old.completed ≤ length old.received = subst (λ (e : ReceiverEnd g.row.T.Denot). e.knows.completed ≤ length e.knows.received) c.self.view_is
    (let a = c.self.invariant.completed in let b = c.self.invariant.taken in let r = c.self.invariant.rises in omega arith) in
    let long = ap length B.received in let front = c.split_at_mut-front.ensures.front_len in
    (omega arith, omega (arith, length-append old.received B.lents))

pub returns-in-Batch-clause-received : goal.returns-in-Batch-clause-received
returns-in-Batch-clause-received g c =
    let old = c.args.self.now.knows in let first = c.in-Batch.first in let count = c.in-Batch.count in
    let B = takes_batch c.args.self.now c.poll.new.self _ first count c.in-Batch.end _ c.in_ok-polled.ensures.call c.in-Batch.is in
    let copied = c.copy_events.ensures ∙ (λ i. take (c.split_at_mut-front.ensures.front_len i) (drop first (events_of (B.received i)))) in
    let events = ap (λ (ls : List (Lent g.row.T.Denot)). events_of ls) B.received
    ∙ copied_all old.received B.lents first count c.copy_events.new.out c.split_at_mut-front.result.1.now B.next B.many copied in
    (B.next ∙ sym (length-map old.received (λ (l : Lent g.row.T.Denot). l.event)), λ i. record { events = events i; completed = B.completed i })
