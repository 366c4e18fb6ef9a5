use Rattle.std.proofs.Common.{◌≡◌, ℕ, ◌+◌, ◌<◌, ◌≤◌, rules, length, arith, sym, ap, ◌∙◌, subst}
use mathlib.Core.Option.{some}
use lib.ListN.{get_elem?}
use Rattle.dr_runs.proofs.Lists.{map_there}
use Rattle.dr_lent.specs.declared.lent.Lent.{Lent}
use Rattle.dr_lent.proofs.Copying.{copied_more}
use Rattle.dr_lent.specs.Events.{events_of}
use Rattle.dr_plain_senders.specs.Calls.Ends.{ReceiverEnd}
use Rattle.dr_runs.proofs.Elements.{there}
use Rattle.dr_plain_senders.proofs.receiver.Receiver.copy_events.Goals as goal

pub read-requires : goal.read-requires
read-requires g c =
    let r = c.self.inside.station.knows in
    let s = c.loop-event.sequence in
    let at = c.loop-event.invariant.0 in
    let test = c.loop-event-test.true in
    let end = c.loop-event.auto.event-index-end in
    let held = subst
    (λ (e : ReceiverEnd g.row.T.Denot). (e.knows.completed ≤ c.args.first) × (c.args.first + length c.args.out.now ≤ length e.knows.received))
    (sym c.self.view_is) c.requires.held in
    let done = c.self.invariant.completed in let low = held.0 in let high = held.1 in let out = c.loop-event.auto.out in
    let t = there r.received s (omega arith) in (t.0, c.self.invariant.parts.held s t.0 (omega arith) t.1)

pub overflow_add-sequence : goal.overflow_add-sequence
overflow_add-sequence g c =
    let at = c.loop-event.invariant.0 in let test = c.loop-event-test.true in let end = c.loop-event.auto.event-index-end in let fits = c.requires.fits in
    let high = c.requires.held.1 in let out = c.loop-event.auto.out in
    let t : c.loop-event.sequence + 1 < 18446744073709551616 = omega arith in search rules

pub loop-event-preserved : goal.loop-event-preserved
loop-event-preserved g c =
    let r = c.self.inside.station.knows in
    let s = c.loop-event.sequence in
    let at = c.loop-event.invariant.0 in
    let test = c.loop-event-test.true in
    let end = c.loop-event.auto.event-index-end in
    let held = subst
    (λ (e : ReceiverEnd g.row.T.Denot). (e.knows.completed ≤ c.args.first) × (c.args.first + length c.args.out.now ≤ length e.knows.received))
    (sym c.self.view_is) c.requires.held in
    let done = c.self.invariant.completed in let low = held.0 in let high = held.1 in let out = c.loop-event.auto.out in
    let t = there r.received s (omega arith) in
    let event : get_elem? (events_of r.received) s ≡ some c.read.result.now =
    map_there (λ (l : Lent g.row.T.Denot). l.event) r.received s t.0 t.1
    ∙ ap some (sym (c.read.ensures t.0 (c.self.invariant.parts.held s t.0 (omega arith) t.1))) in
    let there = subst (λ (e : ReceiverEnd g.row.T.Denot). get_elem? (events_of e.knows.received) s ≡ some c.read.result.now) c.self.view_is event in (
      omega arith,
      copied_more (events_of c.args.self.now.knows.received) c.loop-event.out c.args.first
          c.loop-event.event-index c.read.result.now c.loop-event.invariant.1 (omega arith)
          (ap (λ (n : ℕ). get_elem? (events_of c.args.self.now.knows.received) n) (sym at) ∙ there),
    )
