use Rattle.std.proofs.Common.{◌≡◌, ◌<◌, ◌∷◌, length, set, arith, ap, sym, subst, ◌∙◌}
use Rattle.dr_runs.specs.Gathering.{IsInView}
use Rattle.dr_runs.proofs.Gathering.{last_of, in_own, gathering_more, gathering_all, filled_more, filled_all}
use Rattle.dr_ring.specs.Inside.Seats.{Sitting, ring_ends, as_receiver}
use Rattle.dr_ring.specs.Inside.Gathering.{receiver_known}
use Rattle.dr_ring.specs.declared.record.ReceiverRecord.{ReceiverRecord}
use Rattle.dr_ring.specs.Calls.Ends.{ReceiverEnd}
use Rattle.dr_ring.proofs.settled.gather_receivers.Goals as goal

pub unite-requires-clause-table : goal.unite-requires-clause-table
unite-requires-clause-table c =
    let t = c.requires.table in let inv = c.loop-receiver.invariant in let at = t.0 ∙ ap (λ r. r.table.shared.table_id) (sym c.deref.ensures) in (
      inv.0 ∙ at,
      ap (λ (e : ReceiverEnd). e.ring) (c.station.view_is ∙ c.receiver.view_is)
          ∙ last_of (λ (e : ReceiverEnd). e.ring) _ _ _ _ _ _ c.requires.receivers inv.1.1.split c.in-Some.ensures.items ∙ at,
      subst (λ r. 0 < r.table.shared.table_id.words) (sym c.deref.ensures) (omega arith),
    )

pub loop-receiver-preserved : goal.loop-receiver-preserved
loop-receiver-preserved c =
    let inv = c.loop-receiver.invariant in
    let knows = ap (λ (e : ReceiverEnd). e.knows) c.receiver.view_is in let is = c.station.view_is ∙ c.receiver.view_is in
    let came : IsInView ring_ends c.station.inside.seat.me.0 (receiver_known c.in-Some.receiver) =
    in_own ring_ends c.station.inside.seat.me (receiver_known c.in-Some.receiver) (c.station.invariant.end ∙ ap (λ (e : ReceiverEnd). as_receiver e.knows) is)
    (ap (λ (e : ReceiverEnd). e.past) is) (ap (λ (e : ReceiverEnd). e.stored) is) in
    let place : c.len.result ≡ length c.pop.new.self.items = (let ok = c.pop.new.self.ok in let len = c.len.ensures in omega arith) in
    let taken : c.receiver.inside.taken ≡ length c.in-Some.receiver.knows.received =
    c.receiver.invariant.taken ∙ ap (λ (q : ReceiverRecord). length q.received) knows in
    let completed : c.receiver.inside.completed ≡ c.in-Some.receiver.knows.completed =
    c.receiver.invariant.completed ∙ ap (λ (q : ReceiverRecord). q.completed) knows in (
      c.unite.ensures.seat.0 ∙ inv.0,
      (
        c.in-Some.receiver ∷ inv.1.0,
        gathering_more c.station.inside.seat.me.0 inv.1.1 c.in-Some.ensures.items came (ap (λ (m : Sitting). m.0) c.unite.ensures.view),
        filled_more inv.1.2 inv.1.1.split c.in-Some.ensures.items
            (λ i. set c.loop-receiver.counts.items (place i) record { taken = taken i; completed = completed i }),
      ),
    )

pub returns-clause-view : goal.returns-clause-view
returns-clause-view c =
    gathering_all c.loop-receiver.invariant.1.1 (let ok = c.loop-receiver.receivers.ok in let none = c.in_default.ensures.cases.0 in omega arith)

pub returns-clause-counts : goal.returns-clause-counts
returns-clause-counts c = let inv = c.loop-receiver.invariant in
    filled_all inv.1.2 inv.1.1.split (let ok = c.loop-receiver.receivers.ok in let none = c.in_default.ensures.cases.0 in omega arith)
