use Rattle.std.proofs.Common.{◌≡◌, ◌+◌, take, drop}
use Rattle.dr_lent.specs.Events.{events_of}
use Rattle.dr_plain_senders.proofs.receiver.Receiver.copy_events.Given as goal

abbrev pub invariant-loop-event : goal.invariant-loop-event
invariant-loop-event g l =
    (l.sequence ≡ l.fn.first + l.event-index) × (take l.event-index l.out ≡ take l.event-index (drop l.fn.first (events_of l.fn.self.knows.received)))
