use Rattle.std.proofs.Common.{rules, sym, subst, ◌≡◌, ◌<◌, ◌≤◌, None, length}
use Rattle.dr_ring.specs.Meaning.Records.{claimed, AreWritten}
use Rattle.dr_ring.specs.Calls.Ends.{SenderEnd}
use Rattle.dr_ring.proofs.Allowed.{sender_publishes}
use Rattle.dr_ring.proofs.laws.sender.SenderStation.publish.Goals as goal

pub store-requires : goal.store-requires
store-requires c =
    let ready = subst (λ (e : SenderEnd). (length e.knows.sent.published < c.args.upto) × (c.args.upto ≤ claimed e.knows)
    × AreWritten e.knows c.args.upto × (e.knows.half ≡ None)) (sym c.self.view_is)
    (c.requires.more, c.requires.within, c.requires.written, c.requires.whole) in
    (search rules, search rules, sender_publishes _ _ _ _ c.self.invariant.end ready.0 ready.1 ready.2 ready.3)
