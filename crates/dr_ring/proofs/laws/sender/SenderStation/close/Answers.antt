use Rattle.std.proofs.Common.{rules, sym, subst, ◌≡◌, true, []}
use Rattle.dr_ring.specs.Calls.Ends.{SenderEnd}
use Rattle.dr_ring.proofs.Allowed.{sender_closes}
use Rattle.dr_ring.proofs.laws.sender.SenderStation.close.Goals as goal

pub store-requires : goal.store-requires
store-requires c =
    let ready = subst (λ (e : SenderEnd). (e.knows.halted ≡ true) × (e.knows.sent.pending ≡ [])) (sym c.self.view_is)
    (c.requires.halted, c.requires.published) in
    (search rules, search rules, sender_closes _ _ _ c.self.invariant.end ready.0 ready.1)
