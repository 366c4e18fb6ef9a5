use Rattle.std.proofs.Common.{rules, sym, subst, ◌≡◌, true}
use Rattle.dr_plain.specs.Calls.Ends.{SenderStand}
use Rattle.dr_plain.proofs.Allowed.{sender_closes}
use Rattle.dr_plain.proofs.laws.sender.SenderStation.close.Goals as goal

pub store-requires : goal.store-requires
store-requires g c =
    let ready = subst (λ (e : SenderStand g.row.T.Denot). (e.knows.halted ≡ true) × (e.knows.pending ≡ 0)) (sym c.self.view_is) (c.requires.halted, c.requires.published) in
    (search rules, search rules, sender_closes _ _ _ c.self.invariant.end ready.0 ready.1)
