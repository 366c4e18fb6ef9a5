use Rattle.std.proofs.Common.{rules, sym, subst, ◌≡◌, ◌+◌, ◌≤◌, ◌++◌, length}
use Rattle.dr_plain.specs.Calls.Ends.{SenderStand}
use Rattle.dr_plain.specs.Inside.Seats.{given_by_publication}
use Rattle.dr_plain.proofs.Allowed.{sender_publishes}
use Rattle.dr_plain.proofs.laws.sender.SenderStation.publish.Goals as goal

pub store-requires : goal.store-requires
store-requires g c =
    let lents = g.J.Lends.lents in let rest = c.requires.hand.0 in
    let ready = subst (λ (e : SenderStand g.row.T.Denot). (e.hand ≡ given_by_publication e.knows lents ++ rest) × (c.args.upto ≡ length e.knows.published + length lents) × (length lents ≤ e.knows.pending))
    (sym c.self.view_is) (c.requires.hand.1, c.requires.upto, c.requires.within) in
    (search rules, search rules, sender_publishes _ _ _ _ lents rest c.self.invariant.end ready.0 ready.1 c.requires.more ready.2)
