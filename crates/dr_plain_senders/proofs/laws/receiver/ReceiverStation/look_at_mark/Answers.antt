use Rattle.std.proofs.Common.{rules, sym, subst, ap, ◌∙◌, ◌≡◌, [], length}
use Rattle.dr_graph.specs.Meaning.Graph.{upstreams_of}
use Rattle.dr_plain_senders.specs.Meaning.Shape.{Shape}
use Rattle.dr_plain_senders.specs.Calls.Ends.{ReceiverStand}
use Rattle.dr_plain_senders.specs.Inside.Seats.{receiver_of}
use Rattle.dr_plain_senders.proofs.AllowedReceiving.{receiver_looks_at_mark}
use Rattle.dr_plain_senders.proofs.laws.receiver.ReceiverStation.look_at_mark.Goals as goal

pub load-requires : goal.load-requires
load-requires g c =
    let plan = ap (λ (e : ReceiverStand g.row.T.Denot). e.plan) c.self.view_is ∙ c.requires.named.0 in
    let next = subst (λ (e : ReceiverStand g.row.T.Denot). c.args.sequence ≡ length e.knows.received) (sym c.self.view_is) c.requires.next in
    let first = subst (λ (e : ReceiverStand g.row.T.Denot). upstreams_of e.plan.upstreams e.knows.number ≡ []) (sym c.self.view_is) c.requires.first in (
      search rules,
      search rules,
      receiver_looks_at_mark _ _ _ _ _ c.args.sequence
          c.args.room _ (ap (λ r. r.table.shared.key) c.deref-2.ensures ∙ c.self.invariant.keyed.key ∙ plan) c.requires.named.1 next
          (search rules) c.self.invariant.end
          (subst (λ (p : Shape g.row.T.Denot). upstreams_of p.upstreams (receiver_of c.self.inside.seat.me.0.ends).number ≡ []) plan first),
    )
