use Rattle.std.proofs.Common.{rules, sym, subst, ap, ◌∙◌}
use Rattle.std.specs.Prelude.{Contains}
use Rattle.dr_graph.specs.Meaning.Graph.{upstreams_of}
use Rattle.dr_plain_senders.specs.Meaning.Shape.{Shape}
use Rattle.dr_plain_senders.specs.Calls.Ends.{ReceiverStand}
use Rattle.dr_plain_senders.specs.Inside.Seats.{receiver_of}
use Rattle.dr_plain_senders.proofs.AllowedReceiving.{receiver_looks_at_count}
use Rattle.dr_plain_senders.proofs.laws.receiver.ReceiverStation.look_at_count.Goals as goal

pub count_word-requires : goal.count_word-requires
count_word-requires g c =
    let has = subst (λ (e : ReceiverStand g.row.T.Denot). Contains (upstreams_of e.plan.upstreams e.knows.number) c.args.upstream)
    (sym c.self.view_is) c.requires.upstream in
    let below = c.self.invariant.keyed.made.graph.layered _ _ has in let few = c.self.invariant.keyed.made.few in search rules

pub load-requires : goal.load-requires
load-requires g c =
    let plan = ap (λ (e : ReceiverStand g.row.T.Denot). e.plan) c.self.view_is ∙ c.requires.named.0 in
    let has = subst (λ (e : ReceiverStand g.row.T.Denot). Contains (upstreams_of e.plan.upstreams e.knows.number) c.args.upstream)
    (sym c.self.view_is) c.requires.upstream in
    let below = c.self.invariant.keyed.made.graph.layered _ _ has in (
      search rules,
      search rules,
      receiver_looks_at_count _ _ _ _ _ _ c.args.room _ (ap (λ r. r.table.shared.key) c.deref.ensures
          ∙ c.self.invariant.keyed.key ∙ plan) c.requires.named.1 c.count_word.ensures c.self.invariant.end
          (subst (λ (p : Shape g.row.T.Denot). Contains (upstreams_of p.upstreams (receiver_of c.self.inside.seat.me.0.ends).number) c.args.upstream)
          plan has),
    )
