use Rattle.std.proofs.Common.{rules, ◌≡◌, length, ap, sym, subst, ◌∙◌}
use Rattle.std.specs.Prelude.{Contains}
use Rattle.dr_graph.specs.Meaning.Graph.{upstreams_of}
use Rattle.dr_runs.specs.OneSender.Words.{count_word as count_word_of}
use Rattle.dr_plain.specs.Meaning.Records.{taken_at, receiver_looked}
use Rattle.dr_plain.specs.Calls.Ends.{ReceiverStand}
use Rattle.dr_plain.specs.Inside.Seats.{End, receiver_of}
use Rattle.dr_plain.proofs.Allowed.{receiver_looks_at_count}
use Rattle.dr_plain.proofs.laws.receiver.ReceiverStation.look_at_count.Goals as goal

pub count_word-requires : goal.count_word-requires
count_word-requires g c =
    let has = subst (λ (e : ReceiverStand g.row.T.Denot). Contains (upstreams_of e.knows.plan.upstreams e.knows.number) c.args.upstream)
    (sym c.self.view_is) c.requires.upstream in
    let below = c.self.invariant.made.graph.layered _ _ has in let few = c.self.invariant.made.few in search rules

pub load-requires : goal.load-requires
load-requires g c =
    let has = subst (λ (e : ReceiverStand g.row.T.Denot). Contains (upstreams_of e.knows.plan.upstreams e.knows.number) c.args.upstream)
    (sym c.self.view_is) c.requires.upstream in
    let below = c.self.invariant.made.graph.layered _ _ has in
    (search rules, search rules, receiver_looks_at_count _ _ _ _ _ c.args.room _ c.requires.named c.count_word.ensures c.self.invariant.end has)

pub returns-clause-step : goal.returns-clause-step
returns-clause-step g c =
    let t = c.load.ensures.2.0 in let word = c.count_word.ensures in
    let count : length t.0 ≡ taken_at c.args.self.now.knows (count_word_of c.args.upstream) c.load.result c.args.room =
    t.1 ∙ (λ i. taken_at ((c.self.view_is i).knows) (word i) c.load.result (sym c.requires.named i)) in
    let looked : receiver_of c.load.new.seat.me.0.ends ≡ receiver_looked c.args.self.now.knows (count_word_of c.args.upstream) c.load.result t.0 =
    ap (λ (m : End g.row.T.Denot). receiver_of m.0) t.2 ∙ (λ i. receiver_looked ((c.self.view_is i).knows) (word i) c.load.result t.0) in
    (t.0, count, search rules)
