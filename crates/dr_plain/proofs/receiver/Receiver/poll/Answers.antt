use Rattle.std.proofs.Common.{◌≡◌, ◌+◌, ◌==◌, false, length, rules, arith, refl, ap, sym, subst}
use Rattle.dr_meaning.specs.declared.command.Polled.{Polled}
use Rattle.dr_meaning.specs.declared.command.Polled.TheVariants.{Batch}
use Rattle.dr_graph.specs.Meaning.Graph.{upstreams_of}
use Rattle.dr_runs.specs.Runs.{IsBeginning}
use Rattle.dr_plain.specs.declared.record.ReceiverRecord.{ReceiverRecord}
use Rattle.dr_plain.specs.Calls.Ends.{ReceiverEnd, ReceiverStand}
use Rattle.dr_plain.specs.Calls.Receiving.{AnswersAsSeen}
use Rattle.dr_runs.proofs.Beginnings.{begins_on}
use Rattle.dr_plain.proofs.Polls.{saw, seen_round, poll_nothing, poll_batch, fits_nothing, fits_batch, new_in_hand}
use Rattle.dr_runs.proofs.Offers.{of_count}
use Rattle.dr_plain.proofs.receiver.Receiver.poll.Goals as goal

pub invariant_of-self : goal.invariant_of-self
invariant_of-self g c =
    let e = c.self.inside.station in let step = c.look_at_closed-closed.ensures.step in let closed = c.look_at_closed-closed.result in
    let cursor = c.look_round-cursor.result.0 in let available = c.look_round-cursor.result.1 in
    let L = seen_round e.knows _ _ c.args.room closed cursor available _ e.hand _ step.1 step.2 c.look_round-cursor.ensures.answer in
    fits_nothing e _ _ _ c.args.room closed cursor available _ c.self.invariant L c.if-available-first.true

pub returns-then-available-first-clause-call : goal.returns-then-available-first-clause-call
returns-then-available-first-clause-call g c =
    let e = c.self.inside.station in let step = c.look_at_closed-closed.ensures.step in let closed = c.look_at_closed-closed.result in
    let cursor = c.look_round-cursor.result.0 in let available = c.look_round-cursor.result.1 in
    let L = seen_round e.knows _ _ c.args.room closed cursor available _ e.hand _ step.1 step.2 c.look_round-cursor.ensures.answer in
    let some_room : (c.args.room == 0) ≡ false = search rules in
    let same = ap (λ (x : ReceiverEnd g.row.T.Denot). x.knows) c.self.view_is in let now = c.look_round-cursor.new.self.knows in
    let sees = subst (λ (r : ReceiverRecord g.row.T.Denot). (length L.counts ≡ length (upstreams_of r.plan.upstreams r.number)) × AnswersAsSeen r c.args.room now (saw closed cursor L.counts) c.nothing_offered.result) same (
      L.each,
      subst (λ (p : Polled). AnswersAsSeen e.knows c.args.room now (saw closed cursor L.counts) p) (sym c.nothing_offered.ensures)
          (poll_nothing e.knows now c.args.room closed cursor available _ e.hand _ c.self.invariant.taken L c.look_at_closed-closed.ensures.finds.1 c.if-available-first.true),
    ) in (
      search rules,
      ((refl, (refl, (some_room, tt))), (saw closed cursor L.counts, sees.0, sees.1)),
      search rules,
      begins_on _ _ _ (subst (λ (x : ReceiverEnd g.row.T.Denot). IsBeginning x.past c.look_at_closed-closed.new.self.past) c.self.view_is step.3) c.look_round-cursor.ensures.only.3,
    )

pub take_in-requires-clause-hand : goal.take_in-requires-clause-hand
take_in-requires-clause-hand g c =
    let e = c.self.inside.station in let step = c.look_at_closed-closed.ensures.step in let closed = c.look_at_closed-closed.result in
    let cursor = c.look_round-cursor.result.0 in let available = c.look_round-cursor.result.1 in
    let L = seen_round e.knows _ _ c.args.room closed cursor available _ e.hand _ step.1 step.2 c.look_round-cursor.ensures.answer in
    (e.hand, new_in_hand e c.look_round-cursor.new.self _ _ c.args.room closed cursor available _ c.self.invariant L c.min-count.result c.min-count.ensures (let more = c.if-available-first.false in omega arith))

pub invariant_of-self-2 : goal.invariant_of-self-2
invariant_of-self-2 g c =
    let e = c.self.inside.station in let step = c.look_at_closed-closed.ensures.step in let closed = c.look_at_closed-closed.result in
    let cursor = c.look_round-cursor.result.0 in let available = c.look_round-cursor.result.1 in
    let L = seen_round e.knows _ _ c.args.room closed cursor available _ e.hand _ step.1 step.2 c.look_round-cursor.ensures.answer in
    fits_batch e _ _ _ c.args.room closed cursor available _ c.self.invariant L c.min-count.result c.min-count.ensures (let more = c.if-available-first.false in omega arith)
    _ _ c.take_in.ensures.hand c.take_in.ensures.parts

pub returns-clause-call : goal.returns-clause-call
returns-clause-call g c =
    let e = c.self.inside.station in let step = c.look_at_closed-closed.ensures.step in let closed = c.look_at_closed-closed.result in
    let cursor = c.look_round-cursor.result.0 in let available = c.look_round-cursor.result.1 in let count = c.min-count.result in
    let L = seen_round e.knows _ _ c.args.room closed cursor available _ e.hand _ step.1 step.2 c.look_round-cursor.ensures.answer in
    let some_room : (c.args.room == 0) ≡ false = search rules in let first = c.self.inside.taken in
    let same = ap (λ (x : ReceiverEnd g.row.T.Denot). x.knows) c.self.view_is in let now = c.look_round-cursor.new.self.knows in
    let last = first + count == available in
    let sees = subst (λ (r : ReceiverRecord g.row.T.Denot). (length L.counts ≡ length (upstreams_of r.plan.upstreams r.number)) × AnswersAsSeen r c.args.room now (saw closed cursor L.counts) (Batch first count last)) same (
      L.each,
      poll_batch e.knows now c.args.room closed cursor available first e.hand _ c.self.invariant.taken L count last (let more = c.if-available-first.false in omega arith)
          c.min-count.ensures (of_count (first + count) available last refl),
    ) in
    let after = ap (λ (x : ReceiverStand g.row.T.Denot). x.knows) c.take_in.ensures.hand in (
      search rules,
      (
        (refl, (refl, (some_room, tt))),
        (
          saw closed cursor L.counts,
          sees.0,
          subst (λ (r : ReceiverRecord g.row.T.Denot). AnswersAsSeen c.args.self.now.knows c.args.room r (saw closed cursor L.counts) (Batch first count last)) (sym after) sees.1,
        ),
      ),
      search rules,
      begins_on _ _ _ (subst (λ (x : ReceiverEnd g.row.T.Denot). IsBeginning x.past c.look_at_closed-closed.new.self.past) c.self.view_is step.3) (subst (λ (x : ReceiverStand g.row.T.Denot). IsBeginning c.look_at_closed-closed.new.self.past x.past) (sym c.take_in.ensures.hand) c.look_round-cursor.ensures.only.3),
    )
