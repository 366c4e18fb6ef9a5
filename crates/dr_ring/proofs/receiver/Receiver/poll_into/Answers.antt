use Rattle.std.proofs.Common.{List, length, rules, arith, refl, ap, sym, subst, ◌∙◌}
use Rattle.std.proofs.lemmas.List.{take_at, drop_at}
use Rattle.dr_seq.specs.declared.event.Event.{Event}
use Rattle.dr_ring.specs.declared.record.ReceiverRecord.{ReceiverRecord}
use Rattle.dr_runs.specs.OneSender.Words.{closed_word}
use Rattle.dr_ring.specs.Meaning.Records.{receiver_looked}
use Rattle.dr_ring.specs.Calls.Ends.{ReceiverEnd}
use Rattle.dr_ring.specs.Calls.Receiving.{AnswersAsSeen, received_all}
use Rattle.dr_runs.specs.Runs.{IsBeginning}
use Rattle.dr_runs.proofs.Beginnings.{begins_on}
use Rattle.dr_ring.proofs.Polls.{saw, seen_round, poll_nothing, poll_batch, offers}
use Rattle.dr_runs.proofs.Offers.{of_count}
use Rattle.dr_ring.proofs.receiver.Receiver.poll_into.Goals as goal

pub returns-then-available-first-clause-call : goal.returns-then-available-first-clause-call
returns-then-available-first-clause-call c =
    let same = ap (λ (e : ReceiverEnd). e.knows) c.self.view_is in let closed = c.look_at_closed-closed.result in let cursor = c.look_at_cursor-cursor.result in
    let first = c.look_at_closed-closed.ensures.step.1 ∙ ap (λ (q : ReceiverRecord). receiver_looked q closed_word closed) same in
    let seen = seen_round c.args.self.now.knows _ _ _ closed cursor _ first c.look_at_cursor-cursor.ensures.step.1 c.barrier-available.ensures.answer in
    let next = c.self.invariant.taken ∙ ap (λ (q : ReceiverRecord). length q.received) same in (
      search rules,
      (
        (refl, (refl, (sym c.if-is_empty.ensures, tt))),
        (
          saw closed cursor seen.counts,
          seen.each,
          subst (AnswersAsSeen c.args.self.now.knows c.args.out.now c.barrier-available.new.self.knows c.args.out.now (saw closed cursor seen.counts))
              (sym c.nothing_offered.ensures)
              (poll_nothing _ _ c.args.out.now closed cursor c.barrier-available.result c.self.inside.taken next seen
              c.look_at_closed-closed.ensures.finds.1 (search rules) c.if-available-first.true),
        ),
      ),
      search rules,
      begins_on _ _ _
          (subst (λ (e : ReceiverEnd). IsBeginning e.past c.look_at_closed-closed.new.self.past) c.self.view_is c.look_at_closed-closed.ensures.step.2)
          (begins_on _ _ _ c.look_at_cursor-cursor.ensures.step.2 c.barrier-available.ensures.only.2),
    )

pub take_all-requires-clause-below : goal.take_all-requires-clause-below
take_all-requires-clause-below c =
    let closed = c.look_at_closed-closed.result in let cursor = c.look_at_cursor-cursor.result in
    let seen = seen_round c.self.inside.station.knows _ _ _ closed cursor _ c.look_at_closed-closed.ensures.step.1 c.look_at_cursor-cursor.ensures.step.1
    c.barrier-available.ensures.answer in
    offers _ _ closed cursor c.barrier-available.result _ seen
    (let len = c.split_at_mut-front.ensures.front_len in let more = c.if-available-first.false in let count = c.min-count.ensures in omega arith)

pub returns-clause-call : goal.returns-clause-call
returns-clause-call c =
    let same = ap (λ (e : ReceiverEnd). e.knows) c.self.view_is in let closed = c.look_at_closed-closed.result in let cursor = c.look_at_cursor-cursor.result in
    let first = c.look_at_closed-closed.ensures.step.1 ∙ ap (λ (q : ReceiverRecord). receiver_looked q closed_word closed) same in
    let seen = seen_round c.args.self.now.knows _ _ _ closed cursor _ first c.look_at_cursor-cursor.ensures.step.1 c.barrier-available.ensures.answer in
    let next = c.self.invariant.taken ∙ ap (λ (q : ReceiverRecord). length q.received) same in
    let many = c.take_all.ensures.length ∙ c.split_at_mut-front.ensures.front_len in (
      search rules,
      (
        (refl, (refl, (sym c.if-is_empty.ensures, tt))),
        (
          saw closed cursor seen.counts,
          seen.each,
          poll_batch _ _ _ c.args.out.now _ closed cursor c.barrier-available.result c.self.inside.taken c.min-count.result _ next seen (search rules)
              (c.take_all.ensures.only.1 ∙ ap (λ (xs : List Event). received_all c.barrier-available.new.self.knows xs)
              (sym (take_at c.take_all.new.out c.split_at_mut-front.result.1.now c.min-count.result many)))
              (drop_at c.take_all.new.out c.split_at_mut-front.result.1.now c.min-count.result many ∙ c.split_at_mut-front.ensures.back)
              (let more = c.if-available-first.false in omega arith) c.min-count.ensures (of_count _ _ _ refl),
        ),
      ),
      search rules,
      begins_on _ _ _
          (subst (λ (e : ReceiverEnd). IsBeginning e.past c.look_at_closed-closed.new.self.past) c.self.view_is c.look_at_closed-closed.ensures.step.2)
          (begins_on _ _ _ c.look_at_cursor-cursor.ensures.step.2 (begins_on _ _ _ c.barrier-available.ensures.only.2 c.take_all.ensures.only.2)),
    )
