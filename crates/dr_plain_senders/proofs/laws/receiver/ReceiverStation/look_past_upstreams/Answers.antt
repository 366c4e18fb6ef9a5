use Rattle.std.proofs.Common.{◌≡◌, ℕ, ◌-◌, ◌++◌, List, arith, sym, ap, ◌∙◌, subst, length, get_or}
use Rattle.std.specs.List.Sorted.{IsStrictlyIncreasing}
use Rattle.dr_plain_senders.specs.Meaning.Shape.{Shape}
use Rattle.dr_plain_senders.specs.Meaning.Words.{count_word}
use Rattle.dr_plain_senders.specs.Meaning.Records.{taken_at_count}
use Rattle.dr_plain_senders.specs.declared.record.ReceiverRecord.{ReceiverRecord}
use Rattle.dr_plain_senders.specs.Calls.Ends.{ReceiverStand}
use Rattle.dr_plain_senders.specs.Calls.Finds.{FindsEvents}
use Rattle.dr_plain_senders.specs.Calls.Receiving.{ups_of}
use Rattle.dr_plain_senders.specs.Inside.Seats.{taken_by_poll}
use Rattle.dr_plain_senders.proofs.Offers.{round_last}
use Rattle.dr_plain_senders.proofs.laws.receiver.ReceiverStation.look_past_upstreams.Goals as goal

pub returns-clause-answer : goal.returns-clause-answer
returns-clause-answer g c =
    let r = c.args.self.now.knows in let k = c.args.self.now.plan in let ups = c.upstreams.ensures in let some = c.requires in
    let last : c.upstreams.result.now ≡ ups_of k r = ups in
    let i : ℕ = length c.upstreams.result.now - 1 in let s = c.see_counts-least.ensures.only in let t = c.look_at_count-count.ensures.step in
    let first = c.see_counts-least.ensures.answer in let plan = s.0.1 in
    let same : ups_of c.see_counts-least.new.self.plan c.see_counts-least.new.self.knows ≡ ups_of k r =
    (λ j. ups_of (plan j) c.see_counts-least.new.self.knows) ∙ ap (λ (x : ReceiverRecord g.row.T.Denot). ups_of k x) first.is in
    let rising =
    subst (λ (e : ReceiverStand g.row.T.Denot). IsStrictlyIncreasing (ups_of e.plan e.knows)) c.self.view_is (c.self.invariant.keyed.made.graph.rising _) in
    round_last k r _ _ c.args.room c.args.claimed _ _ i _ c.look_at_count-count.result c.args.self.now.hand _ t.0 rising first
    (let len = ap length last in omega arith) (ap (λ (xs : List ℕ). get_or xs i 0) (sym (c.upstreams-2.ensures ∙ same)))
    (t.1 ∙ ap (λ (p : Shape g.row.T.Denot).
    taken_at_count p c.see_counts-least.new.self.knows (count_word (get_or c.upstreams-2.result.now i 0)) c.look_at_count-count.result c.args.room)
    plan)
    t.2.1 (t.2.2 ∙ (λ j. taken_by_poll (plan j) c.see_counts-least.new.self.knows t.0 ++ s.2 j))
    (subst (λ (p : Shape g.row.T.Denot).
    FindsEvents p c.see_counts-least.new.self.knows (count_word (get_or c.upstreams-2.result.now i 0)) c.look_at_count-count.result)
    plan c.look_at_count-count.ensures.finds)
    c.lesser.ensures
