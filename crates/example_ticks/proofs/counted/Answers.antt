use Rattle.std.proofs.Common.{◌≡◌, ◌<◌, ◌^◌, ◌∷◌, [], List, arith, length, map, refl, subst, sym, ◌∙◌}
use Rattle.dr_plain.specs.Calls.Ends.{ReceiverEnd}
use Rattle.dr_plain.specs.Calls.Settling.{AreAllEnds}
use Rattle.dr_plain.specs.Meaning.Settling.{Settles}
use Rattle.dr_plain.proofs.Keeping.{still_all}
use Rattle.example_ticks.proofs.Counting.{all_sent, counted_all}
use Rattle.example_ticks.specs.declared.Tick.{Tick}
use Rattle.example_ticks.proofs.counted.Goals as goal

-- Each step has the name of what the source calls or matches there: `join-first` is the first join, `in-Ok` the arm of `let Ok(second)`
-- (a further one has its function's name behind, as `in-Ok-start_third`), `close-closed-2` the close after `produce`.
pub settle_all-settled-requires : goal.settle_all-settled-requires
settle_all-settled-requires g c =
    let first = rw c.in_ok-first.ensures at c.join-first.ensures in
    let second = rw c.in-Ok.ensures at c.join-second.ensures in
    let closed = c.close-closed-2 in
    let halter = c.in_ok-sender.halter in
    subst (λ (l : List (ReceiverEnd Tick)). AreAllEnds closed.new.self l halter) (sym c.in_ok-receivers.ensures.items)
    (still_all c.in_ok-sender.sender closed.new.self _ _ halter (closed.ensures.0.0 ∙ c.produce-produced.ensures.kept)
    (λ i. first.counted.place i ∷ second.counted.place i ∷ []) c.in_ok-sender.ensures.all)

pub returns : goal.returns
returns g c =
    let first = rw c.in_ok-first.ensures at c.join-first.ensures in
    let second = rw c.in-Ok.ensures at c.join-second.ensures in
    let produced = c.produce-produced in
    let closed = c.close-closed-2 in
    let fresh = c.in_ok-sender.ensures.fresh in
    let done = c.settle_all-settled.ensures in
    let all : produced.result.sent ≡ length c.args.ticks.now = rw c.in_default-fault.is at produced.ensures.all in
    let many = all_sent c.in_ok-sender.sender produced.new.inlet closed.new.self closed.result c.args.ticks.now produced.result.sent fresh.0 produced.ensures.sent
    all closed.ensures in
    let sent : c.published.result ≡ length closed.new.self.knows.published = c.published.ensures ∙ done.published in
    let few : length closed.new.self.knows.published < 2 ^ 64 = omega arith in
    let lists = subst (λ (l : List (ReceiverEnd Tick)). Settles closed.new.self.knows (map (λ (e : ReceiverEnd Tick). e.knows) l)) c.in_ok-receivers.ensures.items done.lists in (
      sent ∙ many,
      counted_all first fresh.1 (lists.each 0 _ refl) few ∙ sym sent,
      counted_all second fresh.2 (lists.each 1 _ refl) few ∙ sym sent,
    )
