use Rattle.std.proofs.Common.{rules, ◌≡◌, ◌++◌, ◌∷◌, [], ap, arith, length, length-append, map, subst, All}
use Rattle.std.specs.Vec.Iter.{into_iter_items}
use Rattle.std.proofs.lemmas.List.Elements.{All-head, All-rest}
use Rattle.std.proofs.lemmas.Grind.{common_steps}
use lib.ListN.{length-map}
use Rattle.dr_plain_senders.specs.Calls.Ends.{SenderEnd}
use Rattle.dr_disruptor.specs.Feeding.{IsUnsent, fed_sender, given_feed}
use Rattle.dr_disruptor.proofs.feeds.start_feeds.Goals as goal

pub loop-sender-preserved : goal.loop-sender-preserved
loop-sender-preserved g c =
    let inv = c.loop-sender.invariant in
    let started = c.push.new.self.items in
    let rest = c.next.new.self.rest.items in
    let left = into_iter_items c.next-in-loop-sender.new.self in
    let is_started : started ≡ c.loop-sender.started.items ++ c.in-Ok.feeder ∷ [] = search rules in
    let ends : map fed_sender started ++ rest ≡ c.args.senders.items = grind (arith, common_steps) in
    let feeds : map given_feed started ++ left ≡ c.args.feeds.items = grind (arith, common_steps) in
    let same : length rest ≡ length left = search rules in
    let all = ap length feeds in
    let both = length-append (map given_feed started) left in
    let many = length-map started given_feed in
    let next : into_iter_items c.loop-sender.feeds ≡ c.in-Some-next.feed ∷ left = search rules in
    let next_end : c.loop-sender.sender-iterator.rest.items ≡ c.in-Some.sender ∷ rest = search rules in (
      ends,
      feeds,
      same,
      omega arith,
      All-rest (λ f. g.F.SendsBy.callable f) c.in-Some-next.feed left (into_iter_items c.loop-sender.feeds) next inv.4,
      All-rest (λ (s : SenderEnd g.row.E.Denot). IsUnsent s) c.in-Some.sender rest c.loop-sender.sender-iterator.rest.items next_end inv.5,
    )

pub spawn_with-requires-clause-runs : goal.spawn_with-requires-clause-runs
spawn_with-requires-clause-runs g c =
    let left = into_iter_items c.next-in-loop-sender.new.self in
    let rest = c.next.new.self.rest.items in
    let next : into_iter_items c.loop-sender.feeds ≡ c.in-Some-next.feed ∷ left = search rules in
    let next_end : c.loop-sender.sender-iterator.rest.items ≡ c.in-Some.sender ∷ rest = search rules in
    let Callable : g.row.F.Denot → Type 0 = λ f. g.F.SendsBy.callable f in
    let Unsent : SenderEnd g.row.E.Denot → Type 0 = λ s. IsUnsent s in
    let callable : g.F.SendsBy.callable c.in-Some-next.feed = All-head Callable c.in-Some-next.feed left (subst (All Callable) next c.loop-sender.invariant.4) in
    let unsent : IsUnsent c.in-Some.sender = All-head Unsent c.in-Some.sender rest (subst (All Unsent) next_end c.loop-sender.invariant.5) in
    search rules
