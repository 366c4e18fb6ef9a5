use Rattle.std.proofs.Common.{◌≡◌, ◌+◌, ◌++◌, All, length, map}
use Rattle.std.specs.Vec.Iter.{into_iter_items}
use Rattle.dr_disruptor.specs.Feeding.{IsUnsent, fed_sender, given_feed}
use Rattle.dr_disruptor.proofs.feeds.start_feeds.Given as goal

-- each sender and each closure is with a thread, or yet to come
abbrev pub invariant-loop-sender : goal.invariant-loop-sender
invariant-loop-sender g l =
    (map fed_sender l.started.items ++ l.sender-iterator.rest.items ≡ l.fn.senders.items)
    × (map given_feed l.started.items ++ into_iter_items l.feeds ≡ l.fn.feeds.items)
    × (length l.sender-iterator.rest.items ≡ length (into_iter_items l.feeds))
    × (length l.started.items + length (into_iter_items l.feeds) ≡ length l.fn.feeds.items)
    × All (λ f. g.F.SendsBy.callable f) (into_iter_items l.feeds)
    × All (λ s. IsUnsent s) l.sender-iterator.rest.items
