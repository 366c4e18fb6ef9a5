use Rattle.std.proofs.Common.{◌≡◌, ◌++◌, map}
use Rattle.dr_disruptor.proofs.running_senders.senders_apart.Given as goal

abbrev pub invariant-loop-one : goal.invariant-loop-one
invariant-loop-one g l =
    (l.senders.items ++ map (λ s. s.sender) l.one-iterator.rest.items ≡ map (λ s. s.sender) l.fn.sent.items)
    × (l.answers.items ++ map (λ s. s.answer) l.one-iterator.rest.items ≡ map (λ s. s.answer) l.fn.sent.items)
