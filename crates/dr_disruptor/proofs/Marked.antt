-- Batches of polls that have room for all that is offered.
use Rattle.std.proofs.Common.{◌≡◌, ℕ, ◌+◌, ◌-◌, ◌<◌, ◌≤◌, min, true, All, List, [], ◌∷◌, length, arith}
use Rattle.std.proofs.lemmas.List.Elements.{All-cons, All-head, All-nil, All-tail}
use Rattle.dr_workers.specs.Meaning.Work.{Dealt, FollowFrom}
use Rattle.dr_disruptor.specs.Serving.{IsMarked, IsPolled}

module _ {E : Type 0} where
  -- each of them has events, and its last one is marked
  pub all_marked : (most all s : ℕ) (batches : List (Dealt E)) → all ≤ most → FollowFrom s batches
      → All (IsPolled most (λ n. n ≤ all)) batches → All IsMarked batches
  all_marked most all s [] le order polled = All-nil IsMarked
  all_marked most all s (b ∷ batches) le order polled =
      let one = All-head (IsPolled most (λ n. n ≤ all)) b batches polled in
      let offered = one.0 in
      let within : offered ≤ all = one.1 in
      let many : length b.events ≡ min (offered - b.first) most = one.2 in
      let some : 0 < length b.events = order.1 in
      let whole : b.first + length b.events ≡ offered = omega arith in
      All-cons IsMarked b batches (some, one.3.1 whole)
      (all_marked most all (s + length b.events) batches le order.2 (All-tail (IsPolled most (λ n. n ≤ all)) b batches polled))
