-- What the ends of a ring know of each other, once they come together.
use Rattle.std.specs.Prelude.{◌≡◌, ◌⊎◌, ℕ, ◌+◌, ◌≤◌, true, List, length, take, All, Contains}
use mathlib.Core.Option.{some}
use lib.ListN.{get_elem?}
use Rattle.dr_graph.specs.Meaning.Graph.{upstreams_of, finals}
use Rattle.dr_runs.specs.declared.look.Look.{Look}
use Rattle.dr_runs.specs.OneSender.Words.{count_word, cursor_word, halt_word}
use Rattle.dr_plain.specs.declared.record.SenderRecord.{SenderRecord}
use Rattle.dr_plain.specs.declared.record.ReceiverRecord.{ReceiverRecord}
use Rattle.dr_plain.specs.Meaning.Records.{claimed, seen_before}

module _ {T : Type 0} where
  -- a receiver has the beginning of what its sender published, all of it where it was told that the ring drained;
  -- it saw no more published, nor completed by a handler, than there is; and a final handler leaves room for all that is claimed
  pub record HasBeginning (s : SenderRecord T) (r : ReceiverRecord T) : Type 0 where
    pub beginning : r.received ≡ take (length r.received) s.published
    pub taken : length r.received ≤ length s.published
    pub drained : r.told ≡ true → r.received ≡ s.published
    pub completed : r.completed ≤ length r.received
    pub seen : (i u : ℕ) (x : Look) → get_elem? r.looks i ≡ some x → (x.word ≡ cursor_word) ⊎ (x.word ≡ count_word u) → x.value ≤ length s.published
    pub room : Contains (finals s.plan.upstreams) r.number → claimed s ≤ s.plan.size + r.completed

  -- wherever the sender looked before it halted the ring itself, it found that nobody had halted it
  abbrev pub FoundUnhalted : SenderRecord T → Type 0
  FoundUnhalted s = All (λ x. x.word ≡ halt_word → x.value ≡ 0) (seen_before s)

  -- what a receiver took, each of its upstreams completed
  abbrev pub FollowsUpstream : ReceiverRecord T → ReceiverRecord T → Type 0
  FollowsUpstream r u = Contains (upstreams_of r.plan.upstreams r.number) u.number → length r.received ≤ u.completed

  -- a sender and receivers agree
  pub record Settles (s : SenderRecord T) (rs : List (ReceiverRecord T)) : Type 0 where
    pub each : (h : ℕ) (r : ReceiverRecord T) → get_elem? rs h ≡ some r → HasBeginning s r
    pub follow : (h j : ℕ) (r u : ReceiverRecord T) → get_elem? rs h ≡ some r → get_elem? rs j ≡ some u → FollowsUpstream r u
