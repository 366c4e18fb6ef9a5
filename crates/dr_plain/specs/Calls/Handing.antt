-- A poll is offered at least what was there, and hands it over.
use Rattle.std.specs.Prelude.{◌≡◌, ℕ, ◌-◌, ◌≤◌, min, List, [], ◌++◌, length, Contains, Ok}
use mathlib.Core.Option.{some}
use lib.ListN.{get_elem?}
use Rattle.dr_meaning.specs.declared.command.Polled.{Polled}
use Rattle.dr_meaning.specs.Meaning.Machine.{available}
use Rattle.dr_graph.specs.Meaning.Graph.{upstreams_of}
use Rattle.dr_runs.specs.OneSender.Words.{cursor_word, count_word}
use Rattle.dr_runs.specs.declared.look.Look.{Look}
use Rattle.dr_plain.specs.Meaning.Shape.{Shape, ring_setup}
use Rattle.dr_plain.specs.Meaning.Records.{barrier_seen}
use Rattle.dr_plain.specs.Meaning.Rule.{World}
use Rattle.dr_plain.specs.Meaning.Moments.{picture_of}
use Rattle.dr_plain.specs.declared.record.ReceiverRecord.{ReceiverRecord}
use Rattle.dr_plain.specs.Calls.Receiving.{PollSees}
use Rattle.dr_runs.specs.Polls.{handed}

-- among some looks is one at a word
abbrev pub LooksAt : List Look → ℕ → Type 0
LooksAt seen word = (i : ℕ) × (x : Look) × (get_elem? seen i ≡ some x) × (x.word ≡ word)

-- a handler looked at all that its barrier goes by: at each upstream's count or, where it has no upstream, at the cursor
abbrev pub SawBarrier : Shape → ℕ → List Look → Type 0
SawBarrier k h seen =
    (upstreams_of k.upstreams h ≡ [] → LooksAt seen cursor_word)
    × ((u : ℕ) → Contains (upstreams_of k.upstreams h) u → LooksAt seen (count_word u))

module _ {T : Type 0} where
  -- Once a receiver looked at all that its barrier goes by, it is offered at least what the picture had for its handler before those looks.
  -- Of that it takes at its last look as much as there is room for.
  abbrev pub OffersWhatWasThere : Shape → World T → World T → Type 0
  OffersWhatWasThere k w u =
      (h : ℕ) (r r' : ReceiverRecord T) (seen : List Look) → get_elem? w.receivers h ≡ some r → get_elem? u.receivers h ≡ some r'
      → r'.looks ≡ r.looks ++ seen → SawBarrier k h seen → available (ring_setup k) (picture_of k w) h ≤ barrier_seen k h r'.looks

-- A poll hands over at least what the picture had for its handler at any earlier moment at which its receiver stood as the poll found it,
-- as far as there is room; so where that was more than the handler took, it answers a batch.
abbrev pub HandsWhatWasThere : {T : Type 0} → Shape → World T → World T → Type 0
HandsWhatWasThere {T} k w u =
    (h room : ℕ) (r r' : ReceiverRecord T) (polled : Polled) → get_elem? w.receivers h ≡ some r → get_elem? u.receivers h ≡ some r'
    → PollSees r room r' (Ok polled) → min (available (ring_setup k) (picture_of k w) h - length r.received) room ≤ handed polled
