-- A poll hands over at least what was there.
use Rattle.std.specs.Prelude.{◌≡◌, ℕ, ◌-◌, ◌≤◌, min, List, length, Ok}
use mathlib.Core.Option.{some}
use lib.ListN.{get_elem?}
use Rattle.dr_seq.specs.declared.event.Event.{Event}
use Rattle.dr_meaning.specs.declared.command.Polled.{Polled}
use Rattle.dr_meaning.specs.Meaning.Machine.{available}
use Rattle.dr_runs.specs.Polls.{handed}
use Rattle.dr_ring.specs.Meaning.Shape.{Shape, ring_setup}
use Rattle.dr_ring.specs.Meaning.Rule.{World}
use Rattle.dr_ring.specs.Meaning.Moments.{picture_of}
use Rattle.dr_ring.specs.declared.record.ReceiverRecord.{ReceiverRecord}
use Rattle.dr_ring.specs.Calls.Receiving.{Polls}

-- A poll hands over at least what the picture had for its handler at any earlier moment at which its receiver stood as the poll found it,
-- as far as there is room; so where that was more than the handler took, it answers a batch.
abbrev pub HandsWhatWasThere : Shape → World → World → Type 0
HandsWhatWasThere k w u =
    (h : ℕ) (r r' : ReceiverRecord) (out out' : List Event) (polled : Polled) → get_elem? w.receivers h ≡ some r → get_elem? u.receivers h ≡ some r'
    → Polls r out r' out' (Ok polled) → min (available (ring_setup k) (picture_of k w) h - length r.received) (length out) ≤ handed polled
