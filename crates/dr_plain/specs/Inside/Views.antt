-- How an end's caller sees it.
use Rattle.std.specs.Prelude.{List, length, Option}
use Rattle.dr_runs.specs.declared.written.Written.{Written}
use Rattle.dr_plain.specs.Calls.Ends.{SenderStand, ReceiverStand, SenderEnd, ReceiverEnd}
use Rattle.dr_plain.specs.Inside.Noted.{writes_from}

module _ {T : Type 0} where
  abbrev pub sender_end : SenderStand T → Written → List (Option T) → SenderEnd T
  sender_end e w cells = record {
    ring = e.ring;
    knows = e.knows;
    writes = writes_from w cells (length e.knows.published) e.knows.pending;
    cells = cells;
    past = e.past;
    stored = e.stored;
  }

  abbrev pub receiver_end : ReceiverStand T → ReceiverEnd T
  receiver_end e = record { ring = e.ring; knows = e.knows; past = e.past; stored = e.stored }
