-- What a ring's sender is that has the ring's handlers on its thread.
use Rattle.std.specs.Prelude.{◌≡◌, ◌≢◌, ℕ, List, Err, Ok, length}
use mathlib.Core.Option.{some}
use lib.ListN.{get_elem?}
use Rattle.dr_meaning.specs.Calls.Calling.{ChangesEvent, ClaimsStretch, InPlaceCall, InPlaceInletCall, PublishesFilled}
use Rattle.dr_meaning.specs.Calls.Ends.{Received}
use Rattle.dr_meaning.specs.Calls.Handling.{Relation}
use Rattle.dr_plain.specs.Calls.Ends.{ReceiverEnd, SenderEnd, SenderPlace, sender_place}
use Rattle.dr_meaning.specs.declared.claim_fault.ClaimFault.{ClaimFault}
use Rattle.dr_meaning.specs.declared.claim_fault.ClaimFault.TheVariants.{Refused}
use Rattle.dr_meaning.specs.declared.command.Polled.{Polled}
use Rattle.dr_meaning.specs.declared.refusal.Refusal.TheVariants.{NoRoom}
use Rattle.dr_meaning.specs.Calls.InPlaceInlets.{Sending}
use Rattle.dr_plain.specs.Calls.InPlace.{sending_of, sends_in_place}
use Rattle.dr_plain.specs.Calls.Turning.{TurnCall}
use Rattle.dr_disruptor.specs.Serving.{Shows}

-- each of some handlers was shown what its end handed out, from what both were before
pub record AreShown {O A K E : Type 0} (kept : O → K) (received : O → Received E) (saw : O → ℕ → Type 0) (does : O → InPlaceCall → O → Type 0) (goes : Relation E A) (room : ℕ)
    (ends : List O) (starts : List A) (outlets : List O) (handlers : List A) : Type 0 where
  pub many : length outlets ≡ length ends
  pub alike : length handlers ≡ length outlets
  pub begun : length starts ≡ length ends
  pub each : (h : ℕ) (outlet : O) (handler : A) → get_elem? outlets h ≡ some outlet → get_elem? handlers h ≡ some handler
      → (end : O) × (start : A) × (get_elem? ends h ≡ some end) × (get_elem? starts h ≡ some start) × Shows kept received saw does goes room start handler end outlet

-- each of a ring's handlers had one turn, with room for so many: it was shown what its poll found and completed that, or its poll's looks found nothing for it
pub record HadTurns {E A : Type 0} (goes : Relation E A) (room : ℕ) (ends : List (ReceiverEnd E)) (starts : List A) (receivers : List (ReceiverEnd E)) (handlers : List A) : Type 0 where
  pub many : length receivers ≡ length ends
  pub alike : length handlers ≡ length receivers
  pub begun : length starts ≡ length ends
  pub each : (h : ℕ) (receiver : ReceiverEnd E) (handler : A) → get_elem? receivers h ≡ some receiver → get_elem? handlers h ≡ some handler
      → (end : ReceiverEnd E) × (start : A) × (get_elem? ends h ≡ some end) × (get_elem? starts h ≡ some start)
      × (answer : Polled) × TurnCall goes end room receiver (Ok answer) start handler

-- the ring's sender, with which ends and handlers it began, what they are by now, and how many events they take at once
pub record HereEnd (E A : Type 0) : Type 0 where
  pub sender : SenderEnd E
  pub ends : List (ReceiverEnd E)
  pub starts : List A
  pub receivers : List (ReceiverEnd E)
  pub handlers : List A
  pub batch : ℕ

abbrev pub HerePlace : Type 0 → Type 0 → Type 0
HerePlace E A = SenderPlace × List (ReceiverEnd E) × List A × ℕ

module _ {E A : Type 0} where
  abbrev pub here_place : HereEnd E A → HerePlace E A
  here_place e = (sender_place e.sender, e.ends, e.starts, e.batch)

  abbrev pub sending_here : HereEnd E A → Sending E
  sending_here e = sending_of e.sender

  -- no handler had a turn
  abbrev pub NoTurns : HereEnd E A → HereEnd E A → Type 0
  NoTurns e e' = (e'.receivers ≡ e.receivers) × (e'.handlers ≡ e.handlers)

  -- where a claim found no room each handler had a turn, and where it was refused for another cause none had
  pub record TurnsAt (goes : Relation E A) (fault : ClaimFault) (e e' : HereEnd E A) : Type 0 where
    pub no_room : fault ≡ Refused NoRoom → HadTurns goes e.batch e.receivers e.handlers e'.receivers e'.handlers
    pub other : fault ≢ Refused NoRoom → NoTurns e e'

  -- each call tells all that the ring's own does, and a refused claim which turns it gave; no handler has one at any other call
  abbrev pub does_here : Relation E A → HereEnd E A → InPlaceInletCall → HereEnd E A → Type 0
  does_here goes e (ClaimsStretch n (Ok claimed)) e' = sends_in_place e.sender (ClaimsStretch n (Ok claimed)) e'.sender × NoTurns e e'
  does_here goes e (ClaimsStretch n (Err fault)) e' = sends_in_place e.sender (ClaimsStretch n (Err fault)) e'.sender × TurnsAt goes fault e e'
  does_here goes e (ChangesEvent s) e' = sends_in_place e.sender (ChangesEvent s) e'.sender × NoTurns e e'
  does_here goes e (PublishesFilled lo hi) e' = sends_in_place e.sender (PublishesFilled lo hi) e'.sender × NoTurns e e'
