-- How a ring of several senders comes into handles.
use Rattle.std.specs.Prelude.{◌≡◌, ℕ, Bool, ◌||◌, is_some, Option, Some, List, Result, Ok, Err, length, map, replicate}
use Rattle.std.specs.List.{list_any}
use denote.RawPtr.{Ptr}
use Rattle.dr_seq.specs.declared.event.Event.{Event}
use Rattle.dr_seq.specs.Event.{no_event}
use Rattle.dr_plain_senders.specs.Calls.Ends.{SenderEnd, ReceiverEnd, HalterEnd}
use Rattle.dr_plain_senders.specs.Calls.Making.{AreFreshEnds}
use Rattle.dr_c.specs.declared.end.End.{End}
use Rattle.dr_c.specs.declared.end.End.TheVariants.{SenderOfSeveral, ReceiverOfSeveral, HalterOfSeveral}
use Rattle.dr_c.specs.declared.handle.Handle.{Handle}
use Rattle.dr_c.specs.declared.one_of_several.OneOfSeveral.{OneOfSeveral}
use Rattle.dr_c.specs.declared.open_fault.OpenFault.{OpenFault}
use Rattle.dr_c.specs.OpenFault.{IsFine, IsWhy}
use Rattle.dr_c.specs.Opening.{FollowsMasks, ends_in, has, told_of_opening}

-- the ends of a new ring of a size, a limit, masks and so many senders, whose events are of zeros
pub record AreOpened (size limit : ℕ) (masks : List ℕ) (senders : ℕ) (ss : List (SenderEnd Event)) (rs : List (ReceiverEnd Event)) (h : HalterEnd Event)
    : Type 0 where
  pub graph : List (List ℕ)
  pub all : length graph ≡ length masks
  pub follows : FollowsMasks graph masks
  pub strip : Ptr
  pub fresh : AreFreshEnds (record { upstreams = graph; size = size; limit = limit; senders = senders; strip = strip; begun = replicate size no_event }) ss rs h

-- one of several senders as the ring sees it
abbrev pub end_of : OneOfSeveral → SenderEnd Event
end_of one = one.sender

-- a new ring's ends are in handles
pub record OpensBy (size limit : ℕ) (masks : List ℕ) (count : ℕ) (senders receivers : List (Option End)) (halter : Option End) : Type 0 where
  pub ss : List OneOfSeveral
  pub rs : List (ReceiverEnd Event)
  pub h : HalterEnd Event
  pub opened : AreOpened size limit masks count (map end_of ss) rs h
  pub sends : senders ≡ map has (map SenderOfSeveral ss)
  pub receives : receivers ≡ map has (map ReceiverOfSeveral rs)
  pub halts : halter ≡ Some (HalterOfSeveral h)

-- one of the handles is open
abbrev pub are_all_open : List Handle → List Handle → Handle → Bool
are_all_open senders receivers halter =
    list_any (λ h. is_some h.held.value) senders || list_any (λ h. is_some h.held.value) receivers || is_some halter.held.value

-- what an opening that is not refused, or is, leaves in the handles
abbrev pub Opens : ℕ → ℕ → List ℕ → List Handle → List Handle → Handle → List Handle → List Handle → Handle → Result (Unit {0}) OpenFault → Type 0
Opens size limit masks senders receivers halter senders' receivers' halter' (Ok _) =
    IsFine (are_all_open senders receivers halter) (length receivers) (length senders) size limit masks
    × OpensBy size limit masks (length senders) (ends_in senders') (ends_in receivers') halter'.held.value
Opens size limit masks senders receivers halter senders' receivers' halter' (Err fault) =
    IsWhy (are_all_open senders receivers halter) (length receivers) (length senders) size limit masks fault
    × (ends_in senders' ≡ ends_in senders) × (ends_in receivers' ≡ ends_in receivers) × (halter'.held.value ≡ halter.held.value)

-- what C is told of an opening
pub record OpenedBy (size limit : ℕ) (masks : List ℕ) (senders receivers : List Handle) (halter : Handle)
    (senders' receivers' : List Handle) (halter' : Handle) (number : ℕ) : Type 0 where
  pub answer : Result (Unit {0}) OpenFault
  pub opens : Opens size limit masks senders receivers halter senders' receivers' halter' answer
  pub told : number ≡ told_of_opening answer
