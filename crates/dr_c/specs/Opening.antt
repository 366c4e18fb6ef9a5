-- How a ring comes into handles.
use Rattle.std.specs.Prelude.{◌≡◌, ℕ, ◌<◌, ◌/◌, ◌%◌, ◌^◌, ◌==◌, Bool, ◌||◌, is_some, Option, Some, List, Result, Ok, Err, length, map, filter, slice_index}
use Rattle.std.specs.List.{list_any, range_with_len}
use Rattle.dr_graph.specs.Meaning.Graph.{upstreams_of}
use Rattle.dr_ring.specs.Calls.Ends.{SenderEnd, ReceiverEnd, HalterEnd}
use Rattle.dr_ring.specs.Calls.Making.{AreFreshEnds}
use Rattle.dr_c.specs.declared.end.End.{End}
use Rattle.dr_c.specs.declared.end.End.TheVariants.{Sender, Receiver, Halter}
use Rattle.dr_c.specs.declared.handle.Handle.{Handle}
use Rattle.dr_c.specs.declared.open_fault.OpenFault.{OpenFault}
use Rattle.dr_c.specs.OpenFault.{number_of, IsFine, IsWhy}

-- the handlers whose bits are in a mask
abbrev pub has_bit : ℕ → ℕ → Bool
has_bit mask up = (mask / 2 ^ up % 2) == 1

unfoldable pub handlers_in : ℕ → List ℕ
handlers_in mask = filter (has_bit mask) (range_with_len 0 16)

-- each handler follows those that its mask names
abbrev pub FollowsMasks : List (List ℕ) → List ℕ → Type 0
FollowsMasks graph masks = (k : ℕ) → k < length masks → upstreams_of graph k ≡ handlers_in (slice_index masks k)

-- the ends of a new ring of a size, a limit and masks
pub record AreOpened (size limit : ℕ) (masks : List ℕ) (s : SenderEnd) (rs : List ReceiverEnd) (h : HalterEnd) : Type 0 where
  pub graph : List (List ℕ)
  pub all : length graph ≡ length masks
  pub follows : FollowsMasks graph masks
  pub fresh : AreFreshEnds (record { upstreams = graph; size = size; limit = limit }) s rs h

-- what handles have
abbrev pub ends_in : List Handle → List (Option End)
ends_in handles = map (λ h. h.held.value) handles

abbrev pub has : End → Option End
has end = Some end

-- a new ring's ends are in handles
pub record OpensBy (size limit : ℕ) (masks : List ℕ) (sender : Option End) (receivers : List (Option End)) (halter : Option End) : Type 0 where
  pub s : SenderEnd
  pub rs : List ReceiverEnd
  pub h : HalterEnd
  pub opened : AreOpened size limit masks s rs h
  pub sends : sender ≡ Some (Sender s)
  pub receives : receivers ≡ map has (map Receiver rs)
  pub halts : halter ≡ Some (Halter h)

-- one of the handles is open
abbrev pub are_open : Handle → List Handle → Handle → Bool
are_open sender receivers halter = is_some sender.held.value || list_any (λ h. is_some h.held.value) receivers || is_some halter.held.value

-- what an opening that is not refused, or is, leaves in the handles
abbrev pub Opens : ℕ → ℕ → List ℕ → Handle → List Handle → Handle → Handle → List Handle → Handle → Result (Unit {0}) OpenFault → Type 0
Opens size limit masks sender receivers halter sender' receivers' halter' (Ok _) =
    IsFine (are_open sender receivers halter) (length receivers) 1 size limit masks
    × OpensBy size limit masks sender'.held.value (ends_in receivers') halter'.held.value
Opens size limit masks sender receivers halter sender' receivers' halter' (Err fault) =
    IsWhy (are_open sender receivers halter) (length receivers) 1 size limit masks fault
    × (sender'.held.value ≡ sender.held.value) × (ends_in receivers' ≡ ends_in receivers) × (halter'.held.value ≡ halter.held.value)

-- the number that tells of it
abbrev pub told_of_opening : Result (Unit {0}) OpenFault → ℕ
told_of_opening (Ok _) = 0
told_of_opening (Err fault) = number_of fault

-- what C is told of an opening
pub record OpenedBy (size limit : ℕ) (masks : List ℕ) (sender : Handle) (receivers : List Handle) (halter sender' : Handle)
    (receivers' : List Handle) (halter' : Handle) (number : ℕ) : Type 0 where
  pub answer : Result (Unit {0}) OpenFault
  pub opens : Opens size limit masks sender receivers halter sender' receivers' halter' answer
  pub told : number ≡ told_of_opening answer
