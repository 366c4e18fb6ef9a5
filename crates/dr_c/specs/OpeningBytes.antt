-- How a ring of bytes comes into handles.
use Rattle.std.specs.Prelude.{◌≡◌, ℕ, Option, Some, List, Result, Ok, Err, length, map, replicate}
use denote.RawPtr.{Ptr}
use Rattle.dr_plain.specs.Calls.Ends.{ReceiverEnd, HalterEnd}
use Rattle.dr_plain.specs.Calls.Making.{AreFreshEnds}
use Rattle.dr_c.specs.declared.end.End.{End}
use Rattle.dr_c.specs.declared.end.End.TheVariants.{SenderOfBytes, ReceiverOfBytes, HalterOfBytes}
use Rattle.dr_c.specs.declared.handle.Handle.{Handle}
use Rattle.dr_c.specs.declared.open_fault.OpenFault.{OpenFault}
use Rattle.dr_c.specs.declared.writer.Writer.{Writer}
use Rattle.dr_c.specs.OpenFault.{IsFine, IsWhy}
use Rattle.dr_c.specs.Opening.{FollowsMasks, are_open, ends_in, has, told_of_opening}

-- the ends of a new ring of a size, a limit and masks, in whose cells there are so many zeros each
pub record AreOpened (size limit bytes : ℕ) (masks : List ℕ) (w : Writer) (rs : List (ReceiverEnd (List ℕ))) (h : HalterEnd (List ℕ)) : Type 0 where
  pub graph : List (List ℕ)
  pub all : length graph ≡ length masks
  pub follows : FollowsMasks graph masks
  pub strip : Ptr
  pub many : w.bytes ≡ bytes
  pub fresh : AreFreshEnds (record { upstreams = graph; size = size; limit = limit; strip = strip }) (replicate size (replicate bytes 0)) w.sender rs h

-- a new ring's ends are in handles
pub record OpensBy (size limit bytes : ℕ) (masks : List ℕ) (sender : Option End) (receivers : List (Option End)) (halter : Option End) : Type 0 where
  pub w : Writer
  pub rs : List (ReceiverEnd (List ℕ))
  pub h : HalterEnd (List ℕ)
  pub opened : AreOpened size limit bytes masks w rs h
  pub sends : sender ≡ Some (SenderOfBytes w)
  pub receives : receivers ≡ map has (map ReceiverOfBytes rs)
  pub halts : halter ≡ Some (HalterOfBytes h)

-- what an opening that is not refused, or is, leaves in the handles
abbrev pub Opens : ℕ → ℕ → ℕ → List ℕ → Handle → List Handle → Handle → Handle → List Handle → Handle → Result (Unit {0}) OpenFault → Type 0
Opens size limit bytes masks sender receivers halter sender' receivers' halter' (Ok _) =
    IsFine (are_open sender receivers halter) (length receivers) 1 size limit masks
    × OpensBy size limit bytes masks sender'.held.value (ends_in receivers') halter'.held.value
Opens size limit bytes masks sender receivers halter sender' receivers' halter' (Err fault) =
    IsWhy (are_open sender receivers halter) (length receivers) 1 size limit masks fault
    × (sender'.held.value ≡ sender.held.value) × (ends_in receivers' ≡ ends_in receivers) × (halter'.held.value ≡ halter.held.value)

-- what C is told of an opening
pub record OpenedBy (size limit bytes : ℕ) (masks : List ℕ) (sender : Handle) (receivers : List Handle) (halter sender' : Handle)
    (receivers' : List Handle) (halter' : Handle) (number : ℕ) : Type 0 where
  pub answer : Result (Unit {0}) OpenFault
  pub opens : Opens size limit bytes masks sender receivers halter sender' receivers' halter' answer
  pub told : number ≡ told_of_opening answer
