-- The numbers of what keeps a ring from being opened, and what each of them says.
use Rattle.std.specs.Prelude.{◌≡◌, ◌≢◌, ◌<◌, ◌^◌, ℕ, Bool, true, List, [], ◌∷◌, length, slice_index}
use Rattle.dr_seq.specs.Size.{IsSize}
use Rattle.dr_meaning.specs.declared.mode.Mode.TheVariants.{Multi}
use Rattle.dr_meaning.specs.Calls.OpenFault.{has_bad_producers, is_bad_limit}
use Rattle.dr_c.specs.declared.open_fault.OpenFault.{OpenFault}
use Rattle.dr_c.specs.declared.open_fault.OpenFault.TheVariants.{StillOpen, BadCount, BadSize, NoHandlers, TooMany, BadOrder, BadProducers, BadLimit, NoMemory}

abbrev pub number_of : OpenFault → ℕ
number_of StillOpen = 63
number_of BadCount = 3
number_of BadSize = 31
number_of NoHandlers = 26
number_of TooMany = 25
number_of BadOrder = 64
number_of BadProducers = 32
number_of BadLimit = 33
number_of NoMemory = 40

-- each handler follows handlers before it alone
abbrev pub AreInOrder : List ℕ → Type 0
AreInOrder masks = (k : ℕ) → k < length masks → slice_index masks k < 2 ^ k

-- what is amiss with handles, of which `count` are for receivers and `senders` for senders, or with the ring that they are to have
abbrev pub IsAmiss : Bool → ℕ → ℕ → ℕ → ℕ → List ℕ → OpenFault → Type 0
IsAmiss are_open count senders size limit masks StillOpen = are_open ≡ true
IsAmiss are_open count senders size limit masks BadCount = count ≢ length masks
IsAmiss are_open count senders size limit masks BadSize = IsSize size → ⊥
IsAmiss are_open count senders size limit masks NoHandlers = length masks ≡ 0
IsAmiss are_open count senders size limit masks TooMany = 16 < length masks
IsAmiss are_open count senders size limit masks BadOrder = AreInOrder masks → ⊥
IsAmiss are_open count senders size limit masks BadProducers = has_bad_producers (Multi senders) ≡ true
IsAmiss are_open count senders size limit masks BadLimit = is_bad_limit limit ≡ true
IsAmiss are_open count senders size limit masks NoMemory = Unit {0}

-- none of these is
abbrev pub NoneIsAmiss : Bool → ℕ → ℕ → ℕ → ℕ → List ℕ → List OpenFault → Type 0
NoneIsAmiss are_open count senders size limit masks [] = Unit {0}
NoneIsAmiss are_open count senders size limit masks (fault ∷ faults) =
    (IsAmiss are_open count senders size limit masks fault → ⊥) × NoneIsAmiss are_open count senders size limit masks faults

-- what is looked for before a fault, in this order: before a lack of memory everything else
abbrev pub before : OpenFault → List OpenFault
before StillOpen = []
before BadCount = StillOpen ∷ []
before BadSize = StillOpen ∷ BadCount ∷ []
before NoHandlers = StillOpen ∷ BadCount ∷ BadSize ∷ []
before TooMany = StillOpen ∷ BadCount ∷ BadSize ∷ NoHandlers ∷ []
before BadOrder = StillOpen ∷ BadCount ∷ BadSize ∷ NoHandlers ∷ TooMany ∷ []
before BadProducers = StillOpen ∷ BadCount ∷ BadSize ∷ NoHandlers ∷ TooMany ∷ BadOrder ∷ []
before BadLimit = StillOpen ∷ BadCount ∷ BadSize ∷ NoHandlers ∷ TooMany ∷ BadOrder ∷ BadProducers ∷ []
before NoMemory = StillOpen ∷ BadCount ∷ BadSize ∷ NoHandlers ∷ TooMany ∷ BadOrder ∷ BadProducers ∷ BadLimit ∷ []

-- why handles do not come to have a ring: what is amiss first
abbrev pub IsWhy : Bool → ℕ → ℕ → ℕ → ℕ → List ℕ → OpenFault → Type 0
IsWhy are_open count senders size limit masks fault =
    IsAmiss are_open count senders size limit masks fault × NoneIsAmiss are_open count senders size limit masks (before fault)

-- nothing is amiss, so that memory alone may be wanting
abbrev pub IsFine : Bool → ℕ → ℕ → ℕ → ℕ → List ℕ → Type 0
IsFine are_open count senders size limit masks = NoneIsAmiss are_open count senders size limit masks (before NoMemory)
