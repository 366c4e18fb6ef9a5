-- The numbers and names of refusals, which stay the same in every release.
use Rattle.std.specs.Prelude.{ℕ, List, codes}
use Rattle.dr_meaning.specs.declared.refusal.Refusal.{Refusal}
use Rattle.dr_meaning.specs.declared.refusal.Refusal.TheVariants.{NoRoom, Halted, BadCount, Exhausted, NotClaimed, AlreadyPublished, NotWritten, OutOfOrder, NotTaken, Behind, NoProducer, NoHandler, Retired, NotFinal, LastHandler, OpenClaim}

abbrev pub number_of : Refusal → ℕ
number_of NoRoom = 1
number_of Halted = 2
number_of BadCount = 3
number_of Exhausted = 4
number_of NotClaimed = 5
number_of AlreadyPublished = 6
number_of NotWritten = 7
number_of OutOfOrder = 8
number_of NotTaken = 9
number_of Behind = 10
number_of NoProducer = 11
number_of NoHandler = 12
number_of Retired = 13
number_of NotFinal = 14
number_of LastHandler = 15
number_of OpenClaim = 41

abbrev pub name_of : Refusal → List ℕ
name_of NoRoom = codes "no-room"
name_of Halted = codes "halted"
name_of BadCount = codes "bad-count"
name_of Exhausted = codes "exhausted"
name_of NotClaimed = codes "not-claimed"
name_of AlreadyPublished = codes "already-published"
name_of NotWritten = codes "not-written"
name_of OutOfOrder = codes "out-of-order"
name_of NotTaken = codes "not-taken"
name_of Behind = codes "behind"
name_of NoProducer = codes "no-producer"
name_of NoHandler = codes "no-handler"
name_of Retired = codes "retired"
name_of NotFinal = codes "not-final"
name_of LastHandler = codes "last-handler"
name_of OpenClaim = codes "open-claim"
