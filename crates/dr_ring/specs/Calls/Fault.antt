-- The numbers and names of the faults of making a ring.
use Rattle.std.specs.Prelude.{ℕ, if◌then◌else◌, List, codes}
use Rattle.dr_meaning.specs.Calls.OpenFault.{is_bad_limit}
use Rattle.dr_ring.specs.declared.fault.RingFault.{RingFault}
use Rattle.dr_ring.specs.declared.fault.RingFault.TheVariants.{BadLimit, NoMemory}

abbrev pub number_of : RingFault → ℕ
number_of BadLimit = 33
number_of NoMemory = 40

abbrev pub name_of : RingFault → List ℕ
name_of BadLimit = codes "bad-limit"
name_of NoMemory = codes "no-memory"

-- why a ring is refused: its limit, or that memory ran out
abbrev pub fault_of : ℕ → RingFault
fault_of limit = if is_bad_limit limit then BadLimit else NoMemory
