-- The numbers and names of the faults of opening, and when they come.
use Rattle.std.specs.Prelude.{ℕ, ◌^◌, Bool, ◌||◌, ◌==◌, nat_lt, false, if◌then◌else◌, Option, None, Some, List, codes}
use Rattle.dr_meaning.specs.declared.mode.Mode.{Mode}
use Rattle.dr_meaning.specs.declared.mode.Mode.TheVariants.{Single, Multi}
use Rattle.dr_meaning.specs.declared.open_fault.OpenFault.{OpenFault}
use Rattle.dr_meaning.specs.declared.open_fault.OpenFault.TheVariants.{BadProducers, BadLimit, NoMemory}

abbrev pub number_of : OpenFault → ℕ
number_of BadProducers = 32
number_of BadLimit = 33
number_of NoMemory = 40

abbrev pub name_of : OpenFault → List ℕ
name_of BadProducers = codes "bad-producers"
name_of BadLimit = codes "bad-limit"
name_of NoMemory = codes "no-memory"

-- several producers are 1 to 16
abbrev pub has_bad_producers : Mode → Bool
has_bad_producers Single = false
has_bad_producers (Multi p) = p == 0 || nat_lt 16 p

-- the limit of sequences is 1 to 2 ^ 62
abbrev pub is_bad_limit : ℕ → Bool
is_bad_limit limit = limit == 0 || nat_lt (2 ^ 62) limit

-- what refuses to open an exchange: its producers, and then its limit
abbrev pub open_fault : Mode → ℕ → Option OpenFault
open_fault mode limit = if has_bad_producers mode then Some BadProducers else if is_bad_limit limit then Some BadLimit else None
