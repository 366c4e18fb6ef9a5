-- The numbers and names of an end's troubles.
use Rattle.std.specs.Prelude.{ℕ, List, codes}
use Rattle.dr_meaning.specs.declared.ends.Trouble.{Trouble}
use Rattle.dr_meaning.specs.declared.ends.Trouble.TheVariants.{Refused, Memory}
use Rattle.dr_meaning.specs.Calls.Refusal.{number_of as number_of_refusal, name_of as name_of_refusal}

abbrev pub number_of : Trouble → ℕ
number_of (Refused refusal) = number_of_refusal refusal
number_of Memory = 40

abbrev pub name_of : Trouble → List ℕ
name_of (Refused refusal) = name_of_refusal refusal
name_of Memory = codes "no-memory"
