-- The numbers and names of what refuses a claim among several senders, which stay the same in every release.
use Rattle.std.specs.Prelude.{ℕ, List, codes}
use Rattle.dr_meaning.specs.Calls.Refusal as refusal
use Rattle.dr_meaning.specs.declared.claim_fault.ClaimFault.{ClaimFault}
use Rattle.dr_meaning.specs.declared.claim_fault.ClaimFault.TheVariants.{Refused, Contended}

abbrev pub number_of : ClaimFault → ℕ
number_of (Refused r) = refusal.number_of r
number_of Contended = 16

abbrev pub name_of : ClaimFault → List ℕ
name_of (Refused r) = refusal.name_of r
name_of Contended = codes "contended"
