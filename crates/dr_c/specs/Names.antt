-- The name of each number that C is told; no other number has one.
use Rattle.std.specs.Prelude.{ℕ, ◌≡◌, ◌≢◌, ◌==◌, if◌then◌else◌, List, [], codes}
use Rattle.dr_graph.specs.declared.fault.GraphFault.{GraphFault}
use Rattle.dr_graph.specs.Calls.Fault.{fault_number, fault_name}
use Rattle.dr_meaning.specs.declared.open_fault.OpenFault.{OpenFault}
use Rattle.dr_meaning.specs.Calls.OpenFault as open_fault
use Rattle.dr_meaning.specs.declared.claim_fault.ClaimFault.{ClaimFault}
use Rattle.dr_meaning.specs.Calls.ClaimFault as claim_fault

-- those of handles, and of opening a ring
unfoldable pub opening_name : ℕ → List ℕ
opening_name n =
    if n == 25 then codes "too-many" else
    if n == 26 then codes "no-handlers" else
    if n == 31 then codes "bad-size" else
    if n == 32 then codes "bad-producers" else
    if n == 33 then codes "bad-limit" else
    if n == 40 then codes "no-memory" else
    if n == 61 then codes "not-open" else
    if n == 62 then codes "wrong-end" else
    if n == 63 then codes "still-open" else
    if n == 64 then codes "bad-order" else
    if n == 65 then codes "bad-pointer" else
    if n == 66 then codes "bad-length" else
    if n == 67 then codes "not-in-hand" else
    []

-- those of an end's calls, and the others
unfoldable pub name_by : ℕ → List ℕ
name_by n =
    if n == 1 then codes "no-room" else
    if n == 2 then codes "halted" else
    if n == 3 then codes "bad-count" else
    if n == 4 then codes "exhausted" else
    if n == 5 then codes "not-claimed" else
    if n == 6 then codes "already-published" else
    if n == 7 then codes "not-written" else
    if n == 8 then codes "out-of-order" else
    if n == 9 then codes "not-taken" else
    if n == 10 then codes "behind" else
    if n == 12 then codes "no-handler" else
    if n == 16 then codes "contended" else
    if n == 41 then codes "open-claim" else
    opening_name n

-- a number of the library's that has a name here has it from the library
pub record AreOfTheLibrary (named : ℕ → List ℕ) : Type 0 where
  pub calls : (fault : ClaimFault) → named (claim_fault.number_of fault) ≢ [] → named (claim_fault.number_of fault) ≡ claim_fault.name_of fault
  pub graphs : (fault : GraphFault) → named (fault_number fault) ≢ [] → named (fault_number fault) ≡ fault_name fault
  pub opening : (fault : OpenFault) → named (open_fault.number_of fault) ≡ open_fault.name_of fault
