-- The names that C is told are the library's.
use Rattle.std.proofs.Common.{◌≡◌, ◌≢◌, [], refl}
use Rattle.dr_graph.specs.declared.fault.GraphFault.{GraphFault}
use Rattle.dr_graph.specs.declared.fault.GraphFault.TheVariants as graph
use Rattle.dr_graph.specs.Calls.Fault.{fault_number, fault_name}
use Rattle.dr_meaning.specs.declared.refusal.Refusal.TheVariants as refusal
use Rattle.dr_meaning.specs.declared.open_fault.OpenFault.{OpenFault}
use Rattle.dr_meaning.specs.declared.open_fault.OpenFault.TheVariants as opening
use Rattle.dr_meaning.specs.Calls.OpenFault as open_fault
use Rattle.dr_meaning.specs.declared.claim_fault.ClaimFault.{ClaimFault}
use Rattle.dr_meaning.specs.declared.claim_fault.ClaimFault.TheVariants.{Refused, Contended}
use Rattle.dr_meaning.specs.Calls.ClaimFault as claim_fault
use Rattle.dr_c.specs.Names.{name_by, opening_name, AreOfTheLibrary}

of_calls : (fault : ClaimFault) → name_by (claim_fault.number_of fault) ≢ [] → name_by (claim_fault.number_of fault) ≡ claim_fault.name_of fault
unfolding name_by opening_name
of_calls (Refused refusal.NoRoom) some = refl
of_calls (Refused refusal.Halted) some = refl
of_calls (Refused refusal.BadCount) some = refl
of_calls (Refused refusal.Exhausted) some = refl
of_calls (Refused refusal.NotClaimed) some = refl
of_calls (Refused refusal.AlreadyPublished) some = refl
of_calls (Refused refusal.NotWritten) some = refl
of_calls (Refused refusal.OutOfOrder) some = refl
of_calls (Refused refusal.NotTaken) some = refl
of_calls (Refused refusal.Behind) some = refl
of_calls (Refused refusal.NoProducer) some = absurd (some refl)
of_calls (Refused refusal.NoHandler) some = refl
of_calls (Refused refusal.Retired) some = absurd (some refl)
of_calls (Refused refusal.NotFinal) some = absurd (some refl)
of_calls (Refused refusal.LastHandler) some = absurd (some refl)
of_calls (Refused refusal.OpenClaim) some = refl
of_calls Contended some = refl

of_graphs : (fault : GraphFault) → name_by (fault_number fault) ≢ [] → name_by (fault_number fault) ≡ fault_name fault
unfolding name_by opening_name
of_graphs graph.BadName some = absurd (some refl)
of_graphs graph.Duplicate some = absurd (some refl)
of_graphs graph.Stranger some = absurd (some refl)
of_graphs graph.Cycle some = absurd (some refl)
of_graphs graph.TooMany some = refl
of_graphs graph.NoHandlers some = refl
of_graphs graph.EmptyGroup some = absurd (some refl)
of_graphs graph.NoMemory some = refl

of_opening : (fault : OpenFault) → name_by (open_fault.number_of fault) ≡ open_fault.name_of fault
unfolding name_by opening_name
of_opening opening.BadProducers = refl
of_opening opening.BadLimit = refl
of_opening opening.NoMemory = refl

pub of_the_library : AreOfTheLibrary name_by
of_the_library = record { calls = of_calls; graphs = of_graphs; opening = of_opening }
