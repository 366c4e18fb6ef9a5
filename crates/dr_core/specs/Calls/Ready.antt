-- How many events a core has ready for a handler.
use Rattle.std.specs.Prelude.{ℕ, ◌-◌, nat_le, if◌then◌else◌, Result, Ok, Err, slice_index}
use Rattle.dr_graph.specs.Meaning.Graph.{upstreams_of}
use Rattle.dr_meaning.specs.declared.refusal.Refusal.{Refusal}
use Rattle.dr_meaning.specs.declared.refusal.Refusal.TheVariants.{NoHandler, Retired}
use Rattle.dr_meaning.specs.Meaning.Machine.{handlers}
use Rattle.dr_core.specs.Calls.CoreView.{CoreView, retired_in}
use Rattle.dr_core.specs.Calls.Shows.{offered_to}

-- what its barrier lets through and it did not take; a handler that is not there, or retired, is refused
abbrev pub ready_for : {E : Type 0} → CoreView E → ℕ → Result ℕ Refusal
ready_for v h =
    if nat_le (handlers v.setup) h then Err NoHandler
    else if retired_in v h then Err Retired
    else Ok (offered_to v (upstreams_of v.setup.upstreams h) - slice_index v.taken h)
