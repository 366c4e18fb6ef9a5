-- How a core stands: what a claim and a poll would be answered now, by what contracts see of it.
use Rattle.std.specs.Prelude.{◌≡◌, ℕ, ◌-◌, ◌<◌, min, Bool, if◌then◌else◌, slice_index}
use Rattle.dr_graph.specs.Meaning.Graph.{flagged, upstreams_of}
use Rattle.dr_meaning.specs.Meaning.Machine.{handlers}
use Rattle.dr_core.specs.Calls.CoreView.{CoreView, gate_of, retired_in}
use Rattle.dr_core.specs.Calls.Shows.{offered_to}

-- the most sequences that a claim is given
abbrev pub room_in : {E : Type 0} → CoreView E → ℕ
room_in v = if v.halted then 0 else min (v.setup.limit - v.next) (v.setup.size - (v.next - gate_of v))

-- how many events a poll gives a handler that asks for all
abbrev pub ready_in : {E : Type 0} → CoreView E → ℕ → ℕ
ready_in v h = if retired_in v h then 0 else offered_to v (upstreams_of v.setup.upstreams h) - slice_index v.taken h

-- flags that tell of each handler whether it is retired
abbrev pub AreRetired : {E : Type 0} → (ℕ → Bool) → CoreView E → Type 0
AreRetired flags v = (h : ℕ) → h < handlers v.setup → flags h ≡ retired_in v h
