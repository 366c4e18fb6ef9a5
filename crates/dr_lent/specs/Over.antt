-- The rule of a ring's table while the ring goes on, and once it is over.
use Rattle.std.specs.Prelude.{◌⊎◌, ◌≡◌, ℕ, []}
use mathlib.Core.Option.{some}
use lib.ListN.{get_elem?}
use Rattle.atomic_table.specs.Table.{State}
use Rattle.dr_runs.specs.declared.view.View.{View}
use Rattle.dr_runs.specs.Runs.{Exchange}
use Rattle.dr_runs.specs.Seats.{Ruled}

-- no seat stands for an end any more
abbrev pub IsOver : {C E S : Type 0} → State C (View E S) → Type 0
IsOver {E = E} {S = S} s = (seat : ℕ) (view : View E S) → get_elem? s.views seat ≡ some view → view.ends ≡ []

-- its ends keep the rule, or it is over
abbrev pub RuledOrOver : {T C E S W : Type 0} → Exchange T C E S W → State C (View E S) → Type 0
RuledOrOver X s = Ruled X s ⊎ IsOver s
