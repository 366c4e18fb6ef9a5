-- How the seats of an exchange's ends come together in one.
use Rattle.std.specs.Prelude.{◌≡◌, ℕ, List, slice_index, slice_index_or}
use mathlib.Core.Option.{some}
use lib.ListN.{get_elem?}
use Rattle.atomic_table.specs.Table.{Step as TableStep}
use Rattle.atomic_table.specs.Seated.{TableId}
use Rattle.dr_runs.specs.declared.counts.HandlerCounts.{HandlerCounts}
use Rattle.dr_runs.specs.declared.view.View.{View}
use Rattle.dr_runs.specs.Runs.{Ends, Exchange, IsBeginning, IsReached}
use Rattle.dr_runs.specs.Seats.{Sitting, EachPast, Saw, with_pasts, stores_of}

-- these are of one table
abbrev pub AreOf : {A : Type 0} → (A → TableId) → TableId → List A → Type 0
AreOf table_of table xs = (i : ℕ) (x : _) → get_elem? xs i ≡ some x → table_of x ≡ table

-- what an end knows, the run as it was at its last step, and what it stored since the opening
pub record Known (E S : Type 0) : Type 0 where
  pub knows : E
  pub past : List S
  pub stored : List S

-- an end is in a view, with the past that has what it stored
abbrev pub IsInView : {E S : Type 0} → Ends E S → View E S → Known E S → Type 0
IsInView ends v x = (j : ℕ) × (get_elem? (with_pasts v.ends v.pasts) j ≡ some (x.knows, x.past)) × (stores_of ends (ends.number_of x.knows) x.past ≡ x.stored)

-- a view has taken in these ends
pub record Gathers {E S : Type 0} (ends : Ends E S) (v : View E S) (xs : List (Known E S)) (v' : View E S) : Type 0 where
  pub stay : (x : Known E S) → IsInView ends v x → IsInView ends v' x
  pub come : (i : ℕ) (x : Known E S) → get_elem? xs i ≡ some x → IsInView ends v' x

-- the world that one run came to, of which each end of a view saw a beginning with all that it stored, and in which its record stands
pub record ViewRan {T C E S W : Type 0} (X : Exchange T C E S W) (v : View E S) : Type 0 where
  pub world : W
  pub reached : IsReached X world
  pub each : EachPast (λ e past. Saw X reached.steps e past × X.Stands world e) v.ends v.pasts

-- a load that changes nothing, and tells what run came to the records of its seat's view and to the word that it found
abbrev pub Compares : {T C E S W : Type 0} → Exchange T C E S W → TableStep C → Sitting C E S → ℕ → Sitting C E S → Type 0
Compares X s me n me' = (me' ≡ me) × (ran : ViewRan X me.0) × (slice_index (X.words_of ran.world) s.word ≡ n)

-- an end has its part in a run: what it saw is a beginning of it, and what it stored are its stores there
abbrev pub HasPart : {S : Type 0} → List S → List S → List S → List S → Type 0
HasPart past stored stores steps = IsBeginning past steps × (stores ≡ stored)

-- the counts of one of some handlers
abbrev pub counts_at : List HandlerCounts → ℕ → HandlerCounts
counts_at counts h = slice_index_or counts h record { taken = 0; completed = 0 }
