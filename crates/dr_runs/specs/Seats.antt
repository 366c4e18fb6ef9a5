-- The seats that stand for the ends of an exchange, and the rule that the table of its words keeps.
use Rattle.std.specs.Prelude.{◌≡◌, ℕ, List, [], ◌∷◌, ◌++◌, map, filter, take, drop}
use mathlib.Core.Option.{some}
use lib.ListN.{get_elem?}
use Rattle.atomic_table.specs.Table.{State, Me}
use Rattle.atomic_table.specs.Table.{Step as TableStep}
use Rattle.dr_meaning.specs.Meaning.Transcript.{Transcript}
use Rattle.dr_runs.specs.declared.view.View.{View}
use Rattle.dr_runs.specs.Runs.{Ends, Exchange, Runs, IsBeginning, IsReached}

-- what is known of the ends that a seat stands for, with the slots that the seat has in hand
abbrev pub End : Type 0 → Type 0 → Type 0
End C E = Me C (List E)

-- a seat: its view has the records of its ends and, for each, the run as it was at the end's last step
abbrev pub Sitting : Type 0 → Type 0 → Type 0 → Type 0
Sitting C E S = Me C (View E S)

-- a seat that stands for one end alone, and has some slots in hand or none
abbrev pub holding : {C E : Type 0} → E → List (ℕ × C) → End C E
holding e hand = (e ∷ [], hand)

abbrev pub alone : {C E : Type 0} → E → End C E
alone e = holding e []

-- what the first end of a view saw of the run
abbrev pub first_past : {S : Type 0} → List (List S) → List S
first_past [] = []
first_past (past ∷ pasts) = past

-- each end of a view with its past
abbrev pub with_pasts : {E S : Type 0} → List E → List (List S) → List (E × List S)
with_pasts [] pasts = []
with_pasts (e ∷ es) pasts = (e, first_past pasts) ∷ with_pasts es (drop 1 pasts)

-- a fact of each end of a view and its past
abbrev pub EachPast : {E S : Type 0} → (E → List S → Type 0) → List E → List (List S) → Type 0
EachPast P [] [] = Unit {0}
EachPast P [] (past ∷ pasts) = ⊥
EachPast P (e ∷ es) [] = ⊥
EachPast P (e ∷ es) (past ∷ pasts) = P e past × EachPast P es pasts

module _ {C E S : Type 0} where
  abbrev pub end_of : Sitting C E S → End C E
  end_of m = (m.0.ends, m.1)

  abbrev pub seat_at : End C E → List (List S) → Sitting C E S
  seat_at e pasts = (record { ends = e.0; pasts = pasts }, e.1)

module _ {E S : Type 0} where
  abbrev pub past_of : View E S → List S
  past_of v = first_past v.pasts

  abbrev pub pasts_of : View E S → List (List S)
  pasts_of v = map (λ (x : E × List S). x.1) (with_pasts v.ends v.pasts)

  -- the view of ends that have not stepped, and the seat that stands for them
  abbrev pub fresh_view : List E → View E S
  fresh_view es = record { ends = es; pasts = map (λ e. []) es }

  abbrev pub fresh_seat : {C : Type 0} → List E → Sitting C E S
  fresh_seat es = (fresh_view es, [])

  -- a view is cut: its first record stays, and the others go to another seat
  abbrev pub first_view : View E S → View E S
  first_view v = record { ends = take 1 v.ends; pasts = take 1 v.pasts }

  abbrev pub rest_view : View E S → View E S
  rest_view v = record { ends = drop 1 v.ends; pasts = drop 1 v.pasts }

  -- a seat takes in the view of another, which is left with none
  abbrev pub both_views : View E S → View E S → View E S
  both_views v w = record { ends = v.ends ++ w.ends; pasts = pasts_of v ++ pasts_of w }

  abbrev pub no_view : View E S
  no_view = record { ends = []; pasts = [] }

module _ {E S : Type 0} (ends : Ends E S) where
  abbrev pub first_number : List E → ℕ
  first_number [] = 0
  first_number (e ∷ es) = ends.number_of e

  -- what the end of a number stored in a run, in order
  abbrev pub stores_of : ℕ → List S → List S
  stores_of end steps = filter (ends.is_store_of end) steps

  -- what the first end of a view stored since the opening
  abbrev pub stored_of : View E S → List S
  stored_of v = stores_of (first_number v.ends) (past_of v)

  -- a load's play: what it tells of the end, and that it comes after all that its end saw and stored
  abbrev pub Loads : {C : Type 0} → (TableStep C → End C E → ℕ → End C E → Type 0) → TableStep C → Sitting C E S → ℕ → Sitting C E S → Type 0
  Loads Tells s me n me' = Tells s (end_of me) n (end_of me') × IsBeginning (past_of me.0) (past_of me'.0) × (stored_of me'.0 ≡ stored_of me.0)

  -- a store's play: the end has stored one thing more
  abbrev pub Stores : {C : Type 0} → (TableStep C → End C E → ℕ → S) → (TableStep C → End C E → ℕ → End C E → Type 0) → TableStep C → Sitting C E S → ℕ → Sitting C E S → Type 0
  Stores step Tells s me n me' =
      Tells s (end_of me) n (end_of me') × IsBeginning (past_of me.0) (past_of me'.0) × (stored_of me'.0 ≡ stored_of me.0 ++ step s (end_of me) n ∷ [])

-- what an end saw is the beginning of the run, came to its record, and has all that it stored
pub record Saw {T C E S W : Type 0} (X : Exchange T C E S W) (steps : List S) (e : E) (past : List S) : Type 0 where
  pub begins : IsBeginning past steps
  pub entries : Transcript T
  pub world : W
  pub runs : Runs X.Happens X.entries_of past entries X.opening world
  pub stands : X.Stands world e
  pub stores : stores_of X.ends (X.ends.number_of e) past ≡ stores_of X.ends (X.ends.number_of e) steps

-- some steps lead from the opening to a world with the table's words and what lies in its slots, and each record in each view is that of its end, which stands there alone
pub record Ruled {T C E S W : Type 0} (X : Exchange T C E S W) (s : State C (View E S)) : Type 0 where
  pub world : W
  pub words : X.words_of world ≡ s.words
  pub lies : X.Lies world s.homes
  pub reached : IsReached X world
  -- the seat of each end, and its place in the seat's view
  pub place : ℕ → ℕ × ℕ
  pub each_end : (seat : ℕ) (view : View E S) → get_elem? s.views seat ≡ some view → (j : ℕ) (e : E) → get_elem? view.ends j ≡ some e
      → (place (X.ends.number_of e) ≡ (seat, j)) × X.Stands world e
  -- no step changes what another end saw of the run
  pub each_past : (seat : ℕ) (view : View E S) → get_elem? s.views seat ≡ some view → EachPast (Saw X reached.steps) view.ends view.pasts
