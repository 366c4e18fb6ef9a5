-- A step of one end keeps the rule of the table.
use Rattle.std.proofs.Common.{◌≡◌, ℕ, ◌+◌, List, [], get_or, set, sym, refl, ap, ◌∙◌, subst}
use mathlib.Core.Option.{some}
use mathlib.Core.Option as maybe
use lib.ListN.{get_elem?}
use Rattle.atomic_table.specs.Table.{keeps, carried_after, Allows}
use Rattle.atomic_table.proofs.Lists.{set_here, set_else}
use Rattle.dr_cells.specs.declared.token.Token.{Token}
use Rattle.dr_runs.specs.Runs.{IsBeginning, IsReached}
use Rattle.dr_runs.specs.Seats.{end_of, seat_at, first_past, past_of, stores_of}
use Rattle.dr_runs.proofs.Seats.{Adds, OthersStand, Moves, by_end}
use Rattle.dr_lent.proofs.Going.{goes_on, some_end_of}
use Rattle.dr_plain.specs.Meaning.Shape.{Shape}
use Rattle.dr_plain.specs.declared.record.SenderRecord.{SenderRecord}
use Rattle.dr_plain.specs.declared.record.ReceiverRecord.{ReceiverRecord}
use Rattle.dr_plain.specs.declared.record.HalterRecord.{HalterRecord}
use Rattle.dr_plain.specs.declared.record.EndRecord.TheVariants.{Sends, Receives, Halts}
use Rattle.dr_plain.specs.declared.record.Step.{Step}
use Rattle.dr_plain.specs.Meaning.Rule.{World, KeepsRule}
use Rattle.dr_plain.specs.Meaning.Lying.{Lies}
use Rattle.dr_plain.specs.Meaning.Moments.{new_world}
use Rattle.dr_plain.specs.Meaning.Steps.{Happens}
use Rattle.dr_plain.specs.Inside.Seats.{End, Hand, Sitting, ring_ends, exchange, stored_of, world_of, Ruled, as_sender, as_receiver, as_halter}
use Rattle.dr_runs.proofs.Elements.{at_below}
use Rattle.dr_plain.proofs.Beginning.{kept_opening, keeps_runs}

module _ {T : Type 0} where
  -- what the rule comes to
  pub kept_of : (k : Shape) (w : World T) → IsReached (exchange k) w → KeepsRule k w
  kept_of k w R = keeps_runs k R.steps R.entries (new_world k) w R.runs (kept_opening T k R.made)

  -- the other ends stand where the record of one changes
  not_sender : (k : Shape) (w : World T) (us : List ℕ) (q : SenderRecord T) → OthersStand (exchange k) w (world_of us q w.receivers w.halter) 0
  not_sender k w us q (Sends x) ne stood = absurd (ne refl)
  not_sender k w us q (Receives x) ne stood = stood
  not_sender k w us q (Halts x) ne stood = stood

  not_halter : (k : Shape) (w : World T) (us : List ℕ) (q : HalterRecord T) → OthersStand (exchange k) w (world_of us w.sender w.receivers q) 1
  not_halter k w us q (Sends x) ne stood = stood
  not_halter k w us q (Receives x) ne stood = stood
  not_halter k w us q (Halts x) ne stood = absurd (ne refl)

  not_receiver : (k : Shape) (w : World T) (us : List ℕ) (h : ℕ) (q : ReceiverRecord T)
      → OthersStand (exchange k) w (world_of us w.sender (set w.receivers h q) w.halter) (h + 2)
  not_receiver k w us h q (Sends x) ne stood = stood
  not_receiver k w us h q (Receives x) ne stood = set_else w.receivers h x.number q (λ (e : x.number ≡ h). ne (ap (λ (m : ℕ). m + 2) e)) ∙ stood
  not_receiver k w us h q (Halts x) ne stood = stood

  -- what the end of a number is told of a step, and that it comes after all that it saw and stored
  abbrev TellsOn : ℕ → (List (Step T) → List (Step T)) → List (List (Step T)) → (ℕ → End T → Type 0) → ℕ → Sitting T → Type 0
  TellsOn end grow pasts told n me' = told n (end_of me') × IsBeginning (first_past pasts) (past_of me'.0) × (stored_of me'.0 ≡ grow (stores_of ring_ends end (first_past pasts)))

  -- what a step of the sender, of the halter or of a receiver does to a world, and what it tells its end
  pub record SenderActs (k : Shape) (step : Step T) (w : World T) (i n : ℕ) (hand : Hand T) (homes : List (maybe.Option (Token T))) (told : End T → Type 0) : Type 0 where
    pub mine : SenderRecord T
    pub happens : Happens k step w (world_of (set w.words i n) mine w.receivers w.halter)
    pub hand_after : Hand T
    pub moves : (m : Moves (exchange k) (world_of (set w.words i n) mine w.receivers w.halter) hand homes) × (carried_after hand m.act ≡ hand_after)
    pub tells : told (as_sender mine hand_after)

  pub record ReceiverActs (k : Shape) (step : Step T) (w : World T) (i n h : ℕ) (hand : Hand T) (homes : List (maybe.Option (Token T))) (told : End T → Type 0) : Type 0 where
    pub mine : ReceiverRecord T
    pub same : mine.number ≡ h
    pub happens : Happens k step w (world_of (set w.words i n) w.sender (set w.receivers h mine) w.halter)
    pub hand_after : Hand T
    pub moves : (m : Moves (exchange k) (world_of (set w.words i n) w.sender (set w.receivers h mine) w.halter) hand homes) × (carried_after hand m.act ≡ hand_after)
    pub tells : told (as_receiver mine hand_after)

  -- a step of the sender
  pub by_sender : (k : Shape) (slots id : ℕ) (step : Step T) (grow : List (Step T) → List (Step T)) (pasts : List (List (Step T))) (r : SenderRecord T) (hand : Hand T) (i : ℕ) (f : ℕ → ℕ) (told : ℕ → End T → Type 0)
      → Adds ring_ends 0 step grow
      → ((w : World T) → w.sender ≡ r → KeepsRule k w → (homes : List (maybe.Option (Token T))) → Lies k w homes
      → SenderActs k step w i (f (get_or w.words i 0)) hand homes (told (get_or w.words i 0)))
      → Allows (Ruled k) slots id (seat_at (as_sender r hand) pasts) i f (TellsOn 0 grow pasts told)
  by_sender k slots id step grow pasts r hand i f told adds acts =
      goes_on (exchange k) slots id _ i f (TellsOn 0 grow pasts told) (some_end_of (Sends r) [])
      (by_end (exchange k) slots id step grow pasts (Sends r) hand i f told adds
      (λ w at reached small homes lies. let n = get_or w.words i 0 in let a = acts w at (kept_of k w reached) homes lies in let m = a.moves in record {
        mine = Sends a.mine;
        same = refl;
        does = record {
          after = world_of (set w.words i (f n)) a.mine w.receivers w.halter;
          happens = a.happens;
          words = refl;
          stands = refl;
          others = not_sender k w (set w.words i (f n)) a.mine;
        };
        moves = m.0;
        tells = subst (λ (c : Hand T). told n (as_sender a.mine c)) (sym m.1) a.tells;
      }))

  -- a step of the halter, which has nothing in hand
  pub by_halter : (k : Shape) (slots id : ℕ) (step : Step T) (grow : List (Step T) → List (Step T)) (pasts : List (List (Step T))) (r : HalterRecord T) (i : ℕ) (f : ℕ → ℕ) (g : ℕ → HalterRecord T) (told : ℕ → End T → Type 0)
      → Adds ring_ends 1 step grow
      → ((w : World T) → w.halter ≡ r → KeepsRule k w → Happens k step w (world_of (set w.words i (f (get_or w.words i 0))) w.sender w.receivers (g (get_or w.words i 0)))
      × told (get_or w.words i 0) (as_halter (g (get_or w.words i 0))))
      → Allows (Ruled k) slots id (seat_at (as_halter r) pasts) i f (TellsOn 1 grow pasts told)
  by_halter k slots id step grow pasts r i f g told adds acts =
      goes_on (exchange k) slots id _ i f (TellsOn 1 grow pasts told) (some_end_of (Halts r) [])
      (by_end (exchange k) slots id step grow pasts (Halts r) [] i f told adds
      (λ w at reached small homes lies. let n = get_or w.words i 0 in let a = acts w at (kept_of k w reached) in record {
        mine = Halts (g n);
        same = refl;
        does = record {
          after = world_of (set w.words i (f n)) w.sender w.receivers (g n);
          happens = a.0;
          words = refl;
          stands = refl;
          others = not_halter k w (set w.words i (f n)) (g n);
        };
        moves = record { act = keeps; valid = tt; lies = lies };
        tells = a.1;
      }))

  -- a step of a receiver, which keeps its number
  pub by_receiver : (k : Shape) (slots id : ℕ) (step : Step T) (grow : List (Step T) → List (Step T)) (pasts : List (List (Step T))) (r : ReceiverRecord T) (hand : Hand T) (i : ℕ) (f : ℕ → ℕ) (told : ℕ → End T → Type 0)
      → Adds ring_ends (r.number + 2) step grow
      → ((w : World T) → get_elem? w.receivers r.number ≡ some r → KeepsRule k w → (homes : List (maybe.Option (Token T))) → Lies k w homes
      → ReceiverActs k step w i (f (get_or w.words i 0)) r.number hand homes (told (get_or w.words i 0)))
      → Allows (Ruled k) slots id (seat_at (as_receiver r hand) pasts) i f (TellsOn (r.number + 2) grow pasts told)
  by_receiver k slots id step grow pasts r hand i f told adds acts =
      goes_on (exchange k) slots id _ i f (TellsOn (r.number + 2) grow pasts told) (some_end_of (Receives r) [])
      (by_end (exchange k) slots id step grow pasts (Receives r) hand i f told adds
      (λ w at reached small homes lies. let n = get_or w.words i 0 in let h = r.number in let a = acts w at (kept_of k w reached) homes lies in let m = a.moves in
      let rs = set w.receivers h a.mine in let us = set w.words i (f n) in record {
        mine = Receives a.mine;
        same = ap (λ (g : ℕ). g + 2) a.same;
        does = record {
          after = world_of us w.sender rs w.halter;
          happens = a.happens;
          words = refl;
          stands = ap (λ (g : ℕ). get_elem? rs g) a.same ∙ set_here w.receivers h a.mine (at_below w.receivers h r at);
          others = subst (λ (g : ℕ). OthersStand (exchange k) w (world_of us w.sender rs w.halter) (g + 2)) (sym a.same) (not_receiver k w us h a.mine);
        };
        moves = m.0;
        tells = subst (λ (c : Hand T). told n (as_receiver a.mine c)) (sym m.1) a.tells;
      }))
