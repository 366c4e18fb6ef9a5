-- A step of one end keeps the rule of the table.
use Rattle.std.proofs.Common.{◌≡◌, ℕ, ◌+◌, List, get_or, set, sym, refl, ap, ◌∙◌, subst}
use mathlib.Core.Option.{some}
use lib.ListN.{get_elem?}
use Rattle.atomic_table.specs.Table.{Allows}
use Rattle.atomic_table.proofs.Lists.{set_here, set_else}
use Rattle.dr_runs.specs.Runs.{IsBeginning, IsReached}
use Rattle.dr_runs.specs.Seats.{end_of, seat_at, first_past, past_of, stores_of}
use Rattle.dr_runs.proofs.Seats.{Adds, OthersStand, by_bare_end}
use Rattle.dr_ring.specs.Meaning.Shape.{Shape}
use Rattle.dr_ring.specs.declared.record.SenderRecord.{SenderRecord}
use Rattle.dr_ring.specs.declared.record.ReceiverRecord.{ReceiverRecord}
use Rattle.dr_ring.specs.declared.record.HalterRecord.{HalterRecord}
use Rattle.dr_ring.specs.declared.record.EndRecord.TheVariants.{Sends, Receives, Halts}
use Rattle.dr_ring.specs.declared.record.Step.{Step}
use Rattle.dr_ring.specs.Meaning.Rule.{World, KeepsRule}
use Rattle.dr_ring.specs.Meaning.Moments.{new_world}
use Rattle.dr_ring.specs.Meaning.Steps.{Happens}
use Rattle.dr_ring.specs.Inside.Seats.{End, Sitting, ring_ends, exchange, stored_of, world_of, Ruled, as_sender, as_receiver, as_halter}
use Rattle.dr_runs.proofs.Elements.{at_below}
use Rattle.dr_ring.proofs.Pictures.{keeps_runs}
use Rattle.dr_ring.proofs.Beginning.{kept_opening}

-- what the rule comes to
pub kept_of : (k : Shape) (w : World) → IsReached (exchange k) w → KeepsRule k w
kept_of k w R = keeps_runs k R.steps R.entries (new_world k) w R.runs (kept_opening k R.made)

-- the other ends stand where the record of one changes
not_sender : (k : Shape) (w : World) (us : List ℕ) (q : SenderRecord) → OthersStand (exchange k) w (world_of us q w.receivers w.halter) 0
not_sender k w us q (Sends x) ne stood = absurd (ne refl)
not_sender k w us q (Receives x) ne stood = stood
not_sender k w us q (Halts x) ne stood = stood

not_halter : (k : Shape) (w : World) (us : List ℕ) (q : HalterRecord) → OthersStand (exchange k) w (world_of us w.sender w.receivers q) 1
not_halter k w us q (Sends x) ne stood = stood
not_halter k w us q (Receives x) ne stood = stood
not_halter k w us q (Halts x) ne stood = absurd (ne refl)

not_receiver : (k : Shape) (w : World) (us : List ℕ) (h : ℕ) (q : ReceiverRecord)
    → OthersStand (exchange k) w (world_of us w.sender (set w.receivers h q) w.halter) (h + 2)
not_receiver k w us h q (Sends x) ne stood = stood
not_receiver k w us h q (Receives x) ne stood = set_else w.receivers h x.number q (λ (e : x.number ≡ h). ne (ap (λ (m : ℕ). m + 2) e)) ∙ stood
not_receiver k w us h q (Halts x) ne stood = stood

-- what the end of a number is told of a step, and that it comes after all that it saw and stored
abbrev Tells : ℕ → (List Step → List Step) → List (List Step) → (ℕ → End → Type 0) → ℕ → Sitting → Type 0
Tells end grow pasts told n me' =
    told n (end_of me') × IsBeginning (first_past pasts) (past_of me'.0) × (stored_of me'.0 ≡ grow (stores_of ring_ends end (first_past pasts)))

-- the words of a world after a step that changes one of them
abbrev changed : World → ℕ → (ℕ → ℕ) → List ℕ
changed w i f = set w.words i (f (get_or w.words i 0))

-- a step of the sender
pub by_sender : (k : Shape) (slots id : ℕ) (step : Step) (grow : List Step → List Step) (pasts : List (List Step)) (r : SenderRecord)
    (i : ℕ) (f : ℕ → ℕ) (g : ℕ → SenderRecord) (told : ℕ → End → Type 0)
    → Adds ring_ends 0 step grow
    → ((w : World) → w.sender ≡ r → KeepsRule k w → Happens k step w (world_of (changed w i f) (g (get_or w.words i 0)) w.receivers w.halter))
    → ((w : World) → w.sender ≡ r → KeepsRule k w → told (get_or w.words i 0) (as_sender (g (get_or w.words i 0))))
    → Allows (Ruled k) slots id (seat_at (as_sender r) pasts) i f (Tells 0 grow pasts told)
by_sender k slots id step grow pasts r i f g told adds does tells =
    by_bare_end (exchange k) (λ w homes. tt) slots id step grow pasts (Sends r) i f (λ n. Sends (g n)) told adds (λ n. refl)
    (λ w at reached small. let n = get_or w.words i 0 in let K = kept_of k w reached in let us = set w.words i (f n) in (
      record {
        after = world_of us (g n) w.receivers w.halter;
        happens = does w at K;
        words = refl;
        stands = refl;
        others = not_sender k w us (g n);
      },
      tells w at K,
    ))

-- a step of the halter
pub by_halter : (k : Shape) (slots id : ℕ) (step : Step) (grow : List Step → List Step) (pasts : List (List Step)) (r : HalterRecord)
    (i : ℕ) (f : ℕ → ℕ) (g : ℕ → HalterRecord) (told : ℕ → End → Type 0)
    → Adds ring_ends 1 step grow
    → ((w : World) → w.halter ≡ r → KeepsRule k w → Happens k step w (world_of (changed w i f) w.sender w.receivers (g (get_or w.words i 0))))
    → ((w : World) → w.halter ≡ r → KeepsRule k w → told (get_or w.words i 0) (as_halter (g (get_or w.words i 0))))
    → Allows (Ruled k) slots id (seat_at (as_halter r) pasts) i f (Tells 1 grow pasts told)
by_halter k slots id step grow pasts r i f g told adds does tells =
    by_bare_end (exchange k) (λ w homes. tt) slots id step grow pasts (Halts r) i f (λ n. Halts (g n)) told adds (λ n. refl)
    (λ w at reached small. let n = get_or w.words i 0 in let K = kept_of k w reached in let us = set w.words i (f n) in (
      record {
        after = world_of us w.sender w.receivers (g n);
        happens = does w at K;
        words = refl;
        stands = refl;
        others = not_halter k w us (g n);
      },
      tells w at K,
    ))

-- a step of a receiver, which keeps its number
pub by_receiver : (k : Shape) (slots id : ℕ) (step : Step) (grow : List Step → List Step) (pasts : List (List Step)) (r : ReceiverRecord)
    (i : ℕ) (f : ℕ → ℕ) (g : ℕ → ReceiverRecord) (told : ℕ → End → Type 0)
    → ((n : ℕ) → (g n).number ≡ r.number)
    → Adds ring_ends (r.number + 2) step grow
    → ((w : World) → get_elem? w.receivers r.number ≡ some r → KeepsRule k w
    → Happens k step w (world_of (changed w i f) w.sender (set w.receivers r.number (g (get_or w.words i 0))) w.halter))
    → ((w : World) → get_elem? w.receivers r.number ≡ some r → KeepsRule k w → told (get_or w.words i 0) (as_receiver (g (get_or w.words i 0))))
    → Allows (Ruled k) slots id (seat_at (as_receiver r) pasts) i f (Tells (r.number + 2) grow pasts told)
by_receiver k slots id step grow pasts r i f g told same adds does tells =
    by_bare_end (exchange k) (λ w homes. tt) slots id step grow pasts (Receives r) i f (λ n. Receives (g n)) told adds (λ n. ap (λ (m : ℕ). m + 2) (same n))
    (λ w at reached small. let n = get_or w.words i 0 in let K = kept_of k w reached in let us = set w.words i (f n) in let h = r.number in
    let rs = set w.receivers h (g n) in (
      record {
        after = world_of us w.sender rs w.halter;
        happens = does w at K;
        words = refl;
        stands = ap (λ (m : ℕ). get_elem? rs m) (same n) ∙ set_here w.receivers h (g n) (at_below w.receivers h r at);
        others = subst (λ (m : ℕ). OthersStand (exchange k) w (world_of us w.sender rs w.halter) (m + 2)) (sym (same n)) (not_receiver k w us h (g n));
      },
      tells w at K,
    ))
