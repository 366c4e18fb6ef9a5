-- What the machine answers to the entries of a ring's steps.
use Rattle.std.proofs.Common.{◌≡◌, ℕ, zero, suc, ◌-◌, ◌<◌, ◌≤◌, inl, inr, Bool, ◌==◌, if◌then◌else◌, List, [], ◌++◌, length, get_or, set, replicate}
use Rattle.std.proofs.Common.{Option, Some, None, sym, refl, ap, ◌∙◌, arith, get_or-set_same, get_or-set_other}
use Rattle.std.specs.Prelude.{not}
use Rattle.std.proofs.lemmas.Bool.{cases_eq, cases_lt, eq-eqb, ne_eqb, le-ltb, lt-leb}
use Rattle.std.proofs.lemmas.List.{get_or_append_left, get_or-append_right, get_or_past}
use Rattle.dr_seq.specs.declared.event.Event.{Event}
use Rattle.dr_meaning.specs.declared.command.Command.TheVariants.{Write}
use Rattle.dr_meaning.specs.declared.command.Reply.TheVariants.{Written}
use Rattle.dr_meaning.specs.Meaning.Machine.{State, refusals, accepted, step}
use Rattle.dr_meaning.proofs.Steps.{unless-none}
use Rattle.dr_ring.specs.Meaning.Shape.{Shape, ring_setup}
use Rattle.dr_runs.proofs.OneSender as one
use Rattle.dr_runs.proofs.OneSender.{owners, count_owners, owner_is}

-- a state of which n sequences are claimed, with what is written to each, and all below f published; the rest is as at the opening
abbrev pub shown : Shape → ℕ → List (Option Event) → ℕ → List ℕ → List ℕ → Bool → State Event
shown k = one.shown k.upstreams k.size k.limit

no_more : (j i : ℕ) → (let nothing : Option Event = None in get_or (replicate j nothing) i None ≡ None)
no_more zero i = refl
no_more (suc j) zero = refl
no_more (suc j) (suc i) = no_more j i

pub same_written : (vs : List (Option Event)) (j s : ℕ) → get_or vs s None ≡ get_or (vs ++ replicate j None) s None
same_written vs j s = let nothing : Option Event = None in
    elim (cases_lt s (length vs)) [
      | inl lt ↦ sym (get_or_append_left vs (replicate j nothing) None s lt)
      | inr past ↦ get_or_past vs s None past ∙ sym (get_or-append_right vs (replicate j nothing) (length vs) s None refl past ∙ no_more j (s - length vs))
    ]

set_written : (vs : List (Option Event)) (s : ℕ) (e : Event) → s < length vs → (q : ℕ)
    → (if q == s then Some e else get_or vs q None) ≡ get_or (set vs s (Some e)) q None
set_written vs s e lt q =
    elim (cases_eq q s) [
      | inl same ↦ rw (eq-eqb q s same) (sym (ap (λ (x : ℕ). get_or (set vs s (Some e)) x None) same ∙ get_or-set_same vs s (Some e) None lt))
      | inr ne ↦ rw (ne_eqb q s ne) (sym (get_or-set_other vs s q (Some e) None ne))
    ]

pub write_step : (k : Shape) (n : ℕ) (vs : List (Option Event)) (f : ℕ) (t d : List ℕ) (b : Bool) (s : ℕ) (e : Event) → length vs ≡ n → f ≤ s → s < n
    → step (ring_setup k) (shown k n vs f t d b) (Write 0 s e) ≡ record { reply = Written; values = []; state = shown k n (set vs s (Some e)) f t d b }
write_step k n vs f t d b s e count le lt =
    let m = shown k n vs f t d b in let len = count_owners n in
    unless-none (refusals (ring_setup k) m (Write 0 s e)) m (accepted (ring_setup k) m (Write 0 s e))
    (refl, (lt-leb (length (owners n)) s (omega arith), (le-ltb s f le, (ap not (owner_is n s lt), tt))))
    ∙ (λ i. record { reply = Written; values = []; state = record m { written = λ q. set_written vs s e (omega arith) q i } })
