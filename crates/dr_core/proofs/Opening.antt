-- A new core shows the opening.
use Rattle.std.proofs.Common.{◌≡◌, ℕ, zero, suc, ◌≤◌, ◌^◌, Bool, List, [], arith, refl, ap, sym, ◌∙◌, length, map, min, replicate, false, ◌-◌}
use Rattle.std.specs.List.{range_with_len}
use Rattle.std.proofs.lemmas.Bool.{or_parts, ltb-false}
use Rattle.std.proofs.lemmas.List.{length-replicate}
use Rattle.dr_graph.specs.Meaning.Name.{Name}
use Rattle.dr_meaning.specs.Meaning.Machine.{Setup, handlers, opening, least_outside}
use Rattle.dr_graph.specs.Meaning.Graph.{flagged}
use Rattle.dr_core.specs.Calls.CoreView.{Known, CoreView, opened, recent_of}
use Rattle.dr_core.specs.Calls.Shows.{Shows}
use Rattle.dr_meaning.specs.Calls.OpenFault.{is_bad_limit}
use Rattle.dr_core.specs.Calls.Reached.{IsReached}
use Rattle.dr_core.proofs.Running.{run_none}
use Rattle.dr_core.proofs.Whole.{reached_whole}
use Rattle.dr_meaning.specs.Meaning.Counts.{IsSetup}
use Rattle.dr_core.specs.Inside.Fields.{IsWhole}

-- a valid limit lets no sum of counts wrap
pub limit_fits : (limit : ℕ) → is_bad_limit limit ≡ false → limit ≤ 2 ^ 62
limit_fits limit good = ltb-false _ _ (or_parts _ _ good).1

-- where no flag is set, nobody is told
unflagged : (n h : ℕ) → flagged (replicate n false) h ≡ false
unflagged zero h = refl
unflagged (suc n) zero = refl
unflagged (suc n) (suc h) = unflagged n h

-- a core over a graph, as it is opened
abbrev pub new_core : {E : Type 0} → Setup → List Name → List (Known E) → List ℕ → List ℕ → List Bool → CoreView E
new_core c names recent taken completed retired = record { setup = c; names = names; next = 0; front = 0; taken = taken; completed = completed; halted = false; retired = retired; recent = recent }

-- nothing is recent where nothing is claimed
pub none_recent : {E : Type 0} (known : ℕ → Known E) (size : ℕ) → recent_of known 0 size ≡ []
none_recent known size = let none : min 0 size ≡ 0 = omega arith in ap (λ n. map known (range_with_len (0 - size) n)) none

module _ {E : Type 0} (c : Setup) (names : List Name) (recent : List (Known E)) (taken completed : List ℕ) (retired : List Bool)
    (none_taken : taken ≡ replicate (handlers c) 0) (none_completed : completed ≡ replicate (handlers c) 0)
    (none_retired : retired ≡ replicate (handlers c) false) where
  pub opening_shows : Shows (new_core c names recent taken completed retired) (opening c)
  unfolding least_outside
  opening_shows = record {
    counts = λ i. record { next = 0; front = 0; taken = sym none_taken i; completed = sym none_completed i };
    flags = λ i. record { halted = false; retired = λ h. sym (ap (λ (flags : List Bool). flagged flags h) none_retired ∙ unflagged (handlers c) h) i };
    recents = record { recent = λ s l r. absurd (omega arith); unclaimed = λ s l. (refl, refl) };
  }

  pub opening_seen : recent ≡ [] → new_core c names recent taken completed retired ≡ opened c names
  opening_seen none = λ i. record {
    setup = c;
    names = names;
    next = 0;
    front = 0;
    taken = none_taken i;
    completed = none_completed i;
    halted = false;
    retired = none_retired i;
    recent = none i;
  }

  opening_reached : IsReached (new_core c names recent taken completed retired)
  opening_reached = record { transcript = []; runs = run_none c [] (opening c) (new_core c names recent taken completed retired) refl opening_shows }

  pub opening_whole : IsSetup c → IsWhole (new_core c names recent taken completed retired)
  opening_whole setup =
      reached_whole (new_core c names recent taken completed retired) setup (ap length none_retired ∙ length-replicate _ false) opening_reached
