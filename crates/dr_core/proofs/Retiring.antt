-- A retirement of the core is the machine's, and no claim waits longer for it.
use Rattle.std.proofs.Common.{◌≡◌, ℕ, ◌+◌, ◌<◌, ◌≤◌, Bool, true, false, not, ◌||◌, List, [], inl, inr}
use Rattle.std.proofs.Common.{refl, ap, sym, ◌∙◌, arith, length, get_or, slice_set, slice_index}
use Rattle.std.specs.Prelude.{◌==◌}
use Rattle.std.specs.List.{range_with_len}
use Rattle.std.proofs.lemmas.Bool.{cases_eq, eq-eqb, ne_eqb, or_parts, not-true, not-false, lt-leb, and_parts, or_right}
use Rattle.std.proofs.lemmas.List.{get_or_read, get_or-set_same, get_or-set_other}
use Rattle.dr_meaning.specs.declared.command.Command.TheVariants.{Retire}
use Rattle.dr_meaning.specs.declared.command.Reply.TheVariants.{Retired, Refused}
use Rattle.dr_meaning.specs.declared.refusal.Refusal.TheVariants.{NotFinal, LastHandler}
use Rattle.dr_graph.specs.Meaning.Graph.{flagged, is_some_left, is_followed, is_final_without}
use Rattle.dr_graph.proofs.Gating.{found_in, any_agree, followed_agree, final_left, least_rises}
use Rattle.dr_meaning.specs.Meaning.Machine.{State, handlers, retired_with}
use Rattle.dr_core.specs.Calls.CoreView.{CoreView, retired_in, gate_of}
use Rattle.dr_core.specs.Calls.Shows.{Shows, IsStep}
use Rattle.dr_core.specs.Inside.Fields.{IsWhole, IsSeen}
use Rattle.dr_core.proofs.CoreSteps.{accepted_step, refused_step, finals_least}
use Rattle.dr_core.proofs.Gating.{seen_below}
use Rattle.dr_core.proofs.Shown.{same_retired}
use Rattle.dr_meaning.proofs.Sound.{orderly}
use Rattle.dr_meaning.proofs.Pushes.{or-false}

-- a flag that was read
pub told : {E : Type 0} (v : CoreView E) (h : ℕ) (r b : Bool) → IsWhole v → h < handlers v.setup → r ≡ get_or v.retired h r → r ≡ b → retired_in v h ≡ b
told v h r b whole inside read is = sym (get_or_read v.retired h r (let e : length v.retired ≡ handlers v.setup = whole.retired in omega arith) read false) ∙ is

-- whether another is left, as it was told
pub others_told : {E : Type 0} (v : CoreView E) (h : ℕ) (flags : List Bool) (r b : Bool) → IsWhole v → flags ≡ v.retired
    → r ≡ not (is_some_left (length flags) (λ k. flagged flags k || k == h)) → r ≡ b
    → not (is_some_left (handlers v.setup) (λ k. retired_in v k || k == h)) ≡ b
others_told v h flags r b whole same read is =
    ap (λ n. not (is_some_left n (λ k. retired_in v k || k == h))) (sym whole.retired)
    ∙ ap (λ (fs : List Bool). not (is_some_left (length fs) (λ k. flagged fs k || k == h))) (sym same)
    ∙ sym read
    ∙ is

-- one flag more
pub flagged_more : (flags : List Bool) (h k : ℕ) → h < length flags → flagged (slice_set flags h true) k ≡ (flagged flags k || k == h)
flagged_more flags h k lt = elim (cases_eq k h) [
  | inl e ↦ rw e (get_or-set_same flags h true false lt ∙ sym (or_right (flagged flags h) (h == h) (eq-eqb h h refl)))
  | inr ne ↦ get_or-set_other flags h k true false ne ∙ sym (ap (λ b. flagged flags k || b) (ne_eqb k h ne) ∙ or-false (flagged flags k))
]

-- a core with one more handler retired
abbrev pub retired_core : {E : Type 0} → CoreView E → ℕ → CoreView E
retired_core v h = record v { retired = slice_set v.retired h true }

module _ {E : Type 0} (v : CoreView E) (h : ℕ) (whole : IsWhole v) (inside : h < handlers v.setup) (left : retired_in v h ≡ false) where
  pub not_final_step : is_final_without v.setup.upstreams (retired_in v) h ≡ false → IsStep v (Retire h) (Refused NotFinal) [] v
  not_final_step not_final =
      refused_step v (Retire h) NotFinal
      (λ m sh. inr (
        lt-leb _ _ inside,
        inr
            (same_retired sh h ∙ left, inl (followed_agree v.setup.upstreams m.retired (retired_in v) (same_retired sh) h ∙ is_followed_then, refl)),
      ))
    where
      is_followed_then : is_followed v.setup.upstreams (retired_in v) h ≡ true
      is_followed_then = not-false _ (rw left at not_final)

  module _ (final : is_final_without v.setup.upstreams (retired_in v) h ≡ true) where
    unfollowed : (m : State E) → Shows v m → is_followed v.setup.upstreams m.retired h ≡ false
    unfollowed m sh = followed_agree v.setup.upstreams m.retired (retired_in v) (same_retired sh) h ∙ not-true _ (and_parts _ _ final).1

    some_left : (m : State E) → Shows v m → is_some_left (handlers v.setup) (retired_with m h) ≡ is_some_left (handlers v.setup) (λ k. retired_in v k || k == h)
    some_left m sh =
        any_agree (λ k. not (retired_with m h k)) (λ k. not (retired_in v k || k == h)) (λ k. ap (λ b. not (b || k == h)) (same_retired sh k))
        (range_with_len 0 (handlers v.setup))

    pub last_step : is_some_left (handlers v.setup) (λ k. retired_in v k || k == h) ≡ false → IsStep v (Retire h) (Refused LastHandler) [] v
    last_step none =
        refused_step v (Retire h) LastHandler
        (λ m sh. inr (lt-leb _ _ inside, inr (same_retired sh h ∙ left, inr (unfollowed m sh, inl (ap not (some_left m sh ∙ none), refl)))))

    module _ (others : is_some_left (handlers v.setup) (λ k. retired_in v k || k == h) ≡ true) where
      within : h < length v.retired
      within = let e : length v.retired ≡ handlers v.setup = whole.retired in omega arith

      pub retire_step : IsStep v (Retire h) Retired [] (retired_core v h)
      retire_step = accepted_step refl refl (λ m sh. record {
        passes = (lt-leb _ _ inside, (same_retired sh h ∙ left, (unfollowed m sh, (ap not (some_left m sh ∙ others), tt))));
        replies = refl;
        hands_out = refl;
        shown = record {
          counts = sh.counts;
          flags = λ i. record (sh.flags i) { retired = λ k. (ap (λ b. b || k == h) (same_retired sh k) ∙ sym (flagged_more v.retired h k within)) i };
          recents = sh.recents;
        };
      })

      -- who is left after it was left before
      fewer : (k : ℕ) → retired_in (retired_core v h) k ≡ false → retired_in v k ≡ false
      fewer k here = (or_parts _ _ (sym (flagged_more v.retired h k within) ∙ here)).0

      other : (k : ℕ) × (k < handlers v.setup) × (retired_in (retired_core v h) k ≡ false)
      other =
          let at : (k : ℕ) × (0 ≤ k) × (k < 0 + handlers v.setup) × (not (retired_in v k || k == h) ≡ true) =
          found_in (λ k. not (retired_in v k || k == h)) 0 (handlers v.setup) others in
          (at.0, omega (arith, at.2), flagged_more v.retired h at.0 within ∙ not-true _ at.3)

      -- what was remembered before is so after
      pub retire_seen : (count : ℕ) → IsSeen v.setup (retired_in v) v.completed count → IsSeen v.setup (retired_in (retired_core v h)) v.completed count
      retire_seen count seen f has =
          let now : (f < handlers v.setup) × (retired_in (retired_core v h) f ≡ false) = final_left v.setup.upstreams (retired_in (retired_core v h)) f has in
          let a : count ≤ gate_of v = seen_below v whole count seen in
          let b : gate_of v ≤ slice_index v.completed f = finals_least v whole f now.0 (fewer f now.1) in
          omega arith

      -- a retirement never lowers the least count of the finals
      pub retire_room : gate_of v ≤ gate_of (retired_core v h)
      retire_room =
          least_rises v.setup.upstreams whole.graph.gate (retired_in v) (retired_in (retired_core v h)) fewer (λ k. slice_index v.completed k)
          (orderly whole.order) other.0 other.1 other.2
