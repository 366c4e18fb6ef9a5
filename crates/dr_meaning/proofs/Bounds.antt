-- How far the claims of every state go.
use Rattle.std.proofs.Common.{◌≡◌, ℕ, ◌+◌, ◌≤◌, [], ◌∷◌, ◌++◌, ◌&&◌, ◌==◌, arith, refl, subst, length, replicate, slice_index}
use Rattle.std.specs.Prelude.{nat_lt}
use Rattle.std.proofs.lemmas.Bool.{cond_both, or_parts}
use Rattle.std.proofs.lemmas.Bool.Decides.{nat_tests}
use Rattle.std.proofs.lemmas.List.{length-append, length-replicate}
use Rattle.dr_meaning.specs.declared.command.Command.{Command}
use Rattle.dr_meaning.specs.declared.command.Command.TheVariants.{Claim, Write, Publish, Poll, Complete, Halt, Retire}
use Rattle.dr_graph.specs.Meaning.Graph.{FinalsGate, IsGraph}
use Rattle.dr_graph.proofs.Gating.{least_gates}
use Rattle.dr_meaning.specs.Meaning.Machine.{Setup, State, Outcome, next, available, cursor, gate, refusals, accepted, step, opening}
use Rattle.dr_meaning.specs.Meaning.Transcript.{Transcript, LeadsFrom, LeadsTo}
use Rattle.dr_meaning.specs.Meaning.Counts.{AreInBounds}
use Rattle.dr_meaning.proofs.Steps.{NoneHold, unless-cases}
use Rattle.dr_meaning.proofs.Sound.{IsSound, orderly}
use Rattle.dr_meaning.proofs.Keeps.{opening_sound, step_sound}
use Rattle.dr_meaning.proofs.FiveLaws.{accepted_rises, leaves_another}

abbrev pub IsBounded : {E : Type 0} → Setup → State E → Type 0
IsBounded c m = AreInBounds c (next m) m.completed m.retired

module _ (c : Setup) (gates : FinalsGate c.upstreams) where
  claim_bounded : {E : Type 0} (m : State E) (p n : ℕ) → IsSound c m → NoneHold (refusals c m (Claim p n)) → IsBounded c m → IsBounded c (accepted c m (Claim p n)).state
  claim_bounded m p n sound none bounds =
      let more : length (m.owners ++ replicate n p) ≡ next m + n = rw (length-append, length-replicate) refl in
      let limit : next m + n ≤ c.limit = grind (arith, nat_tests, none.1.1.1.0) in
      let fits : next m + n ≤ c.size + gate c m = grind (arith, nat_tests, none.1.1.1.1.0) in
      record {
        claimed = omega arith;
        left = bounds.left;
        room = λ h inside left.
            (let least : gate c m ≤ slice_index m.completed h = least_gates c.upstreams gates m.retired (λ k. slice_index m.completed k) (orderly sound.order) h inside left in
            omega arith);
      }

  complete_bounded : {E : Type 0} (m : State E) (at upto : ℕ) → IsSound c m → NoneHold (refusals c m (Complete at upto)) → IsBounded c m
      → IsBounded c (accepted c m (Complete at upto)).state
  complete_bounded m at upto sound none bounds = record {
    claimed = bounds.claimed;
    left = bounds.left;
    room = λ h inside left.
        (let old : next m ≤ c.size + slice_index m.completed h = bounds.room h inside left in
        omega (arith, accepted_rises c m (Complete at upto) h sound none));
  }

  accepted_bounded : {E : Type 0} (m : State E) (command : Command E) → IsSound c m → IsBounded c m → NoneHold (refusals c m command) → IsBounded c (accepted c m command).state
  accepted_bounded m (Claim p n) sound bounds none = claim_bounded m p n sound none bounds
  accepted_bounded m (Write p s v) sound bounds none = bounds
  accepted_bounded m (Publish p lo hi) sound bounds none = bounds
  accepted_bounded {E} m (Poll h limit) sound bounds none =
      let P : Outcome E → Type 0 = λ o. IsBounded c o.state in
      cond_both (nat_lt (slice_index m.taken h) (available c m h)) _ _ P (λ y. bounds)
      (λ n. cond_both (m.halted && (slice_index m.taken h == next m)) _ _ P (λ y. bounds)
      (λ n'. cond_both (nat_lt (slice_index m.taken h) (cursor c m)) _ _ P (λ y. bounds) (λ n''. bounds)))
  accepted_bounded m (Complete h upto) sound bounds none = complete_bounded m h upto sound none bounds
  accepted_bounded m Halt sound bounds none = bounds
  accepted_bounded m (Retire h) sound bounds none = record {
    claimed = bounds.claimed;
    left = leaves_another c m h none;
    room = λ k inside here. bounds.room k inside (or_parts _ _ here).0;
  }

  bounded_along : {E : Type 0} (es : Transcript E) (m n : State E) → IsSound c m → IsBounded c m → LeadsFrom c m es n → IsBounded c n
  bounded_along [] m n sound bounds leads = subst (IsBounded c) leads bounds
  bounded_along (e ∷ es) m n sound bounds leads =
      let more : IsBounded c (step c m e.command).state =
      unless-cases (λ o. IsBounded c o.state) (refusals c m e.command) m (accepted c m e.command) (λ r. bounds) (accepted_bounded m e.command sound bounds) in
      bounded_along es (step c m e.command).state n (step_sound c m e.command sound) more leads.2

pub bounded : {E : Type 0} (c : Setup) (t : Transcript E) (m : State E) → IsGraph c.upstreams → LeadsTo c t m → IsBounded c m
bounded c t m graph leads =
    bounded_along c graph.gate t (opening c) m (opening_sound c)
    (record { claimed = omega arith; left = (0, graph.some, refl); room = λ h inside left. omega arith })
    leads
