-- The handlers' steps come to an end, since each leaves less to do.
use Rattle.std.proofs.Common.{◌≡◌, ℕ, zero, suc, ◌+◌, ◌-◌, ◌<◌, ◌≤◌, ◌≢◌, inl, inr, Bool, List, [], ◌∷◌, arith}
use Rattle.std.proofs.Common.{refl, sym, ◌∙◌, subst, length, slice_index, slice_set}
use Rattle.std.specs.Prelude.{◌==◌, nat_lt, ◌&&◌, sum_by}
use Rattle.std.specs.List.{range_with_len}
use Rattle.std.proofs.lemmas.Bool.{cond_both, cond-true, cases_eq, eqb-true, eq-eqb}
use Rattle.std.proofs.lemmas.Bool.Decides.{nat_tests}
use Rattle.std.proofs.lemmas.List.Sums.{sum_by-cons}
use Rattle.dr_meaning.specs.declared.command.Command.{Command}
use Rattle.dr_meaning.specs.declared.command.Command.TheVariants.{Claim, Write, Publish, Poll, Complete, Halt, Retire}
use Rattle.dr_meaning.specs.declared.command.Reply.TheVariants.{Batch, Completed}
use Rattle.dr_graph.specs.Meaning.Graph.{upstreams_of}
use Rattle.dr_meaning.specs.Meaning.Machine.{Setup, State, Outcome, handlers, next, front, available, cursor, refusals, accepted, step}
use Rattle.dr_meaning.specs.Meaning.Transcript.{Transcript, LeadsTo}
use Rattle.dr_meaning.specs.Meaning.Progress.{IsStepOn, GoOn, to_do}
use Rattle.dr_meaning.proofs.Steps.{NoneHold, unless-cases}
use Rattle.dr_meaning.proofs.Sound.{IsSound, offered-le, set_count}
use Rattle.dr_meaning.proofs.Keeps.{step_sound}
use Rattle.dr_meaning.proofs.FiveLaws.{reached}

module _ (f g : ℕ → ℕ) (none_more : (k : ℕ) → g k ≤ f k) where
  sum_at-most : (a n : ℕ) → sum_by g (range_with_len a n) ≤ sum_by f (range_with_len a n)
  sum_at-most a zero = omega arith
  sum_at-most a (suc n) =
      let here : g a ≤ f a = none_more a in
      let rest : sum_by g (range_with_len (a + 1) n) ≤ sum_by f (range_with_len (a + 1) n) = sum_at-most (a + 1) n in
      rw (sum_by-cons g a (range_with_len (a + 1) n), sum_by-cons f a (range_with_len (a + 1) n)) (omega arith)

  -- a sum is less where one of its numbers is less, and none is more
  sum_less : (a n h : ℕ) → a ≤ h → h < a + n → g h < f h → sum_by g (range_with_len a n) < sum_by f (range_with_len a n)
  sum_less a zero h low high less = absurd (omega arith)
  sum_less a (suc n) h low high less =
      rw (sum_by-cons g a (range_with_len (a + 1) n), sum_by-cons f a (range_with_len (a + 1) n))
      (elim (cases_eq a h) [
        | inl e ↦
            let here : g a < f a = subst (λ k. g k < f k) (sym e) less in
            let rest : sum_by g (range_with_len (a + 1) n) ≤ sum_by f (range_with_len (a + 1) n) = sum_at-most (a + 1) n in
            omega arith
        | inr ne ↦
            let here : g a ≤ f a = none_more a in
            let rest : sum_by g (range_with_len (a + 1) n) < sum_by f (range_with_len (a + 1) n) = sum_less (a + 1) n h (omega arith) (omega arith) less in
            omega arith
      ])

-- what one handler has to do
abbrev share : {E : Type 0} → State E → ℕ → ℕ
share m h = (front m - slice_index m.taken h) + (front m - slice_index m.completed h)

-- a count of one handler is raised
raised : (counts : List ℕ) (h count k : ℕ) → h < length counts → slice_index counts h ≤ count → slice_index counts k ≤ slice_index (slice_set counts h count) k
raised counts h count k inside more =
    rw (set_count counts h count k inside)
    (cond_both (k == h) count (slice_index counts k) (λ n. slice_index counts k ≤ n) (λ y. let e : k ≡ h = eqb-true k h y in rw e more) (λ n. omega arith))

raised_here : (counts : List ℕ) (h count : ℕ) → h < length counts → slice_index (slice_set counts h count) h ≡ count
raised_here counts h count inside = set_count counts h count h inside ∙ cond-true (h == h) _ _ (eq-eqb h h refl)

module _ {E : Type 0} (c : Setup) (m : State E) (sound : IsSound c m) where
  -- a handler that takes more leaves less to do
  takes_less : (h count : ℕ) → h < handlers c → slice_index m.taken h < count → count ≤ front m → to_do c (record m { taken = slice_set m.taken h count }) < to_do c m
  takes_less h count inside more within =
      let len : length m.taken ≡ handlers c = sound.taken_len in
      let here : slice_index (slice_set m.taken h count) h ≡ count = raised_here m.taken h count (omega arith) in
      sum_less (share m) (share (record m { taken = slice_set m.taken h count }))
      (λ k. let up : slice_index m.taken k ≤ slice_index (slice_set m.taken h count) k = raised m.taken h count k (omega arith) (omega arith) in omega arith)
      0 (handlers c) h (omega arith) (omega arith) (omega arith)

  -- and so does one that completes more
  completes_less : (h count : ℕ) → h < handlers c → slice_index m.completed h < count → count ≤ front m
      → to_do c (record m { completed = slice_set m.completed h count }) < to_do c m
  completes_less h count inside more within =
      let len : length m.completed ≡ handlers c = sound.completed_len in
      let here : slice_index (slice_set m.completed h count) h ≡ count = raised_here m.completed h count (omega arith) in
      sum_less (share m) (share (record m { completed = slice_set m.completed h count }))
      (λ k. let up : slice_index m.completed k ≤ slice_index (slice_set m.completed h count) k = raised m.completed h count k (omega arith) (omega arith) in omega arith)
      0 (handlers c) h (omega arith) (omega arith) (omega arith)

  batch_less : (h max first count : ℕ) (end : Bool) → NoneHold (refusals c m (Poll h max)) → (accepted c m (Poll h max)).reply ≡ Batch first count end
      → to_do c (accepted c m (Poll h max)).state < to_do c m
  batch_less h max first count end none =
      let P : Outcome E → Type 0 = λ o. o.reply ≡ Batch first count end → to_do c o.state < to_do c m in
      let inside : h < handlers c = grind (arith, nat_tests, none.0) in
      let some : max ≢ 0 = (λ e. grind (arith, nat_tests, none.1.1.0)) in
      let offers : available c m h ≤ front m = offered-le c m sound (upstreams_of c.upstreams h) in
      cond_both (nat_lt (slice_index m.taken h) (available c m h)) _ _ P
      (λ y is. let more : slice_index m.taken h < available c m h = grind (arith, nat_tests, y) in takes_less h _ inside (omega arith) (omega arith))
      (λ n. cond_both (m.halted && (slice_index m.taken h == next m)) _ _ P (λ y is. absurd (cc))
      (λ n'. cond_both (nat_lt (slice_index m.taken h) (cursor c m)) _ _ P (λ y is. absurd (cc)) (λ n'' is. absurd (cc))))

  step_less : (command : Command E) → IsStepOn c m command → to_do c (step c m command).state < to_do c m
  step_less (Claim p n) on = absurd on
  step_less (Write p s event) on = absurd on
  step_less (Publish p lo hi) on = absurd on
  step_less (Poll h max) on =
      unless-cases (λ o. o.reply ≡ Batch on.0 on.1 on.2 → to_do c o.state < to_do c m) (refusals c m (Poll h max)) m (accepted c m (Poll h max))
      (λ r is. absurd (cc)) (batch_less h max on.0 on.1 on.2) on.3
  step_less (Complete h upto) on =
      unless-cases (λ o. o.reply ≡ Completed → to_do c o.state < to_do c m) (refusals c m (Complete h upto)) m (accepted c m (Complete h upto))
      (λ r is. absurd (cc))
      (λ none is.
      let inside : h < handlers c = grind (arith, nat_tests, none.0) in
      let took : upto ≤ slice_index m.taken h = grind (arith, nat_tests, none.1.1.1.0) in
      let within : slice_index m.taken h ≤ front m = sound.in_front h in
      completes_less h upto inside on.0 (omega arith))
      on.1
  step_less Halt on = absurd on
  step_less (Retire h) on = absurd on

rests : {E : Type 0} (c : Setup) (m : State E) (commands : List (Command E)) → IsSound c m → GoOn c m commands → length commands ≤ to_do c m
rests c m [] sound on = omega arith
rests c m (command ∷ commands) sound on =
    let less : to_do c (step c m command).state < to_do c m = step_less c m sound command on.0 in
    let rest : length commands ≤ to_do c (step c m command).state = rests c (step c m command).state commands (step_sound c m command sound) on.1 in
    omega arith

pub comes_to_rest : {E : Type 0} (c : Setup) (t : Transcript E) (m : State E) (commands : List (Command E)) → LeadsTo c t m → GoOn c m commands
    → length commands ≤ to_do c m
comes_to_rest c t m commands leads = rests c m commands (reached c t m leads).sound
