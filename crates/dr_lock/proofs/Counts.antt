-- How many events come with a step of the machine.
use Rattle.std.proofs.Common.{◌≡◌, ℕ, ◌<◌, ◌≤◌, true, length, arith, refl, sym, ◌∙◌}
use Rattle.std.specs.Prelude.{nat_le}
use Rattle.std.proofs.lemmas.Bool.{cond_both, false≢true}
use Rattle.std.proofs.lemmas.Bool.Decides.{nat_tests}
use Rattle.dr_meaning.specs.declared.command.Command.{Command}
use Rattle.dr_meaning.specs.declared.command.Command.TheVariants.{Claim, Write, Publish, Poll, Complete, Halt, Retire}
use Rattle.dr_meaning.specs.Meaning.Machine.{Setup, State, Outcome, handlers, refusals, accepted, step}
use Rattle.dr_meaning.specs.Meaning.Runs.{offers}
use Rattle.dr_meaning.proofs.Steps.{unless-cases}
use Rattle.dr_lock.specs.Meaning.History.{asked}

abbrev Gives : {E : Type 0} → ℕ → Outcome E → Type 0
Gives n o = length o.values ≡ n

-- a poll of no handler, or of one that is retired, gives nothing
pub stranger_gives : {E : Type 0} (c : Setup) (m : State E) (h max : ℕ) → handlers c ≤ h → length (step c m (Poll h max)).values ≡ 0
stranger_gives c m h max outside =
    cond_both (nat_le (handlers c) h) _ _ (Gives 0) (λ y. refl) (λ n. absurd (let i : h < handlers c = grind (arith, nat_tests, n) in omega arith))

pub retired_gives : {E : Type 0} (c : Setup) (m : State E) (h max : ℕ) → m.retired h ≡ true → length (step c m (Poll h max)).values ≡ 0
retired_gives c m h max gone =
    cond_both (nat_le (handlers c) h) _ _ (Gives 0) (λ y. refl)
    (λ n. cond_both (m.retired h) _ _ (Gives 0) (λ y. refl) (λ n'. absurd (false≢true (sym n' ∙ gone))))

-- no other command gives events
pub other_gives : {E : Type 0} (c : Setup) (m : State E) (command : Command E) → ((h max : ℕ) → command ≡ Poll h max → ⊥)
    → length (step c m command).values ≡ 0
other_gives c m (Claim p n) not = unless-cases (Gives 0) (refusals c m (Claim p n)) m (accepted c m (Claim p n)) (λ r. refl) (λ none. refl)
other_gives c m (Write p s event) not = unless-cases (Gives 0) (refusals c m (Write p s event)) m (accepted c m (Write p s event)) (λ r. refl) (λ none. refl)
other_gives c m (Publish p lo hi) not = unless-cases (Gives 0) (refusals c m (Publish p lo hi)) m (accepted c m (Publish p lo hi)) (λ r. refl) (λ none. refl)
other_gives c m (Poll h max) not = absurd (not h max refl)
other_gives c m (Complete h upto) not = unless-cases (Gives 0) (refusals c m (Complete h upto)) m (accepted c m (Complete h upto)) (λ r. refl) (λ none. refl)
other_gives c m Halt not = refl
other_gives c m (Retire h) not = unless-cases (Gives 0) (refusals c m (Retire h)) m (accepted c m (Retire h)) (λ r. refl) (λ none. refl)

-- no command has more of use than it asks for
pub offers_le_asked : {E : Type 0} (command : Command E) (size : ℕ) → offers command size ≤ asked command
offers_le_asked (Claim p n) size = omega arith
offers_le_asked (Write p s event) size = omega arith
offers_le_asked (Publish p lo hi) size = omega arith
offers_le_asked (Poll h max) size = omega arith
offers_le_asked (Complete h upto) size = omega arith
offers_le_asked Halt size = omega arith
offers_le_asked (Retire h) size = omega arith
