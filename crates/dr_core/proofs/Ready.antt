-- When no handler is told how many events are ready for it.
use Rattle.std.proofs.Common.{◌≡◌, ℕ, ◌≤◌, inl, inr, true, arith, ◌∙◌, Err}
use Rattle.std.specs.Prelude.{◌⊎◌, nat_le}
use Rattle.std.proofs.lemmas.Bool.{cases_Bool, cond-false}
use Rattle.std.proofs.lemmas.Bool.Decides.{nat_tests}
use Rattle.dr_meaning.specs.declared.refusal.Refusal.{Refusal}
use Rattle.dr_meaning.specs.Meaning.Machine.{handlers}
use Rattle.dr_core.specs.Calls.CoreView.{CoreView, retired_in}
use Rattle.dr_core.specs.Calls.Ready.{ready_for}

-- whoever is refused is not there, or is retired
pub ready_refused : {E : Type 0} (v : CoreView E) (h : ℕ) (refusal : Refusal) → Err refusal ≡ ready_for v h → (handlers v.setup ≤ h) ⊎ (retired_in v h ≡ true)
ready_refused v h refusal is = elim (cases_Bool (nat_le (handlers v.setup) h)) [
  | inl outside ↦ inl (grind (arith, nat_tests))
  | inr inside ↦ elim (cases_Bool (retired_in v h)) [
    | inl gone ↦ inr gone
    | inr left ↦ let told = is ∙ cond-false _ _ _ inside ∙ cond-false _ _ _ left in absurd (cc)
  ]
]
