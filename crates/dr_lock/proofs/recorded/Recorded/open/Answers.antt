use Rattle.std.proofs.Common.{◌≡◌, ◌≤◌, ◌^◌, ℕ, inl, inr, None, refl, sym, ◌∙◌, subst, arith, rules}
use Rattle.std.specs.Prelude.{◌==◌, nat_lt}
use Rattle.std.proofs.lemmas.Bool.{cases_Bool, cond-true, cond-false, or_parts}
use Rattle.std.proofs.lemmas.Bool.Decides.{nat_tests}
use Rattle.std.proofs.lemmas.Result.{err_from_is_err_and}
use Rattle.dr_graph.proofs.Answering.{answers_again, answers_none, none_of_ok}
use Rattle.dr_seq.specs.Size.{IsSize}
use Rattle.dr_meaning.specs.declared.mode.Mode.{Mode}
use Rattle.dr_meaning.specs.declared.open_fault.OpenFault.TheVariants.{NoMemory}
use Rattle.dr_core.specs.Calls.CoreView.{CoreView}
use Rattle.dr_meaning.specs.Calls.OpenFault.{has_bad_producers, is_bad_limit, open_fault}
use Rattle.dr_lock.proofs.Recording.{recorded_none}
use Rattle.dr_lock.proofs.recorded.Recorded.open.Goals as goal

-- where there is no fault, the limit is small
no_fault : (mode : Mode) (limit : ℕ) → open_fault mode limit ≡ None → limit ≤ 2 ^ 62
no_fault mode limit none =
    elim (cases_Bool (has_bad_producers mode)) [
      | inl y ↦ let some = sym (cond-true _ _ _ y) ∙ none in absurd (cc)
      | inr n ↦ elim (cases_Bool (is_bad_limit limit)) [
        | inl y ↦ let some = sym (cond-false _ _ _ n ∙ cond-true _ _ _ y) ∙ none in absurd (cc)
        | inr good ↦ grind (arith, nat_tests, (or_parts (limit == 0) (nat_lt (2 ^ 62) limit) good).1)
      ]
    ]

pub invariant_of-result : goal.invariant_of-result
invariant_of-result g c =
    let core = c.in_ok-core.ensures.opened in
    let small = no_fault c.args.mode c.args.limit (none_of_ok NoMemory _ c.in_ok-core.core c.in_ok-core.ensures.answer) in
    recorded_none c.every_transcript_is_lawful.ensures _ c.in_ok-core.core _ _ core.setup c.in_ok-entries.ensures.items c.in_ok-values.ensures.items core.shows small
    (subst (λ (v : CoreView _). IsSize v.setup.size) c.core.view_is c.core.invariant.whole.size)

pub returns-in_err-core-clause-answer : goal.returns-in_err-core-clause-answer
returns-in_err-core-clause-answer g c =
    let p = err_from_is_err_and c.from_residual.result c.from_residual.ensures.1 in
    answers_again (CoreView _) NoMemory (open_fault c.args.mode c.args.limit) c.in_err-core.field-0.0 c.from_residual.result (rw (p.1, p.2) refl) c.in_err-core.ensures.answer

pub returns-in_err-entries-clause-answer : goal.returns-in_err-entries-clause-answer
returns-in_err-entries-clause-answer g c = answers_none _ _ _ (none_of_ok _ _ c.in_ok-core.core c.in_ok-core.ensures.answer) (search rules)

pub returns-in_err-values-clause-answer : goal.returns-in_err-values-clause-answer
returns-in_err-values-clause-answer g c = answers_none _ _ _ (none_of_ok _ _ c.in_ok-core.core c.in_ok-core.ensures.answer) (search rules)

pub returns-clause-answer : goal.returns-clause-answer
returns-clause-answer g c = answers_none _ _ _ (none_of_ok _ _ c.in_ok-core.core c.in_ok-core.ensures.answer) (search rules)

pub returns-clause-room : goal.returns-clause-room
returns-clause-room g c = (c.in_ok-entries.ensures.exact, c.in_ok-values.ensures.exact)
