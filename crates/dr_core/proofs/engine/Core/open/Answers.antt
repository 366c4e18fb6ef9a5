use Rattle.std.proofs.Common.{refl, sym, ◌∙◌}
use Rattle.std.proofs.lemmas.Bool.{cond-true, cond-false, not-true, not-false}
use Rattle.dr_graph.proofs.Answering.{answers_some}
use Rattle.dr_meaning.specs.declared.open_fault.OpenFault.TheVariants.{BadLimit, NoMemory}
use Rattle.dr_meaning.specs.Calls.OpenFault.{has_bad_producers, is_bad_limit, open_fault}
use Rattle.dr_core.proofs.engine.Core.open.Goals as goal

pub returns-then-not-is_valid_limit-clause-answer : goal.returns-then-not-is_valid_limit-clause-answer
returns-then-not-is_valid_limit-clause-answer g c =
    let good = not-true (has_bad_producers c.args.mode) (sym c.if-not-is_valid.ensures) in
    let bad = not-false (is_bad_limit c.args.limit) (sym c.if-not-is_valid_limit.ensures) in
    answers_some NoMemory (open_fault c.args.mode c.args.limit) _ BadLimit (cond-false _ _ _ good ∙ cond-true _ _ _ bad) refl
