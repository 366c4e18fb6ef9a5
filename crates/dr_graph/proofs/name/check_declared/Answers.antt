use Rattle.std.proofs.Common.{sym, ◌∙◌, List, ℕ, Bor}
use Rattle.std.proofs.lemmas.List.Folds.{list_all-map}
use Rattle.dr_graph.specs.Meaning.Name.{texts, given, is_named}
use Rattle.dr_graph.proofs.Strangers.{stranger_none, stranger_some}
use Rattle.dr_graph.proofs.name.check_declared.Goals as goal

pub returns-then-are_all_declared-clause-refused : goal.returns-then-are_all_declared-clause-refused
returns-then-are_all_declared-clause-refused c =
    let declared = texts c.args.declared.now.keys in
    rw (stranger_none declared (given c.args.names.now) (list_all-map (is_named declared) (λ (n : Bor (List ℕ)). n.now) c.args.names.now ∙ sym c.are_all_declared.ensures ∙ c.if-are_all_declared.true)) tt

pub returns-then-are_all_declared-clause-accepted : goal.returns-then-are_all_declared-clause-accepted
returns-then-are_all_declared-clause-accepted c =
    λ ok. list_all-map (is_named (texts c.args.declared.now.keys)) (λ (n : Bor (List ℕ)). n.now) c.args.names.now ∙ sym c.are_all_declared.ensures
    ∙ c.if-are_all_declared.true

pub returns-else-are_all_declared-clause-cause : goal.returns-else-are_all_declared-clause-cause
returns-else-are_all_declared-clause-cause c =
    let declared = texts c.args.declared.now.keys in
    stranger_some declared (given c.args.names.now) (list_all-map (is_named declared) (λ (n : Bor (List ℕ)). n.now) c.args.names.now ∙ sym c.are_all_declared.ensures ∙ c.if-are_all_declared.false)
