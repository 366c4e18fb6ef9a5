use Rattle.std.proofs.Common.{sym, ◌∙◌}
use Rattle.std.proofs.lemmas.List.Folds.{list_all-map}
use Rattle.dr_graph.specs.Meaning.Name.{texts, texts, is_named}
use Rattle.dr_graph.proofs.Adding.{text}
use Rattle.dr_graph.proofs.Strangers.{stranger_none, stranger_some}
use Rattle.dr_graph.proofs.name.check_group.Goals as goal

pub returns-then-is_group_declared-clause-refused : goal.returns-then-is_group_declared-clause-refused
returns-then-is_group_declared-clause-refused c =
    let declared = texts c.args.declared.now.keys in
    rw (stranger_none declared (texts c.args.group.now) (list_all-map (is_named declared) text c.args.group.now ∙ sym c.is_group_declared.ensures ∙ c.if-is_group_declared.true)) tt

pub returns-then-is_group_declared-clause-accepted : goal.returns-then-is_group_declared-clause-accepted
returns-then-is_group_declared-clause-accepted c =
    λ ok. list_all-map (is_named (texts c.args.declared.now.keys)) text c.args.group.now ∙ sym c.is_group_declared.ensures ∙ c.if-is_group_declared.true

pub returns-else-is_group_declared-clause-cause : goal.returns-else-is_group_declared-clause-cause
returns-else-is_group_declared-clause-cause c =
    let declared = texts c.args.declared.now.keys in
    stranger_some declared (texts c.args.group.now) (list_all-map (is_named declared) text c.args.group.now ∙ sym c.is_group_declared.ensures ∙ c.if-is_group_declared.false)
