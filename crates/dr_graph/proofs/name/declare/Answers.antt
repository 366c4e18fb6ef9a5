use Rattle.std.proofs.Common.{◌∙◌, ap, ◌++◌, List}
use Rattle.dr_graph.specs.Meaning.Name.{Name, texts, given}
use Rattle.dr_graph.proofs.NewNames.{new_all}
use Rattle.dr_graph.proofs.name.declare.Goals as goal

pub returns-in-Ok-clause-declared : goal.returns-in-Ok-clause-declared
returns-in-Ok-clause-declared c =
    let declared = texts c.args.declared.now.keys in
    c.in-Ok.ensures.added ∙ ap (λ (ns : List Name). declared ++ ns) (new_all declared declared (given c.args.names.now) (λ n free. free) c.requires)
