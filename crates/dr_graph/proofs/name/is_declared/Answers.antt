use Rattle.std.proofs.Common.{sym, ◌∙◌}
use Rattle.dr_graph.proofs.Adding.{text}
use Rattle.dr_graph.proofs.Naming.{any_map}
use Rattle.dr_graph.proofs.name.is_declared.Goals as goal

pub returns : goal.returns
returns c = c.contains.ensures ∙ sym (any_map text c.args.declared.now.keys c.args.name.now)
