use Rattle.std.proofs.Common.{arith, ap, ◌∙◌}
use Rattle.dr_graph.specs.Meaning.Name.{texts}
use Rattle.dr_graph.proofs.Adding.{text, adding_at, adding_done, left_none}
use Rattle.dr_graph.proofs.name.add_group.Goals as goal

pub loop-name-preserved : goal.loop-name-preserved
loop-name-preserved c =
    adding_at text c.args.group.now c.loop-name.name-index c.name-item.result c.args.names.now.keys c.loop-name.names.keys c.insert.new.self.keys (texts c.args.group.now) c.in_ok-from_str.field-0
    c.loop-name.invariant c.loop-name-test.true (c.in_ok-from_str.ensures.ok ∙ c.as_str.ensures.value ∙ ap text c.name-item.is) c.in_ok-insert.ensures.keys

pub returns : goal.returns
returns c =
    adding_done c.args.names.now.keys c.loop-name.names.keys _ (texts c.args.group.now) c.loop-name.invariant
    (left_none text c.args.group.now c.loop-name.name-index (omega arith))
