use Rattle.std.proofs.Common.{◌∙◌}
use Rattle.dr_c.specs.Asked.{IsAskedBy}
use Rattle.dr_c.proofs.Asked.{asked_all, built_so, why_not_built}
use Rattle.dr_c.proofs.graph.built.Goals as goal
use Rattle.dr_c.proofs.graph.built.Goals.{After-build}

asked : (c : After-build) → IsAskedBy c.args.masks.now c.connect_all.new.builder
asked c = record {
  names = c.in_ok-connect_all.ensures.names ∙ c.in_ok-declare_all.ensures.names;
  edges = asked_all c.args.masks.now c.connect_all.new.builder.edges c.in_ok-connect_all.ensures.edges;
}

pub returns-clause-asked : goal.returns-clause-asked
returns-clause-asked c = built_so c.args.masks.now c.connect_all.new.builder c.build.result (asked (goal.at.returns-clause-asked c).After-build) c.build.ensures.built

pub returns-clause-refused : goal.returns-clause-refused
returns-clause-refused c = why_not_built c.args.masks.now c.connect_all.new.builder c.build.result (asked (goal.at.returns-clause-refused c).After-build)
    c.build.ensures.refused c.build.ensures.no_handlers c.build.ensures.cycle
