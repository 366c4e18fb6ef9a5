use Rattle.std.proofs.Common.{◌+◌, [], refl, ◌∙◌, length, arith}
use Rattle.dr_graph.specs.Meaning.Name.{texts, given}
use Rattle.dr_graph.specs.Inside.KeptBuilder.{declaration_of}
use Rattle.dr_graph.proofs.NewNames.{new_all}
use Rattle.dr_graph.proofs.Declaring.{within_more, declared_more, room_of}
use Rattle.dr_graph.proofs.builder.GraphBuilder.handle_with.Goals as goal

pub invariant_of-self-2 : goal.invariant_of-self-2
invariant_of-self-2 c =
    let old = declaration_of c.self.inside in
    let more = given c.args.names.now in
    declared_more old more (texts c.declare.new.declared.keys) c.self.inside.edges.items c.self.invariant (c.in_ok-check_new.ensures.free refl)
    (room_of c.self.inside.names.keys c.args.names.now (c.in_ok-check_new.ensures.room refl)) c.in_ok-declare.ensures.declared
    (within_more (length old.names) (length old.names + length more) c.self.inside.edges.items c.self.invariant.within (omega arith))

pub returns-clause-group : goal.returns-clause-group
returns-clause-group c =
    c.in_ok-group.ensures ∙ new_all (texts c.self.inside.names.keys) [] (given c.args.names.now) (λ n new. refl) (c.in_ok-check_new.ensures.free refl)
