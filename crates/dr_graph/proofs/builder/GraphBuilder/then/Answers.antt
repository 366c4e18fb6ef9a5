use Rattle.std.proofs.Common.{◌≡◌, ◌+◌, ℕ, Bor, List, [], true, refl, sym, ◌∙◌, ap, subst, length, map}
use Rattle.std.proofs.lemmas.List.{length-map}
use Rattle.std.specs.List.{list_all}
use Rattle.dr_graph.specs.Meaning.Name.{Name, texts, given, is_named, index_of}
use Rattle.dr_graph.specs.Inside.KeptBuilder.{declaration_of}
use Rattle.dr_graph.proofs.Adding.{text}
use Rattle.dr_graph.proofs.NewNames.{new_all}
use Rattle.dr_graph.proofs.Declaring.{declared_more, followed_within, room_of}
use Rattle.dr_graph.proofs.builder.GraphBuilder.then.Goals as goal

pub invariant_of-self-2 : goal.invariant_of-self-2
invariant_of-self-2 c =
    let old = declaration_of c.self.inside in
    let more = given c.args.names.now in
    let known : list_all (is_named old.names) c.args.group.now ≡ true =
    subst (λ (ns : List Name). list_all (is_named old.names) ns ≡ true) c.names.ensures.names (c.in_ok-check_group.ensures.accepted refl) in
    let first : c.len-first.result ≡ length old.names = c.len-first.ensures.len ∙ sym (length-map c.self.inside.names.keys text) in
    let end : c.len-first.result + length c.args.names.now ≡ c.len-first.result + length more =
    ap (λ (k : ℕ). c.len-first.result + k) (sym (length-map c.args.names.now (λ (n : Bor (List ℕ)). n.now))) in
    let places : c.in_ok-ups.ups.items ≡ map (index_of old.names) c.args.group.now = c.in_ok-ups.ensures
    ∙ ap (map (index_of old.names)) c.names-2.ensures.names in
    declared_more old more (texts c.declare.new.declared.keys) c.in_ok-edges.edges.items c.self.invariant (c.in_ok-check_new.ensures.free refl)
    (room_of c.self.inside.names.keys c.args.names.now (c.in_ok-check_new.ensures.room refl)) c.in_ok-declare.ensures.declared
    (followed_within old c.args.group.now more c.in_ok-edges.edges.items c.deref.result.now c.in_ok-ups.ups.items c.deref-2.result.now c.len-first.result (c.len-first.result + length c.args.names.now) c.self.invariant known first end c.deref.ensures.value c.deref-2.ensures.value places c.in_ok-edges.ensures)

pub returns-clause-group : goal.returns-clause-group
returns-clause-group c =
    c.in_ok-followers.ensures ∙ new_all (texts c.self.inside.names.keys) [] (given c.args.names.now) (λ n new. refl) (c.in_ok-check_new.ensures.free refl)
