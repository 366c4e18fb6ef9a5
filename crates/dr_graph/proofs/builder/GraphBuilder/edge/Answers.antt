use Rattle.std.proofs.Common.{◌≡◌, ◌<◌, ℕ, List, [], ◌∷◌, true, refl, sym, subst, length}
use Rattle.std.proofs.lemmas.Bool.{and_parts}
use Rattle.std.specs.List.{list_all}
use Rattle.dr_graph.specs.declared.edge.Edge.{Edge}
use Rattle.dr_graph.specs.Meaning.Name.{texts, is_named}
use Rattle.dr_graph.specs.Meaning.Order.{AreWithin}
use Rattle.dr_graph.proofs.Places.{place_named}
use Rattle.dr_graph.proofs.Declaring.{within_push}
use Rattle.dr_graph.proofs.builder.GraphBuilder.edge.Goals as goal

pub invariant_of-self : goal.invariant_of-self
invariant_of-self c =
    let names = texts c.self.inside.names.keys in
    let both : list_all (is_named names) (c.args.up.now ∷ c.args.down.now ∷ []) ≡ true = c.in_ok-check_declared.ensures.accepted refl in
    let parts : (is_named names c.args.up.now ≡ true) × (list_all (is_named names) (c.args.down.now ∷ []) ≡ true) =
    and_parts (is_named names c.args.up.now) (list_all (is_named names) (c.args.down.now ∷ [])) both in
    let rest : (is_named names c.args.down.now ≡ true) × (list_all (is_named names) [] ≡ true) =
    and_parts (is_named names c.args.down.now) (list_all (is_named names) []) parts.1 in
    let from : c.place_of-from.result < length names =
    subst (λ (k : ℕ). k < length names) (sym c.place_of-from.ensures) (place_named names c.args.up.now parts.0) in
    let to : c.place_of-to.result < length names = subst (λ (k : ℕ). k < length names) (sym c.place_of-to.ensures) (place_named names c.args.down.now rest.0) in
    record {
      few = c.self.invariant.few;
      distinct = c.self.invariant.distinct;
      within = subst (λ (es : List Edge). AreWithin (length names) es) (sym c.in_ok-push.ensures.items)
          (within_push (length names) c.self.inside.edges.items (record { up = c.place_of-from.result; down = c.place_of-to.result }) c.self.invariant.within from to);
    }
