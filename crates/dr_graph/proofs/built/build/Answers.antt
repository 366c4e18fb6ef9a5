use Rattle.std.proofs.Common.{◌≡◌, ◌<◌, ℕ, List, sym, ◌∙◌, ap, subst, arith, length, map, Vec, Global}
use Rattle.std.proofs.lemmas.List.{length-map}
use Rattle.dr_graph.specs.Meaning.Name.{Name, texts}
use Rattle.dr_graph.specs.Meaning.Order.{IsBuiltOrder}
use Rattle.dr_graph.specs.Meaning.Declaration.{Declaration}
use Rattle.dr_graph.specs.Meaning.Graph.{AreLists, finals, names_in}
use Rattle.dr_graph.proofs.Adding.{text}
use Rattle.dr_graph.proofs.Building.{IsFound, shape_of_order, graph_of_order, graph_lawful}
use Rattle.dr_graph.proofs.built.build.Goals as goal
use Rattle.dr_graph.proofs.built.build.Goals.{In_ok-finals}

abbrev lists_in : List (Vec ℕ Global) → List (List ℕ)
lists_in lists = map (λ (ups : Vec ℕ Global). ups.items) lists

abbrev declaration_of : In_ok-finals → Declaration
declaration_of c = record { names = texts c.args.declared.now.keys; edges = c.args.edges.now }

abbrev order_of : In_ok-finals → List ℕ
order_of c = c.in_ok-order.order.items

abbrev names_of : In_ok-finals → List Name
names_of c = texts c.in_ok-names.names.items

abbrev lists_of : In_ok-finals → List (List ℕ)
lists_of c = lists_in c.in_ok-upstreams.upstreams.items

found : (c : In_ok-finals) → IsFound (declaration_of c) (order_of c) (names_of c) (lists_of c)
found c =
    let d = declaration_of c in
    let keys = c.args.declared.now.keys in
    let count : length d.names ≡ length keys = length-map keys text in
    let some : 0 < length keys = c.requires.some in
    record {
      declared = c.requires.declaration;
      some = omega arith;
      built = subst (λ (k : ℕ). IsBuiltOrder k d.edges (order_of c)) (c.len.ensures.len ∙ sym count) c.in_ok-order.ensures.built;
      each = subst (λ (xs : List ℕ). AreLists d.edges xs (lists_of c)) c.deref.ensures.value c.in_ok-upstreams.ensures.each;
      same = length-map c.in_ok-upstreams.upstreams.items (λ (ups : Vec ℕ Global). ups.items) ∙ c.in_ok-upstreams.ensures.len ∙ ap length c.deref.ensures.value;
      named = c.in_ok-names.ensures ∙ ap (λ ks. names_in (texts ks) c.deref-2.result.now) c.as_slice.ensures.keys
          ∙ ap (names_in d.names) c.deref-2.ensures.value;
    }

pub invariant_of-result : goal.invariant_of-result
invariant_of-result c = record {
  shape = shape_of_order _ _ _ _ (found (goal.at.invariant_of-result c).In_ok-finals);
  finals_are = c.in_ok-finals.ensures ∙ ap (λ (vs : List (Vec ℕ Global)). finals (lists_in vs)) c.deref-3.ensures.value;
}

pub returns-clause-built : goal.returns-clause-built
returns-clause-built c = graph_of_order _ _ _ _ (found (goal.at.returns-clause-built c).In_ok-finals)

pub returns-clause-lawful : goal.returns-clause-lawful
returns-clause-lawful c = graph_lawful _ _ _ _ (found (goal.at.returns-clause-lawful c).In_ok-finals)
