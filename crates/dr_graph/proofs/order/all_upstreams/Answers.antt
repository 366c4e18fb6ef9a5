use Rattle.std.proofs.Common.{◌≡◌, ℕ, List, ◌+◌, ◌∷◌, ◌++◌, [], sym, ap, ◌∙◌, Vec, Global, subst, map, length, arith}
use Rattle.std.proofs.lemmas.List.{length_push, map_push, length-map}
use Rattle.dr_graph.specs.Meaning.Graph.{leads_to, AreChosen, AreLists}
use Rattle.dr_graph.proofs.Chosen.{lists_push}
use Rattle.dr_graph.proofs.order.all_upstreams.Goals as goal

pub loop-h-preserved : goal.loop-h-preserved
loop-h-preserved c =
    let f = λ (ups : Vec ℕ Global). ups.items in
    let old = c.loop-h.lists.items in
    let longer : c.push.new.self.items ≡ old ++ c.in_ok-upstreams_at.field-0 ∷ [] = c.in_ok-push.ensures.items in
    let lists : map f c.push.new.self.items ≡ map f old ++ c.in_ok-upstreams_at.field-0.items ∷ [] = ap (map f) longer
    ∙ map_push f old c.in_ok-upstreams_at.field-0 in
    let at : c.loop-h.h ≡ length (map f old) = sym (length-map old f ∙ c.loop-h.invariant.len) in
    record {
      len = (let more : length (old ++ c.in_ok-upstreams_at.field-0 ∷ []) ≡ length old + 1 = length_push old c.in_ok-upstreams_at.field-0 in let was : length old ≡ c.loop-h.h = c.loop-h.invariant.len in let same : length c.push.new.self.items ≡ length (old ++ c.in_ok-upstreams_at.field-0 ∷ []) = ap length longer in omega arith);
      each = subst (λ (xs : List (List ℕ)). AreLists c.args.edges.now c.args.order.now xs) (sym lists)
          (lists_push c.args.edges.now c.args.order.now (map f old) c.in_ok-upstreams_at.field-0.items c.loop-h.invariant.each
          (subst (λ (k : ℕ). AreChosen (leads_to c.args.edges.now c.args.order.now k) k c.in_ok-upstreams_at.field-0.items) at c.in_ok-upstreams_at.ensures));
    }
