use Rattle.std.proofs.Common.{◌∙◌, sym, ap, zero-add, not, refl, map, Vec, ℕ, Global}
use Rattle.dr_graph.specs.Meaning.Order.{is_in}
use Rattle.dr_graph.specs.Meaning.Graph.{upstreams_of}
use Rattle.dr_graph.proofs.Naming.{list_any-map}
use Rattle.dr_graph.proofs.Gating.{any_numbered}
use Rattle.dr_graph.proofs.built.is_final_in.Goals as goal

pub returns : goal.returns
returns c =
    let graph = map (λ (ups : Vec ℕ Global). ups.items) c.args.upstreams.now in
    ap not
    (c.is_followed_in.ensures
    ∙ sym (list_any-map (λ ups. is_in ups c.args.h) (λ (ups : Vec ℕ Global). ups.items) c.args.upstreams.now)
    ∙ sym (any_numbered (λ k. is_in (upstreams_of graph k) c.args.h) (λ ups. is_in ups c.args.h) graph 0 (λ k lt. rw zero-add refl)))
