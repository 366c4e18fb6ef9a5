use Rattle.std.proofs.Common.{◌∙◌, ap, ℕ, Option, unwrap_or}
use Rattle.std.specs.Prelude.{position}
use Rattle.std.specs.Str.{bytes_eq}
use Rattle.dr_graph.proofs.Adding.{text}
use Rattle.dr_graph.proofs.Places.{place_found}
use Rattle.dr_graph.proofs.name.place_of.Goals as goal

pub returns : goal.returns
returns c =
    c.unwrap_or.ensures
    ∙ ap (λ (o : Option ℕ). unwrap_or o c.len.result) c.get_index_of.ensures.index
    ∙ ap (λ (k : ℕ). unwrap_or (position (λ x. bytes_eq c.args.name.now (text x)) c.args.declared.now.keys) k) c.len.ensures.len
    ∙ place_found text c.args.name.now c.args.declared.now.keys
