use Rattle.std.proofs.Common.{sym, ◌∙◌, ap, String, Global, Bor, List, ℕ, Bool}
use Rattle.std.proofs.lemmas.Bool.{or_left}
use Rattle.std.specs.Prelude.{◌||◌}
use Rattle.std.specs.List.{list_any}
use Rattle.std.specs.Str.{bytes_eq}
use Rattle.std.specs.String.{string_bytes}
use Rattle.dr_graph.proofs.Naming.{named_split}
use Rattle.dr_graph.proofs.name.is_known.Goals as goal

pub returns-then-contains : goal.returns-then-contains
returns-then-contains c =
    let split = named_split (λ (n : String Global). string_bytes n) (λ (n : Bor (List ℕ)). n.now) c.args.declared.now.keys c.args.earlier.now c.args.name.now in
    c.if-contains.true
    ∙ sym (split ∙ or_left _ (list_any (λ n. bytes_eq c.args.name.now n.now) c.args.earlier.now) (sym c.contains.ensures ∙ c.if-contains.true))

pub returns-else-contains : goal.returns-else-contains
returns-else-contains c =
    let split = named_split (λ (n : String Global). string_bytes n) (λ (n : Bor (List ℕ)). n.now) c.args.declared.now.keys c.args.earlier.now c.args.name.now in
    c.is_among.ensures
    ∙ sym (split ∙ ap (λ (b : Bool). b || list_any (λ n. bytes_eq c.args.name.now n.now) c.args.earlier.now) (sym c.contains.ensures ∙ c.if-contains.false))
