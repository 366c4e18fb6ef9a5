use Rattle.std.proofs.Common.{◌≡◌, ◌<◌, ℕ, Bor, List, [], ◌++◌, sym, ◌∙◌, ap, subst, length, arith}
use Rattle.std.proofs.lemmas.List.{length-map}
use Rattle.dr_graph.specs.Meaning.Name.{Name, texts, given, new_names}
use Rattle.dr_graph.specs.Inside.KeptGroup.{IsGroup}
use Rattle.dr_graph.proofs.Grouping.{group_new}
use Rattle.dr_graph.proofs.group.Group.of.Goals as goal

pub invariant_of-result : goal.invariant_of-result
invariant_of-result c =
    let names : texts c.add_names.new.names.keys ≡ new_names [] (given c.args.names.now) =
    c.in_ok-add_names.ensures.added ∙ ap (λ ks. texts ks ++ new_names (texts ks) (given c.args.names.now)) c.new-group.ensures.empty in
    subst (λ (ns : List Name). IsGroup ns) (sym names) (group_new (given c.args.names.now) (
    let len : length (given c.args.names.now) ≡ length c.args.names.now = length-map c.args.names.now (λ (n : Bor (List ℕ)). n.now) in
    let some : 0 < length c.args.names.now = c.requires in
    omega arith))
