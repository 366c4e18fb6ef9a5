use Rattle.std.proofs.Common.{◌≡◌, List, [], ◌++◌, sym, ◌∙◌, ap, subst, String, Global}
use Rattle.dr_graph.specs.Meaning.Name.{Name, texts, new_names}
use Rattle.dr_graph.specs.Inside.KeptGroup.{IsGroup}
use Rattle.dr_graph.proofs.Grouping.{group_joined, group_again}
use Rattle.dr_graph.proofs.group.Group.joined.Goals as goal

-- the names after both loops
names_are : (first second : List Name) (none once twice firsts seconds : List (String Global)) → IsGroup first → none ≡ [] → texts firsts ≡ first
    → texts seconds ≡ second → texts once ≡ texts none ++ new_names (texts none) (texts firsts)
    → texts twice ≡ texts once ++ new_names (texts once) (texts seconds) → texts twice ≡ first ++ new_names first second
names_are first second none once twice firsts seconds group empty f s one two =
    let again : texts once ≡ first = one ∙ ap (λ (ks : List (String Global)). texts ks ++ new_names (texts ks) (texts firsts)) empty
    ∙ ap (new_names []) f ∙ group_again first group in
    two ∙ ap (λ (ns : List Name). ns ++ new_names ns (texts seconds)) again ∙ ap (λ (ns : List Name). first ++ new_names first ns) s

pub invariant_of-result : goal.invariant_of-result
invariant_of-result c =
    let names : texts c.add_group-2.new.names.keys ≡ c.args.first.now ++ new_names c.args.first.now c.args.second.now =
    names_are c.args.first.now c.args.second.now c.new-names.result.keys c.add_group.new.names.keys c.add_group-2.new.names.keys c.names.result.now c.names-3.result.now c.names.ensures.group c.new-names.ensures.empty c.names.ensures.names c.names-3.ensures.names c.in_ok-add_group.ensures c.in_ok-add_group-2.ensures in
    subst (λ (ns : List Name). IsGroup ns) (sym names) (group_joined c.args.first.now c.args.second.now c.names.ensures.group)

pub returns : goal.returns
returns c =
    names_are c.args.first.now c.args.second.now c.new-names.result.keys c.add_group.new.names.keys c.add_group-2.new.names.keys c.names.result.now c.names-3.result.now c.names.ensures.group c.new-names.ensures.empty c.names.ensures.names c.names-3.ensures.names c.in_ok-add_group.ensures c.in_ok-add_group-2.ensures
