-- Whether names are all declared.
use Rattle.std.proofs.Common.{◌≡◌, List, true, false, None, Some}
use Rattle.std.proofs.lemmas.Bool.{cond-true, cond-false}
use Rattle.std.specs.List.{list_all}
use Rattle.dr_graph.specs.declared.fault.GraphFault.TheVariants.{Stranger}
use Rattle.dr_graph.specs.Meaning.Name.{Name, is_named}
use Rattle.dr_graph.specs.Meaning.Declaration.{stranger_fault}

pub stranger_none : (declared names : List Name) → list_all (is_named declared) names ≡ true → stranger_fault declared names ≡ None
stranger_none declared names all = cond-true (list_all (is_named declared) names) None (Some Stranger) all

pub stranger_some : (declared names : List Name) → list_all (is_named declared) names ≡ false → stranger_fault declared names ≡ Some Stranger
stranger_some declared names some = cond-false (list_all (is_named declared) names) None (Some Stranger) some
