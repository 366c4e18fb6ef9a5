-- What a group keeps, and what contracts see of it.
use Rattle.std.specs.Prelude.{◌<◌, List, length}
use Rattle.dr_graph.specs.declared.group.Group.TheInside.{Inside}
use Rattle.dr_graph.specs.Meaning.Name.{Name, texts, AreDistinct}

abbrev pub group_of : Inside → List Name
group_of a = texts a.names.keys

-- a group is never empty, and no name stands in it twice
pub record IsGroup (names : List Name) : Type 0 where
  pub some : 0 < length names
  pub distinct : AreDistinct names

abbrev pub IsKeptGroup : Inside → Type 0
IsKeptGroup a = IsGroup (group_of a)
