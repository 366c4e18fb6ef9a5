-- Groups that are made of names.
use Rattle.std.proofs.Common.{◌≡◌, ◌<◌, List, [], ◌∷◌, ◌++◌, length, arith}
use Rattle.dr_graph.specs.Meaning.Name.{Name, AreDistinct, new_names}
use Rattle.dr_graph.specs.Inside.KeptGroup.{IsGroup}
use Rattle.dr_graph.proofs.NewNames.{distinct_new, new_some, new_distinct}

none_distinct : AreDistinct []
none_distinct i j d lt le = absurd (omega arith)

pub group_new : (names : List Name) → 0 < length names → IsGroup (new_names [] names)
group_new names some = record { some = new_some names some; distinct = distinct_new [] names none_distinct }

some_append : (xs ys : List Name) → 0 < length xs → 0 < length (xs ++ ys)
some_append [] ys some = absurd (omega arith)
some_append (x ∷ xs) ys some = omega arith

pub group_joined : (first second : List Name) → IsGroup first → IsGroup (first ++ new_names first second)
group_joined first second group = record {
  some = some_append first (new_names first second) group.some;
  distinct = distinct_new first second group.distinct;
}

-- a group stays when it is made anew
pub group_again : (names : List Name) → IsGroup names → new_names [] names ≡ names
group_again names group = new_distinct [] names group.distinct
