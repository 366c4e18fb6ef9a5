-- What is declared, and what each call of a builder answers and adds.
use Rattle.std.specs.Prelude.{ℕ, ◌+◌, ◌≤◌, not, ◌==◌, nat_lt, if◌then◌else◌, Option, None, Some, List, [], ◌∷◌, ◌++◌, length, map}
use Rattle.std.specs.List.{list_all, flat_map, range_with_len}
use Rattle.std.specs.Option.{option_or}
use Rattle.dr_graph.specs.declared.edge.Edge.{Edge}
use Rattle.dr_graph.specs.declared.fault.GraphFault.{GraphFault}
use Rattle.dr_graph.specs.declared.fault.GraphFault.TheVariants.{BadName, Duplicate, Stranger, TooMany, EmptyGroup}
use Rattle.dr_graph.specs.Meaning.Name.{Name, AreDistinct, is_good_name, is_named, index_of}
use Rattle.dr_graph.specs.Meaning.Order.{AreWithin, is_upstream}

-- names in the order of their declaration, and edges between their places in it
pub record Declaration : Type 0 where
  pub names : List Name
  pub edges : List Edge

-- names are few and distinct, and both ends of each edge are declared
pub record IsDeclaration (d : Declaration) : Type 0 where
  pub few : length d.names ≤ 16
  pub distinct : AreDistinct d.names
  pub within : AreWithin (length d.names) d.edges

-- what refuses to declare a name after others
abbrev pub name_fault : List Name → Name → Option GraphFault
name_fault declared name =
    if not (is_good_name name) then Some BadName else if is_named declared name then Some Duplicate else None

-- the first fault of names that are to be declared after others
unfoldable pub name_faults : List Name → List Name → Option GraphFault
name_faults declared [] = None
name_faults declared (name ∷ names) = option_or (name_fault declared name) (name_faults (declared ++ name ∷ []) names)

abbrev pub none_fault : List Name → Option GraphFault
none_fault names = if length names == 0 then Some EmptyGroup else None

abbrev pub many_fault : ℕ → Option GraphFault
many_fault total = if nat_lt 16 total then Some TooMany else None

-- what refuses to declare names: that there are none, then each name in order, then that there are too many in all
abbrev pub declaring_fault : List Name → List Name → Option GraphFault
declaring_fault declared names =
    option_or (none_fault names) (option_or (name_faults declared names) (many_fault (length declared + length names)))

-- what refuses to speak of names: that one of them is not declared
abbrev pub stranger_fault : List Name → List Name → Option GraphFault
stranger_fault declared names = if list_all (is_named declared) names then None else Some Stranger

-- what refuses to declare names after a group
abbrev pub following_fault : List Name → List Name → List Name → Option GraphFault
following_fault declared group names = option_or (stranger_fault declared group) (declaring_fault declared names)

-- what refuses to make a group of declared names
abbrev pub grouping_fault : List Name → List Name → Option GraphFault
grouping_fault declared names = option_or (none_fault names) (stranger_fault declared names)

-- the edges from each of some handlers to one
abbrev pub edges_to : List ℕ → ℕ → List Edge
edges_to ups down = map (λ up. record { up = up; down = down }) ups

-- the edges from each of some handlers to each of others
abbrev pub edges_between : List ℕ → List ℕ → List Edge
edges_between ups downs = flat_map (edges_to ups) downs

-- the handlers that are declared next follow a whole group
abbrev pub followed_by : Declaration → List Name → List Name → Declaration
followed_by d group names = record {
  names = d.names ++ names;
  edges = d.edges ++ edges_between (map (index_of d.names) group) (range_with_len (length d.names) (length names));
}

-- an edge that is there changes nothing
abbrev pub with_edge : List Edge → ℕ → ℕ → List Edge
with_edge edges up down = if is_upstream edges up down then edges else edges ++ record { up = up; down = down } ∷ []

-- an edge between two declared names
abbrev pub connected : Declaration → Name → Name → Declaration
connected d up down = record d { edges = with_edge d.edges (index_of d.names up) (index_of d.names down) }
