-- The setup of a file: its records up to `start`, and the exchange that they open.
use Rattle.std.specs.Prelude.{ℕ, ◌^◌, Bool, not, ◌==◌, ◌&&◌, if◌then◌else◌, List, [], ◌∷◌, ◌++◌, length, drop, Option, Some, None, Result, Ok, Err, bytes_eq, codes, option_map}
use Rattle.std.specs.List.{list_any, range_with_len}
use Rattle.dr_meaning.specs.Meaning.Machine.{Setup, setup_of}
use Rattle.dr_meaning.specs.Calls.OpenFault.{has_bad_producers, is_bad_limit}
use Rattle.dr_meaning.specs.declared.mode.Mode.{Mode}
use Rattle.dr_meaning.specs.declared.mode.Mode.TheVariants.{Single, Multi}
use Rattle.dr_graph.specs.Meaning.Declaration.{Declaration, connected, declaring_fault, followed_by, following_fault, grouping_fault, stranger_fault}
use Rattle.dr_graph.specs.Meaning.Graph.{GraphView}
use Rattle.dr_graph.specs.Meaning.Name.{Name, new_names}
use Rattle.dr_graph.specs.Meaning.Placing.{graph_of}
use Rattle.dr_graph.specs.declared.fault.GraphFault.{GraphFault}
use Rattle.dr_graph.specs.declared.fault.GraphFault.TheVariants.{Cycle, NoHandlers}
use Rattle.dr_drive.specs.declared.setup.ring_records.Ring.{Ring}
use Rattle.dr_drive.specs.declared.fault.Cause.{Cause}
use Rattle.dr_drive.specs.declared.fault.Cause.TheVariants.{NoRing, BadRecord, BadSize, BadProducers, BadLimit, NoGroup, Graph, NoStart}
use Rattle.dr_records.specs.Records.{Record, field, is_list, begins_with, is_record, number_at}

-- what is declared so far, and the current group, which `then` follows
pub record Declared : Type 0 where
  pub declaration : Declaration
  pub group : Option (List Name)

-- how far a setup has come
pub data SettingUp : Type 0 where
  Empty : SettingUp  -- no record yet
  Ringed : Ring → SettingUp  -- after `ring`: `limit` may follow
  Declaring : Ring → Declared → SettingUp  -- after `limit` or a handler

-- what a record of the setup does: the setup goes on, or an exchange opens over handlers of these names, in their built order
pub data Prepared : Type 0 where
  Goes : SettingUp → Prepared
  Opens : List Name → Setup → Prepared

-- a power of two, from 1 to 65,536
unfoldable pub is_size : ℕ → Bool
is_size n = list_any (λ exponent. n == 2 ^ exponent) (range_with_len 0 17)

-- the limit of sequences where no record gives one
abbrev pub greatest_limit : ℕ
greatest_limit = 2 ^ 62

-- the mode of `ring,SIZE,single` or `ring,SIZE,multi,P`
abbrev pub mode_of : Record → Option Mode
mode_of r =
    if (length r == 3) && bytes_eq (field r 2) (codes "single") then Some Single
    else if (length r == 4) && bytes_eq (field r 2) (codes "multi") then option_map (λ p. Multi p) (number_at r 3)
    else None

-- a ring of a size and a mode, with the greatest limit of sequences
abbrev pub ring_with : Option ℕ → Option Mode → Result Ring Cause
ring_with None mode = Err BadRecord
ring_with (Some size) None = Err BadRecord
ring_with (Some size) (Some mode) =
    if not (is_size size) then Err BadSize
    else if has_bad_producers mode then Err BadProducers
    else Ok (record { size = size; mode = mode; limit = greatest_limit })

-- the first record: `no ring` is tested before anything else
abbrev pub ring_of : Record → Result Ring Cause
ring_of r = if begins_with (codes "ring") r then ring_with (number_at r 1) (mode_of r) else Err NoRing

abbrev pub limit_with : Ring → Option ℕ → Result Ring Cause
limit_with ring None = Err BadRecord
limit_with ring (Some limit) = if is_bad_limit limit then Err BadLimit else Ok (record ring { limit = limit })

-- `limit,L`, directly after the ring
abbrev pub limit_of : Ring → Record → Result Ring Cause
limit_of ring r = if length r == 2 then limit_with ring (number_at r 1) else Err BadRecord

-- before the first handler
abbrev pub no_handlers : Declared
no_handlers = record { declaration = record { names = []; edges = [] }; group = None }

-- a call of the builder does this, unless it is refused
abbrev pub done_unless : Option GraphFault → Declared → Result Declared Cause
done_unless None done = Ok done
done_unless (Some fault) done = Err (Graph fault)

-- `with,NAME..`: handlers without upstreams, which are the current group then
abbrev pub with_names : Declared → List Name → Result Declared Cause
with_names d names =
    done_unless (declaring_fault d.declaration.names names) (record {
      declaration = record d.declaration { names = d.declaration.names ++ names };
      group = Some names;
    })

-- handlers that follow a group, if there is one
abbrev pub following : Declaration → Option (List Name) → List Name → Result Declared Cause
following d None names = Err NoGroup
following d (Some group) names =
    done_unless (following_fault d.names group names) (record { declaration = followed_by d group names; group = Some names })

-- `then,NAME..`: handlers that follow the current group, and are the current group then
abbrev pub then_names : Declared → List Name → Result Declared Cause
then_names d names = following d.declaration d.group names

-- `after,NAME..`: declared handlers are the current group, each once
abbrev pub after_names : Declared → List Name → Result Declared Cause
after_names d names = done_unless (grouping_fault d.declaration.names names) (record d { group = Some (new_names [] names) })

-- `edge,UP,DOWN`: the current group stays
abbrev pub edge_between : Declared → Name → Name → Result Declared Cause
edge_between d up down =
    done_unless (stranger_fault d.declaration.names (up ∷ down ∷ [])) (record d { declaration = connected d.declaration up down })

-- the fields of a record after the first
abbrev pub names_after : Record → List Name
names_after r = drop 1 r

-- a record that declares or connects handlers
abbrev pub declared_by : Declared → Record → Result Declared Cause
declared_by d r =
    if is_list (codes "with") r then with_names d (names_after r)
    else if is_list (codes "then") r then then_names d (names_after r)
    else if is_list (codes "after") r then after_names d (names_after r)
    else if is_record (codes "edge") 3 r then edge_between d (field r 1) (field r 2)
    else Err BadRecord

-- an exchange opens over a graph, if there is one
abbrev pub opened : Ring → Option GraphView → Result Prepared Cause
opened ring None = Err (Graph Cycle)
opened ring (Some graph) = Ok (Opens graph.names (setup_of graph.upstreams ring.size ring.mode ring.limit))

-- `start`: the graph of the declaration is built
abbrev pub started : Ring → Declared → Result Prepared Cause
started ring d =
    if length d.declaration.names == 0 then Err (Graph NoHandlers) else opened ring (graph_of d.declaration)

-- a setup goes on, where a record is not at fault
abbrev pub goes_with : {A : Type 0} → (A → SettingUp) → Result A Cause → Result Prepared Cause
goes_with stage (Ok next) = Ok (Goes (stage next))
goes_with stage (Err cause) = Err cause

-- a record after the ring and its limit
abbrev pub goes_on_by : Ring → Declared → Record → Result Prepared Cause
goes_on_by ring d r =
    if is_record (codes "start") 1 r then started ring d else goes_with (λ next. Declaring ring next) (declared_by d r)

-- what a record does at a stage of the setup, or why it is at fault
abbrev pub prepared : SettingUp → Record → Result Prepared Cause
prepared Empty r = goes_with (λ ring. Ringed ring) (ring_of r)
prepared (Ringed ring) r =
    if begins_with (codes "limit") r then goes_with (λ limited. Declaring limited no_handlers) (limit_of ring r)
    else goes_on_by ring no_handlers r
prepared (Declaring ring d) r = goes_on_by ring d r

-- what a file lacks that ends at a stage of the setup
abbrev pub missing : SettingUp → Cause
missing Empty = NoRing
missing (Ringed ring) = NoStart
missing (Declaring ring d) = NoStart
