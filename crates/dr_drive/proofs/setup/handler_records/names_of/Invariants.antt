use Rattle.std.proofs.Common.{◌≡◌, ◌-◌, ◌≤◌, map, take}
use Rattle.csv.specs.Records.{fields_of}
use Rattle.dr_graph.specs.Meaning.Name.{given}
use Rattle.dr_drive.specs.Meaning.Setup.{names_after}
use Rattle.dr_drive.specs.Calls.Shows.{legible}
use Rattle.dr_drive.proofs.setup.handler_records.names_of.Given as goal

abbrev pub invariant-loop-place : goal.invariant-loop-place
invariant-loop-place l = record {
  one : 1 ≤ l.place;
  so_far : given l.names.items ≡ map legible (take (l.place - 1) (names_after (fields_of l.row)));
}
