use Rattle.std.proofs.Common.{◌≡◌, ◌++◌, flat_map, string_bytes}
use Rattle.std.specs.List.{range_with_len}
use Rattle.csv.specs.Records.{fields_of}
use Rattle.dr_show.specs.Meaning.Texts.{field_text}
use Rattle.dr_show.proofs.texts.put_fields.Given as goal

abbrev pub invariant-loop-place : goal.invariant-loop-place
invariant-loop-place l = string_bytes l.page ≡ string_bytes l.initial.page ++ flat_map (field_text (fields_of l.row)) (range_with_len 0 l.place)
