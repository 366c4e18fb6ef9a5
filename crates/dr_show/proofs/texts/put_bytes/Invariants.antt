use Rattle.std.proofs.Common.{◌≡◌, ◌++◌, flat_map, string_bytes, take}
use Rattle.dr_show.specs.Meaning.Texts.{byte_text}
use Rattle.dr_show.proofs.texts.put_bytes.Given as goal

abbrev pub invariant-loop-byte : goal.invariant-loop-byte
invariant-loop-byte l = string_bytes l.page ≡ string_bytes l.initial.page ++ flat_map byte_text (take l.byte-index l.bytes)
