use Rattle.std.proofs.Common.{◌≡◌, ◌++◌, ◌-◌, flat_map, string_bytes}
use Rattle.std.specs.List.{range_with_len}
use Rattle.dr_show.specs.Meaning.StateText.{written_text}
use Rattle.dr_show.specs.Inside.Sequences.{said_of, slots_of}
use Rattle.dr_show.proofs.rounds.put_events.Given as goal

abbrev pub invariant-loop-s : goal.invariant-loop-s
invariant-loop-s l = string_bytes l.page ≡ string_bytes l.initial.page ++ flat_map (λ s. written_text s (said_of (slots_of l.recents) s).event) (range_with_len l.from (l.s - l.from))
