-- The objects of the page's data, by what contracts see of an exchange.
use Rattle.std.specs.Prelude.{ℕ, ◌+◌, Option, Some, None, List, ◌++◌, codes, decimal}
use Rattle.dr_seq.specs.declared.event.Event.{Event}
use Rattle.dr_core.specs.Calls.CoreView.{CoreView}
use Rattle.dr_records.specs.Records.{Record}
use Rattle.dr_drive.specs.declared.fault.Cause.{Cause}
use Rattle.dr_show.specs.declared.sequences.Sequence.{Sequence}
use Rattle.dr_show.specs.Meaning.Texts.{bytes_text}
use Rattle.dr_show.specs.Meaning.StateText.{exchange_text}
use Rattle.dr_show.specs.Meaning.PageText.{fault_text, record_text}
use Rattle.dr_show.specs.Inside.Seen.{state_seen}

abbrev pub start_seen : ℕ → Record → CoreView Event → List Sequence → List ℕ
start_seen k r v slots = record_text k r ++ (exchange_text v.names v.setup ++ state_seen v slots) ++ codes "},\n"

abbrev pub command_seen : ℕ → Record → List ℕ → CoreView Event → List Sequence → List ℕ
command_seen k r line v slots = record_text k r ++ (codes ",\"reply\":\"" ++ bytes_text line ++ codes "\"" ++ state_seen v slots) ++ codes "},\n"

-- how many records there are, and what the file lacks
abbrev pub last_seen : ℕ → Option Cause → List ℕ
last_seen last None = codes "{\"last\":" ++ decimal last ++ codes "}"
last_seen last (Some cause) = codes "{\"last\":" ++ decimal last ++ fault_text (last + 1) cause
