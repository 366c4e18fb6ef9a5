use Rattle.std.proofs.Common.{codes, string_bytes}
use Rattle.csv.specs.Records.{fields_of}
use Rattle.dr_drive.specs.Calls.Shows.{core_of}
use Rattle.dr_show.specs.Meaning.Texts.{bytes_text}
use Rattle.dr_show.specs.Meaning.PageText.{record_text}
use Rattle.dr_show.specs.Inside.Seen.{state_seen}
use Rattle.dr_show.specs.Inside.Sequences.{slots_of}
use Rattle.dr_show.proofs.Pieces.{command_put}
use Rattle.dr_show.proofs.objects.put_command.Goals as goal

pub returns : goal.returns
returns c =
    command_put c.push_str.result (string_bytes c.args.page.now) (record_text c.args.k (fields_of c.args.row.now)) (codes ",\"reply\":\"") (bytes_text c.args.line.now) (codes "\"")
    (state_seen (core_of c.args.exchange.now) (slots_of c.args.recents.now)) (codes "},\n") (string_bytes c.put_record.new.page) (string_bytes c.put_reply.new.page)
    (string_bytes c.put_state.new.page) (string_bytes c.push_str.new.self) c.in_ok-put_record.ensures c.in_ok-put_reply.ensures c.in_ok-put_state.ensures c.push_str.ensures.bytes
