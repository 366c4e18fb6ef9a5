use Rattle.std.proofs.Common.{ap, string_bytes, sym, take, ◌∙◌}
use Rattle.csv.specs.Records.{fields_of}
use Rattle.dr_seq.specs.declared.event.Event.{Event}
use Rattle.dr_core.specs.Calls.CoreView.{CoreView}
use Rattle.dr_drive.specs.Calls.Shows.{batch_of}
use Rattle.dr_show.proofs.Courses.{follows, no_command, ran_as}
use Rattle.dr_show.proofs.course.obey.Goals as goal

pub note-requires : goal.note-requires
note-requires c =
    let counted = c.next-next.ensures.value ∙ ap (λ (v : CoreView Event). v.next) c.core.ensures in
    follows c.args.running.now c.execute-reply.new.self c.requires.0 c.in-Some.command c.execute-reply.result c.next-next.result c.requires.1 c.execute-reply.ensures.shown counted

pub returns-in_default : goal.returns-in_default
returns-in_default c = λ phase shown. no_command c.args.running.now phase (fields_of c.args.row.now) shown (sym c.command.ensures ∙ c.in_default.is)

pub returns : goal.returns
returns c = λ phase shown.
    let counted = c.next-next.ensures.value ∙ ap (λ (v : CoreView Event). v.next) c.core.ensures in
    ran_as c.args.running.now (record { exchange = c.execute-reply.new.self; recents = c.note.new.self }) phase (fields_of c.args.row.now) c.in-Some.command c.execute-reply.result
    c.next-next.result c.handed.result.now (string_bytes c.put_line.new.line) shown (sym c.command.ensures ∙ c.in-Some.is) c.execute-reply.ensures.shown counted c.note.ensures.size
    c.note.ensures.remembers (c.handed.ensures ∙ ap (λ n. take n (batch_of c.execute-reply.new.self)) c.count.ensures) c.in_ok-put_line.ensures
