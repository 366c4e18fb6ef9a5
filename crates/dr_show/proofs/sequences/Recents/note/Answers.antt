use Rattle.dr_show.specs.Inside.Sequences.{slots_of}
use Rattle.dr_show.proofs.Tracking.{noted_remembers, noted_speaks, refused_remembers, same_size}
use Rattle.dr_show.proofs.sequences.Recents.note.Goals as goal

pub take_in-requires : goal.take_in-requires
take_in-requires c = noted_speaks c.requires.0 c.requires.1 c.args.command c.args.reply c.args.next (slots_of c.args.self.now) c.requires.2 c.in_default.not-Refused

pub returns-in-Refused-clause-remembers : goal.returns-in-Refused-clause-remembers
returns-in-Refused-clause-remembers c = λ setup m follows. refused_remembers setup m c.args.command c.args.reply _ c.args.next (slots_of c.args.self.now) follows c.in-Refused.is

pub returns-in_default-clause-size : goal.returns-in_default-clause-size
returns-in_default-clause-size c = same_size c.args.command c.args.next (slots_of c.args.self.now) (slots_of c.take_in.new.self) c.take_in.ensures

pub returns-in_default-clause-remembers : goal.returns-in_default-clause-remembers
returns-in_default-clause-remembers c = λ setup m follows.
    noted_remembers setup m c.args.command c.args.reply c.args.next (slots_of c.args.self.now) (slots_of c.take_in.new.self) follows c.in_default.not-Refused c.take_in.ensures
