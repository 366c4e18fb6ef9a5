use Rattle.std.proofs.Common.{string_bytes, subst}
use Rattle.csv.specs.Records.{fields_of}
use Rattle.dr_show.specs.declared.course.Course.{Course}
use Rattle.dr_show.specs.Inside.Courses.{CourseShows}
use Rattle.dr_show.proofs.Courses.{in_setup, setup_taken}
use Rattle.dr_show.proofs.course.take_record.Goals as goal

pub take_setup-requires : goal.take_setup-requires
take_setup-requires c = in_setup c.args.course c.in-Preparing.at c.in-Preparing.is c.requires

pub take_command-requires : goal.take_command-requires
take_command-requires c = (c.requires.0, subst (λ (x : Course). CourseShows x c.requires.0) c.in-Running.is c.requires.1)

pub returns-in-Preparing : goal.returns-in-Preparing
returns-in-Preparing c =
    setup_taken c.take_setup.result c.args.window c.args.k (fields_of c.args.row.now) (string_bytes c.args.page.now) (string_bytes c.take_setup.new.page) c.args.course
    c.in-Preparing.at c.in-Preparing.is (c.take_setup.ensures c.args.window)

pub returns-in-Running : goal.returns-in-Running
returns-in-Running c = λ phase shown. c.take_command.ensures phase (subst (λ (x : Course). CourseShows x phase) c.in-Running.is shown)
