use Rattle.std.proofs.Common.{None, string_bytes, ap, ◌∙◌}
use Rattle.csv.specs.Records.{fields_of}
use Rattle.dr_meaning.specs.Meaning.Machine.{Setup, opening}
use Rattle.dr_drive.specs.Calls.Shows.{setting_up_of}
use Rattle.dr_drive.specs.Meaning.DriveText.{Running, prepares}
use Rattle.dr_show.specs.Inside.Sequences.{slots_of}
use Rattle.dr_show.proofs.Courses.{none_claimed, setup_not_taken, start_put}
use Rattle.dr_show.proofs.course.take_setup.Goals as goal

pub returns-in_ok-put_start-in-Ok-Opens : goal.returns-in_ok-put_start-in-Ok-Opens
returns-in_ok-put_start-in-Ok-Opens c = λ window.
    let did = rw c.in-Ok-Opens.field-0-is at c.in-Ok-Opens.ensures in
    let recents = c.in_ok-recents-in-Ok-Opens.recents in
    let size = c.in_ok-recents-in-Ok-Opens.ensures ∙ c.ring.ensures.size in
    record {
      did = record { phase = Running did.names did.setup (opening did.setup); line = None };
      is = ap prepares did.is;
      shown = record { exchange = did.shows; size = size ∙ ap (λ (s : Setup). s.size) did.shows.setup_is; remembers = none_claimed did.setup (slots_of recents) };
      put = start_put window c.args.k (fields_of c.args.row.now) c.in-Ok-Opens.exchange (slots_of recents) did.names did.setup (string_bytes c.args.page.now) (string_bytes c.put_start.new.page)
          did.shows size c.in_ok-put_start-in-Ok-Opens.ensures;
    }

pub returns-in-Err : goal.returns-in-Err
returns-in-Err c = λ window. setup_not_taken c.in-Err.fault window c.args.k (fields_of c.args.row.now) (setting_up_of c.args.at) (string_bytes c.args.page.now) c.in-Err.ensures
