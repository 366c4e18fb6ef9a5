use Rattle.std.proofs.Common.{subst}
use Rattle.atomic_table.specs.Table.{Allows}
use Rattle.dr_plain.specs.Meaning.Shape.{Shape}
use Rattle.dr_runs.specs.OneSender.Words.{cursor_word}
use Rattle.dr_plain.specs.Inside.Seats.{Ruled}
use Rattle.dr_plain.specs.Inside.Finishing.{TookAll}
use Rattle.dr_plain.proofs.Ending.{takes_all}
use Rattle.dr_plain.proofs.laws.settling.take_all.Goals as goal

pub load-requires : goal.load-requires
load-requires g c =
    let words = c.args.words.now in let seat = c.args.seat.now in let ends = c.requires.ends in (
      c.requires.table.0,
      c.requires.table.1,
      subst (λ (k : Shape). Allows (Ruled words.key) words.table_id.slots seat.id seat.me cursor_word (λ n. n) (TookAll k seat.me))
          c.requires.plan (takes_all words.key words.table_id.slots seat.id cursor_word seat.me ends.0 ends.1 ends.2 ends.3),
    )
