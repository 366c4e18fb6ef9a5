use Rattle.std.proofs.Common.{subst, ◌∙◌}
use Rattle.atomic_table.specs.Table.{Allows}
use Rattle.dr_plain_senders.specs.Meaning.Shape.{Shape}
use Rattle.dr_plain_senders.specs.Meaning.Words.{claim_word}
use Rattle.dr_plain_senders.specs.Inside.Seats.{Ruled}
use Rattle.dr_plain_senders.specs.Inside.Finishing.{TookAll}
use Rattle.dr_plain_senders.proofs.Ending.{takes_all}
use Rattle.dr_plain_senders.proofs.laws.settling.take_all.Goals as goal

pub load-requires : goal.load-requires
load-requires g c =
    let words = c.args.words.now in let seat = c.args.seat.now in let ends = c.requires.ends in (
      c.requires.table.0,
      c.requires.table.1,
      subst (λ (k : Shape g.row.T.Denot). Allows (Ruled words.key) words.table_id.slots seat.id seat.me claim_word (λ n. n) (TookAll k seat.me))
          c.requires.plan (takes_all words.key _ _ seat.me ends.0 ends.1 ends.2 ends.3 (c.requires.plan ∙ ends.4)),
    )
