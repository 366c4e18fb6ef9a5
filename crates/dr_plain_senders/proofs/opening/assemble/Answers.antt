use Rattle.std.proofs.Common.{◌<◌, ap, sym, subst, ◌∙◌, arith}
use Rattle.dr_lent.proofs.Going.{cut_on}
use Rattle.dr_plain_senders.proofs.opening.assemble.Goals as goal

pub split_seat-rest-requires : goal.split_seat-rest-requires
split_seat-rest-requires g c =
    let t = c.requires.table in (
      t.0 ∙ ap (λ r. r.table.shared.table_id) (sym c.deref.ensures),
      subst (λ r. 0 < r.table.shared.table_id.words) (sym c.deref.ensures) (omega arith),
      cut_on _ _ _,
    )
