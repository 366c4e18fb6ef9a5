use Rattle.std.proofs.Common.{ap, ◌∙◌}
use Rattle.dr_lent.proofs.Going.{leave_on, join_on}
use Rattle.dr_plain.specs.Inside.Seats.{Sitting}
use Rattle.dr_plain.proofs.laws.settling.unite.Goals as goal

pub split_seat-view-requires : goal.split_seat-view-requires
split_seat-view-requires g c = (c.requires.table.1, c.requires.table.2, leave_on _ _ _)

pub join_seat-requires : goal.join_seat-requires
join_seat-requires g c =
    let own = c.split_seat-view.ensures in
    (c.requires.table.0, own.3 ∙ c.requires.table.1, ap (λ (m : Sitting g.row.T.Denot). m.1) own.4, c.requires.table.2, join_on _ _ _ _ _)
