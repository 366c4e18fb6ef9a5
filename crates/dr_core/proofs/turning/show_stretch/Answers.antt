use Rattle.dr_meaning.proofs.Showings.{shows_pieces}
use Rattle.dr_core.proofs.turning.show_stretch.Goals as goal

pub returns : goal.returns
returns g c d =
    rw (← c.slices.ensures.events d)
    (shows_pieces g.H.InPlaceHandler.goes c.args.handler.now c.show_in_place.new.handler c.show_in_place-2.new.handler c.slices.result.0.now c.slices.result.1.now
    c.args.first c.is_empty.result c.is_empty.ensures c.show_in_place.ensures c.show_in_place-2.ensures)
