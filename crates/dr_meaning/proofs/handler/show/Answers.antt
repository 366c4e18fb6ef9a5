use Rattle.std.proofs.Common.{rules}
use Rattle.dr_meaning.specs.Calls.Handling.{showings}
use Rattle.dr_meaning.proofs.Showings.{GoesThrough-keeps, GoesThrough-to, GoesThrough-within}
use Rattle.dr_meaning.proofs.handler.show.Goals as goal

pub returns : goal.returns
returns g c =
    let shown = showings c.args.events.now c.args.first c.args.end in
    let after = c.show_in_place.new.handler in
    let through = c.show_in_place.ensures in
    let same = GoesThrough-keeps _ (λ by_value. by_value.handler.ghost_name) (λ a b event s end is. is.1) _ shown after through in
    let inside = GoesThrough-within _ g.H.Handler.goes (λ by_value. by_value.handler.now) (λ a b event s end is. is.0) _ shown after through in
    GoesThrough-to g.H.Handler.goes _ shown after.handler.now _ inside (search rules)
