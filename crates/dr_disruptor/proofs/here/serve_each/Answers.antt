use Rattle.std.proofs.Common.{rules, ◌≡◌, ◌++◌, ◌∷◌, [], List, All, arith, length, sym, subst}
use Rattle.std.specs.Vec.Iter.{into_iter_items}
use Rattle.std.proofs.lemmas.List.Elements.{All-head, All-rest}
use Rattle.std.proofs.lemmas.Grind.{common_steps}
use Rattle.dr_disruptor.specs.declared.served.Served.{Served}
use Rattle.dr_disruptor.specs.Serving.{AreServed, IsIdle}
use Rattle.dr_disruptor.proofs.Rounds.{served_none, served_push}
use Rattle.dr_disruptor.proofs.here.serve_each.Goals as goal

pub loop-outlet-init : goal.loop-outlet-init
loop-outlet-init g c =
    let none : c.in_ok-served.served.items ≡ [] = search rules in (
      [],
      [],
      search rules,
      search rules,
      search rules,
      subst (λ (l : List (Served g.row.O.Denot g.row.H.Denot)). AreServed g.O.InPlaceOutlet.kept g.O.InPlaceOutlet.received g.O.InPlaceOutlet.told g.O.InPlaceOutlet.saw g.O.InPlaceOutlet.does
          g.H.InPlaceHandler.goes c.args.way.batch [] [] l) (sym none)
          (served_none g.O.InPlaceOutlet.kept g.O.InPlaceOutlet.received g.O.InPlaceOutlet.saw g.O.InPlaceOutlet.does g.H.InPlaceHandler.goes c.args.way.batch g.O.InPlaceOutlet.told),
      search rules,
    )

pub serve-requires-clause-idle : goal.serve-requires-clause-idle
serve-requires-clause-idle g c =
    let rest = c.next.new.self.rest.items in
    let next : c.loop-outlet.outlet-iterator.rest.items ≡ c.in-Some.outlet ∷ rest = search rules in
    let Idle : g.row.O.Denot → Type 0 = λ o. IsIdle (g.O.InPlaceOutlet.received o) in
    All-head Idle c.in-Some.outlet rest (subst (All Idle) next c.loop-outlet.invariant.6)

pub loop-outlet-preserved : goal.loop-outlet-preserved
loop-outlet-preserved g c =
    let (given, taken, ends, starts, same, are, idle) = c.loop-outlet.invariant in
    let left = into_iter_items c.next-in-loop-outlet.new.self in
    let rest = c.next.new.self.rest.items in
    let outlet = c.in-Some.outlet in
    let handler = c.in-Some-next.handler in
    let next : c.loop-outlet.outlet-iterator.rest.items ≡ outlet ∷ rest = search rules in
    let more_ends : (given ++ outlet ∷ []) ++ rest ≡ c.args.outlets.items = grind (arith, common_steps) in
    let more_starts : (taken ++ handler ∷ []) ++ left ≡ c.args.handlers.items = grind (arith, common_steps) in
    let still : length rest ≡ length left = search rules in
    let is_pushed : c.push.new.self.items ≡ c.loop-outlet.served.items ++ c.serve.result ∷ [] = search rules in (
      given ++ outlet ∷ [],
      taken ++ handler ∷ [],
      more_ends,
      more_starts,
      still,
      subst (λ (l : List (Served g.row.O.Denot g.row.H.Denot)). AreServed g.O.InPlaceOutlet.kept g.O.InPlaceOutlet.received g.O.InPlaceOutlet.told g.O.InPlaceOutlet.saw g.O.InPlaceOutlet.does
          g.H.InPlaceHandler.goes c.args.way.batch (given ++ outlet ∷ []) (taken ++ handler ∷ []) l) (sym is_pushed)
          (served_push g.O.InPlaceOutlet.kept g.O.InPlaceOutlet.received g.O.InPlaceOutlet.saw g.O.InPlaceOutlet.does g.H.InPlaceHandler.goes c.args.way.batch g.O.InPlaceOutlet.told
          given taken c.loop-outlet.served.items outlet handler c.serve.result are c.serve.ensures),
      All-rest (λ o. IsIdle (g.O.InPlaceOutlet.received o)) outlet rest c.loop-outlet.outlet-iterator.rest.items next idle,
    )
