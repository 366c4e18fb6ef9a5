use Rattle.std.proofs.Common.{rules, ◌≡◌, ◌++◌, ◌∷◌, ◌<◌, [], All, arith, length, map, subst, sym}
use Rattle.std.specs.Vec.Iter.{into_iter_items}
use Rattle.std.proofs.lemmas.List.Elements.{All-head, All-push, All-rest}
use Rattle.std.proofs.lemmas.Grind.{common_steps}
use Rattle.dr_disruptor.specs.Serving.{AreInBatches, IsIdle, Worker, given_end, given_handler}
use Rattle.dr_disruptor.proofs.workers.start_each.Goals as goal

pub loop-outlet-preserved : goal.loop-outlet-preserved
loop-outlet-preserved g c =
    let inv = c.loop-outlet.invariant in
    let started = c.push.new.self.items in
    let left = into_iter_items c.next-in-loop-outlet.new.self in
    let rest = c.next.new.self.rest.items in
    let is_started : started ≡ c.loop-outlet.started.items ++ c.in-Ok.worker ∷ [] = search rules in
    let ends : map given_end started ++ rest ≡ c.args.outlets.items = grind (arith, common_steps) in
    let handlers : map given_handler started ++ left ≡ c.args.handlers.items = grind (arith, common_steps) in
    let same : length rest ≡ length left = search rules in
    let next : c.loop-outlet.outlet-iterator.rest.items ≡ c.in-Some.outlet ∷ rest = search rules in (
      ends,
      handlers,
      same,
      subst (AreInBatches c.args.way.batch) (sym is_started)
          (All-push (λ (w : Worker g.row.O.Denot g.row.H.Denot). w.promise.batch ≡ c.args.way.batch) c.loop-outlet.started.items c.in-Ok.worker inv.3 (search rules)),
      All-rest (λ o. IsIdle (g.O.InPlaceOutlet.received o)) c.in-Some.outlet rest c.loop-outlet.outlet-iterator.rest.items next inv.4,
    )

pub spawn_with-requires-clause-runs : goal.spawn_with-requires-clause-runs
spawn_with-requires-clause-runs g c =
    let rest = c.next.new.self.rest.items in
    let next : c.loop-outlet.outlet-iterator.rest.items ≡ c.in-Some.outlet ∷ rest = search rules in
    let Idle : g.row.O.Denot → Type 0 = λ o. IsIdle (g.O.InPlaceOutlet.received o) in
    let idle : IsIdle (g.O.InPlaceOutlet.received c.in-Some.outlet) = All-head Idle c.in-Some.outlet rest (subst (All Idle) next c.loop-outlet.invariant.4) in
    let some : 0 < c.args.way.batch = c.requires.batch in
    search rules
