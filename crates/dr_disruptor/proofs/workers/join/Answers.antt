use Rattle.std.proofs.Common.{rules, ◌≡◌, ◌<◌, length, subst, arith}
use Rattle.std.specs.Prelude.{vec_len}
use Rattle.dr_runs.proofs.Elements.{at_below, at_index, value_at}
use Rattle.dr_disruptor.specs.Serving.{Serving, given_end, given_handler}
use Rattle.dr_disruptor.proofs.workers.join.Goals as goal

pub returns-in-Ok : goal.returns-in-Ok
returns-in-Ok g c =
    let workers = c.args.workers.items in
    let served = c.in-Ok.served.items in
    let many : length served ≡ length workers = search rules in
    let all : length workers ≡ vec_len c.args.workers = search rules in
    record {
      many = many;
      each = λ h back at.
          let inside : h < length served = at_below served h back at in
          let below : h < length workers = omega arith in
          let k = (c.in-Ok.ensures.each h back (omega arith)).1 in
          let kept = subst (Serving g.O.InPlaceOutlet.kept g.O.InPlaceOutlet.received g.O.InPlaceOutlet.told g.O.InPlaceOutlet.saw g.O.InPlaceOutlet.does g.H.InPlaceHandler.goes k.handle.promise.batch (given_handler k.handle) (given_end k.handle))
          (value_at served h back back at) k.kept in
          (k.handle, at_index workers h k.handle below k.handle_is, kept);
    }
