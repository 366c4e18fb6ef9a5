use Rattle.std.proofs.Common.{rules, ◌≡◌, ◌<◌, length, subst, arith}
use Rattle.std.specs.Prelude.{vec_len}
use Rattle.dr_runs.proofs.Elements.{at_below, at_index, value_at}
use Rattle.dr_disruptor.proofs.feeds.ended.Goals as goal

pub returns-in-Ok : goal.returns-in-Ok
returns-in-Ok g c =
    let threads = c.args.threads.items in
    let sent = c.in-Ok.sent.items in
    let many : length sent ≡ length threads = search rules in
    let all : length threads ≡ vec_len c.args.threads = search rules in
    record {
      many = many;
      each = λ p back at.
          let inside : p < length sent = at_below sent p back at in
          let below : p < length threads = omega arith in
          let k = (c.in-Ok.ensures.each p back (omega arith)).1 in
          (k.handle, at_index threads p k.handle below k.handle_is, subst (g.P.Promise.kept_by k.handle.promise) (value_at sent p back back at) k.kept);
    }
