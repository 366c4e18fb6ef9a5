use Rattle.std.proofs.Common.{◌≡◌, ◌≤◌, ◌+◌, length, sym, ap, ◌∙◌, refl, subst, take, List, arith, ℕ}
use Rattle.std.proofs.lemmas.List.{length-take-le, with_items_is, length_push, length-append}
use Rattle.std.specs.Vec.{with_items}
use Rattle.std.proofs.Common.{Vec, Global, vec_capacity}
use Rattle.std.proofs.Common.{get_or}
use Rattle.dr_core.specs.Calls.Shows.{IsStep}
use Rattle.dr_meaning.specs.Meaning.Runs.{counts_of, count_in, offers}
use Rattle.dr_core.proofs.Running.{run_none, run_step, counts-push, offers-le, room-first, room-more}
use Rattle.dr_core.proofs.runs.run.Goals as goal

pub loop-command-init : goal.loop-command-init
loop-command-init g c = record {
  same = refl;
  names = refl;
  room = sym c.resize.new.self.ok.0 ∙ c.in_ok-resize.ensures.len ∙ (c.get-size.ensures.value ∙ c.size.ensures);
  told = ap length c.in_ok-replies.ensures.items;
  counted = ap length c.in_ok-values.ensures.items ∙ sym (ap counts_of c.in_ok-replies.ensures.items);
  reply_room = (c.in_ok-replies.ensures.capacity);
  value_room = room-first _ _ _ _ _ _ c.in_ok-values.ensures.items c.in_ok-values.ensures.capacity c.in-Some.ensures (c.get-size.ensures.value ∙ c.size.ensures);
  runs = λ t m leads shows. run_none _ t m _ leads shows;
}

-- what is added to the values are those of the batch
added : {E : Type 0} (buffer : Vec E Global) (out lent : List E) (n k : ℕ) → length out ≡ buffer.len → lent ≡ (with_items buffer out).items → n ≡ k
    → take n lent ≡ take k out
added buffer out lent n k len is same = rw (is, same) (ap (take k) (with_items_is buffer out len))

pub loop-command-preserved : goal.loop-command-preserved
loop-command-preserved g c =
    let replied = c.in_ok-push.ensures.items in
    let valued = c.in_ok-extend_from_slice.ensures.items in
    let len : length c.execute-reply.new.out ≡ c.loop-command.buffer.len = c.execute-reply.auto.out ∙ c.deref_mut.ensures.len in
    let more : take c.count.result c.deref.result.now ≡ take (count_in c.execute-reply.result) c.execute-reply.new.out = added c.loop-command.buffer c.execute-reply.new.out _ _ _ len c.deref.ensures.value c.count.ensures in
    let many : length (take (count_in c.execute-reply.result) c.execute-reply.new.out) ≡ count_in c.execute-reply.result = length-take-le _ _
    (let n : length c.execute-reply.new.out ≡ c.args.core.now.setup.size = len ∙ c.loop-command.buffer.ok.0 ∙ c.loop-command.invariant.room in
    let size : c.loop-command.core.setup.size ≡ c.args.core.now.setup.size = ap (λ s. s.size) c.loop-command.invariant.same in
    let o : offers c.command-item.result c.loop-command.core.setup.size ≤ c.loop-command.core.setup.size = offers-le _ c.loop-command.core.setup.size in
    let f : count_in c.execute-reply.result ≤ offers c.command-item.result c.loop-command.core.setup.size = c.execute-reply.ensures.fits in
    omega arith) in
    let fits : count_in c.execute-reply.result ≤ offers (get_or c.args.commands.now c.loop-command.command-index c.command-item.result) c.loop-command.core.setup.size =
    subst (λ x. count_in c.execute-reply.result ≤ offers x c.loop-command.core.setup.size) c.command-item.is c.execute-reply.ensures.fits in
    let step : IsStep c.loop-command.core (get_or c.args.commands.now c.loop-command.command-index c.command-item.result)
    c.execute-reply.result (take (count_in c.execute-reply.result) c.execute-reply.new.out) c.execute-reply.new.self =
    subst (λ x. IsStep c.loop-command.core x c.execute-reply.result (take (count_in c.execute-reply.result) c.execute-reply.new.out) c.execute-reply.new.self) c.command-item.is c.execute-reply.ensures.step in
    let told : length c.loop-command.replies.items ≡ c.loop-command.command-index = c.loop-command.invariant.told in
    let counted : length c.loop-command.values.items ≡ counts_of c.loop-command.replies.items = c.loop-command.invariant.counted in
    record {
      same = c.execute-reply.ensures.step.same_setup ∙ c.loop-command.invariant.same;
      names = c.execute-reply.ensures.step.same_names ∙ c.loop-command.invariant.names;
      room = ap length (with_items_is c.loop-command.buffer c.execute-reply.new.out len) ∙ len ∙ c.loop-command.buffer.ok.0 ∙ c.loop-command.invariant.room;
      told = rw (replied, length_push) (ap (λ n. n + 1) told);
      counted = rw (valued, replied, more, length-append, counts-push, many) (ap (λ n. n + count_in c.execute-reply.result) counted);
      reply_room = (let cap = c.in_ok-push.ensures.capacity in let old = c.loop-command.invariant.reply_room in omega arith);
      value_room = rw (valued, more) (room-more c.loop-command.values.items (take (count_in c.execute-reply.result) c.execute-reply.new.out)
          c.args.commands.now c.loop-command.command-index c.command-item.result
          c.loop-command.core.setup.size c.args.core.now.setup.size
          (vec_capacity c.loop-command.values) (vec_capacity c.extend_from_slice.new.self) (count_in c.execute-reply.result)
          c.loop-command-test.true c.loop-command.invariant.value_room c.in_ok-extend_from_slice.ensures.capacity many fits (ap (λ s. s.size) c.loop-command.invariant.same));
      runs = λ t m leads shows. rw (replied, valued, more)
          (run_step _ c.loop-command.core c.execute-reply.new.self t
          c.args.commands.now c.loop-command.command-index c.command-item.result c.loop-command.replies.items
          c.loop-command.values.items c.execute-reply.result (take (count_in c.execute-reply.result) c.execute-reply.new.out)
          c.loop-command-test.true told counted many c.loop-command.invariant.same
          step (c.loop-command.invariant.runs t m leads shows));
    }
