use Rattle.std.proofs.Common.{◌+◌, ◌∙◌, ap, arith, length, refl, sym}
use Rattle.std.proofs.lemmas.Option.{slice_get_read}
use Rattle.dr_lock.proofs.Asking.{write_more, write_stopped, writes_done}
use Rattle.dr_lock.proofs.Locking.{all_done, calls_more, stopped, written_more}
use Rattle.dr_lock.proofs.end.Locked.write_all.Goals as goal

pub loop-k-preserved : goal.loop-k-preserved
loop-k-preserved g c =
    let before = c.loop-k.invariant in
    let event = c.index-events-k.result in
    let less = c.loop-k-test.true in
    let here = slice_get_read c.args.events.now (length c.args.events.now) c.loop-k.k event refl less c.index-events-k.is in
    let one = ap (λ e. e.calls) c.in-Ok.ensures.end in
    let halts = ap (λ e. e.halts) c.in-Ok.ensures.end in
    record {
      calls = (let calls = before.calls in omega arith);
      halts = halts ∙ before.halts;
      asked = write_more c.args.end.now c.loop-k.end c.write.new.end c.args.p c.args.lo c.loop-k.k (c.args.lo + c.loop-k.k) c.args.events.now event event less refl
          (sym c.index-events-k.is) before.asked c.in-Ok.ensures.end;
      each = written_more g.L.Exchange.begun c.args.p c.args.lo c.loop-k.k c.args.events.now event here before.each c.in-Ok.ensures.answer;
      written = calls_more c.args.self.now.recorded c.loop-k.self.recorded c.write.new.self.recorded c.args.p c.args.lo c.loop-k.k (c.args.lo + c.loop-k.k) c.args.events.now event event less refl
          (sym c.index-events-k.is) before.written c.in-Ok.ensures.call;
    }

pub returns-in-Err-clause-calls : goal.returns-in-Err-clause-calls
returns-in-Err-clause-calls g c =
    let before = c.loop-k.invariant in
    let event = c.index-events-k.result in
    let here = slice_get_read c.args.events.now (length c.args.events.now) c.loop-k.k event refl c.loop-k-test.true c.index-events-k.is in
    stopped c.args.end.now.calls c.loop-k.end.calls c.args.self.now.recorded c.loop-k.self.recorded c.write.new.self.recorded c.args.p c.args.lo c.loop-k.k (c.args.lo + c.loop-k.k)
    c.args.events.now event c.in-Err.trouble before.calls refl here before.written c.in-Err.ensures.call

pub returns-in-Err-clause-end : goal.returns-in-Err-clause-end
returns-in-Err-clause-end g c =
    let event = c.index-events-k.result in
    write_stopped c.args.end.now c.loop-k.end c.write.new.end c.args.p c.args.lo c.loop-k.k (c.args.lo + c.loop-k.k) c.args.events.now event event c.in-Err.trouble c.loop-k-test.true refl
    (sym c.index-events-k.is) c.loop-k.invariant.asked c.in-Err.ensures.end

pub returns-clause-calls : goal.returns-clause-calls
returns-clause-calls g c =
    all_done c.args.end.now.calls c.args.self.now.recorded c.loop-k.self.recorded c.args.p c.args.lo c.loop-k.k c.args.events.now c.loop-k-test.false c.loop-k.invariant.written

pub returns-clause-end : goal.returns-clause-end
returns-clause-end g c =
    writes_done c.args.end.now c.loop-k.end c.args.p c.args.lo c.loop-k.k c.args.events.now c.loop-k-test.false c.loop-k.invariant.asked
