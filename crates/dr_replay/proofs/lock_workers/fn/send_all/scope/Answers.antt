use Rattle.std.proofs.Common.{◌≡◌, ◌∙◌, ◌<◌, ℕ, Vec, Global, get_or, length, ap, arith, subst, sym}
use Rattle.dr_seq.specs.declared.event.Event.{Event}
use denote.Param.Send.{IsSync}
use Rattle.dr_lock.proofs.SharedCrossing.{of_param}
use Rattle.std.specs.declared.thread.PromisedHandle.{PromisedHandle}
use Rattle.dr_replay.specs.declared.given_back.Delivered.{Delivered}
use Rattle.dr_replay.specs.declared.given_back.SentBy.{SentBy}
use Rattle.dr_replay.proofs.Crossing.{crosses, gives}
use Rattle.dr_replay.proofs.Promising.{IsPromised, counts_more, promised_more, rest_unused, same_at, sent_by}
use Rattle.dr_replay.proofs.lock_workers.fn.send_all.scope.Goals as goal

-- a worker's closure may go to another thread: it has a reference to what all share, and its task
pub spawn_with-requires-send-F : goal.spawn_with-requires-send-F
spawn_with-requires-send-F g c κs within =
    let ledger : IsSync g.row.L = of_param _ g.row.L c.requires.shared in
    let workers : IsSync g.row.R = of_param _ g.row.R c.requires.workers in
    let gates : IsSync g.row.G = of_param _ g.row.G c.requires.gates in
    search crosses depth 40 fits 20000

-- what it gives back may be sent: its end, and what came of its work
pub spawn_with-requires-send-T : goal.spawn_with-requires-send-T
spawn_with-requires-send-T g c κs within = search gives depth 60 fits 20000

pub loop-end-preserved : goal.loop-end-preserved
loop-end-preserved g c =
    let was = c.loop-end.invariant in
    let promise = c.in_ok-spawn_with.ensures.ok in
    let of = c.of-promise.ensures in
    let scripts = c.captures.scripts.now in
    let started = c.loop-end.started.ok in
    let many = c.len-p.ensures in
    let place : c.len-p.result ≡ length c.loop-end.started.items = omega arith in
    let number : c.of-promise.result.p ≡ length c.loop-end.started.items = of.number ∙ place in
    let script = c.index-scripts-p in
    let taken = ap length c.in-Some.ensures.steps.0 in
    let below : length c.loop-end.started.items < length scripts = omega (arith, was.0) in
    let events = λ (d : Vec Event Global).
    of.script ∙ c.as_slice-script.ensures.value
    ∙ ap (λ (v : Vec Event Global). v.items) (script.is ∙ ap (λ (n : ℕ). get_or scripts n script.result) place
    ∙ same_at scripts (length c.loop-end.started.items) script.result d below) in
    let around = c.captures.around.now in
    let size = around.size in (
      counts_more _ _ _ _ _ _ _ was.0 c.in_ok-push.ensures.items c.in-Some.ensures.steps.0,
      rest_unused _ _ _ c.in-Some.ensures.steps.0 was.1,
      promised_more
          (λ (h : PromisedHandle (Delivered g.row.L.Denot) (SentBy g.row.G.Denot)) (p : ℕ). IsPromised around.gate.now size scripts h.promise p)
          c.loop-end.started.items c.push.new.self.items c.in_ok-spawn_with.field-0 c.in_ok-push.ensures.items was.2
          (record {
            gate = ap (λ (p : SentBy g.row.G.Denot). p.gate.value) promise ∙ of.gate;
            number = ap (λ (p : SentBy g.row.G.Denot). p.p) promise ∙ number;
            events = λ d. ap (λ (p : SentBy g.row.G.Denot). p.script.now) promise ∙ events d;
            cut = ap (λ (p : SentBy g.row.G.Denot). p.cut) promise ∙ of.cut ∙ c.get-cut.ensures.value;
          }),
    )

pub returns : goal.returns
returns g c =
    let was = c.loop-end.invariant.0 in
    let over = c.in-None.ensures.steps.0 in
    let left = c.loop-end.end-iterator.rest.ok in
    let started = c.loop-end.started.ok in
    let joined = c.in_ok-join_promised.field-0.ok in
    let same = c.in_ok-join_promised.ensures.len in
    let around = c.captures.around.now in
    let size = around.size in
    let scripts = c.captures.scripts.now in
    record {
      many = omega arith;
      each = λ p s script below.
          let kept = (c.in_ok-join_promised.ensures.each p s (omega arith)).1 in
          let place = c.loop-end.invariant.2 p kept.handle (omega arith) in
          let worker = get_or c.loop-end.started.items p kept.handle in
          sent_by g.L.Exchange.begun g.G.Gate.may_stop g.G.Gate.must_stop around.gate.now size scripts kept.handle.promise p script _ _
          (subst (λ (h : PromisedHandle (Delivered g.row.L.Denot) (SentBy g.row.G.Denot)). IsPromised around.gate.now size scripts h.promise p)
          {x = worker} {y = kept.handle} (sym {b = worker} kept.handle_is) place) kept.kept;
    }
