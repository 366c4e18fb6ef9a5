use Rattle.std.proofs.Common.{◌≡◌, ◌+◌, ◌-◌, ◌∙◌, ℕ, Option, List, Result, Some, ap, arith, drop, refl, subst, sym, take}
use Rattle.std.proofs.lemmas.Bool.{false≢true}
use Rattle.dr_meaning.specs.Calls.Ends.{Sent, WhereShown}
use Rattle.dr_meaning.specs.declared.ends.Trouble.{Trouble}
use Rattle.dr_meaning.specs.Calls.Calling.{InletCall, SomeCalls}
use Rattle.dr_workers.specs.declared.passages.Passages.{Passages}
use Rattle.dr_workers.specs.Inside.Retries.{SendsPart}
use Rattle.dr_workers.specs.Meaning.Work.{Adds}
use Rattle.dr_workers.proofs.Stopping.{stopped_more}
use Rattle.dr_workers.proofs.Closing.{open_more, open_none}
use Rattle.dr_workers.proofs.Sending.{sending_more, sending_none, sends_all, sends_in_trouble}
use Rattle.dr_workers.proofs.Writings.{added_none, adds_more, first_and_next}
use Rattle.dr_workers.specs.Calls.Waits.{Provides}
use Rattle.dr_workers.proofs.Biding.{inlet_alone, with_room}
use Rattle.dr_workers.proofs.producer.produce_with.Goals as goal

-- a part of a script that is as long as it says
part_sent : {E : Type 0} (o p : Option (Sent E)) (m n : ℕ) (events : List E) → m ≡ n → WhereShown (Adds (take m events)) o p
    → WhereShown (Adds (take n events)) o p
part_sent o p m n events same sent = subst (λ k. WhereShown (Adds (take k events)) o p) same sent

as_long : {S E : Type 0} (does : S → InletCall E → S → Type 0) (a b : S) (may_stop must_stop : ℕ → ℕ → Type 0) (t t' : Passages) (n m : ℕ)
    (rest : List E) (result : Result (Unit {0}) Trouble) → n ≡ m → SomeCalls does a b (SendsPart (take n rest) may_stop must_stop t t' result)
    → SomeCalls does a b (SendsPart (take m rest) may_stop must_stop t t' result)
as_long does a b may_stop must_stop t t' n m rest result same sends =
    subst (λ k. SomeCalls does a b (SendsPart (take k rest) may_stop must_stop t t' result)) same sends

pub loop-sent-preserved : goal.loop-sent-preserved
loop-sent-preserved g c =
    let sent = c.loop-sent.sent in
    let n = c.min-n.result in
    let script = c.args.script.now in
    let same : sent + n - sent ≡ n = omega arith in
    let next = as_long (Provides g.I.Inlet.does g.P.Patience.waits g.P.Patience.finds) (with_room c.loop-sent.inlet c.loop-sent.patience c.loop-sent.room)
    (with_room c.send.new.inlet c.send.new.patience c.send.new.room) _ _ _ _ _ _ (drop sent script) c.send.result same c.send.ensures.sends in (
      omega arith,
      c.send.ensures.kept ∙ c.loop-sent.invariant.1,
      c.send.ensures.sends.holds.passes.who ∙ c.loop-sent.invariant.2,
      stopped_more (g.G.Gate.may_stop c.args.gate.now) (g.G.Gate.must_stop c.args.gate.now) _ c.args.who _ _ c.loop-sent.invariant.2
          c.loop-sent.invariant.3 c.send.ensures.sends.holds.passes,
      adds_more (take sent script) (take n (drop sent script)) (take (sent + n) script) (first_and_next script sent n) _ _ _ c.loop-sent.invariant.4
          (part_sent _ _ (sent + n - sent) n (drop sent script) same c.in-Ok.ensures.sent),
      open_more _ _ _ c.loop-sent.invariant.5 c.send.ensures.open,
      sending_more (Provides g.I.Inlet.does g.P.Patience.waits g.P.Patience.finds) _ _ _ c.args.cut script (g.G.Gate.may_stop c.args.gate.now)
          (g.G.Gate.must_stop c.args.gate.now) c.args.who sent n _ _ c.send.result c.in-Ok.is c.min-n.ensures (omega arith) c.loop-sent.invariant.6 next,
    )

pub loop-sent-init : goal.loop-sent-init
loop-sent-init g c = (
  omega arith,
  refl,
  ap (λ (t : Passages). t.who) c.new-passages.ensures,
  λ is. absurd (false≢true (sym (ap (λ (t : Passages). t.stopped) c.new-passages.ensures) ∙ is)),
  added_none _ _ refl,
  open_none _,
  sending_none (Provides g.I.Inlet.does g.P.Patience.waits g.P.Patience.finds) (with_room c.args.inlet.now c.args.patience.now 0) c.args.cut
      c.args.script.now (g.G.Gate.may_stop c.args.gate.now) (g.G.Gate.must_stop c.args.gate.now) c.args.who c.new-passages.result c.new-passages.ensures,
)

pub returns-in-Err-clause-bides : goal.returns-in-Err-clause-bides
returns-in-Err-clause-bides g c =
    let sent = c.loop-sent.sent in
    let n = c.min-n.result in
    let script = c.args.script.now in
    let same : sent + n - sent ≡ n = omega arith in
    let next = as_long (Provides g.I.Inlet.does g.P.Patience.waits g.P.Patience.finds) (with_room c.loop-sent.inlet c.loop-sent.patience c.loop-sent.room)
    (with_room c.send.new.inlet c.send.new.patience c.send.new.room) _ _ _ _ _ _ (drop sent script) c.send.result same c.send.ensures.sends in (
      c.send.new.room,
      sends_in_trouble (Provides g.I.Inlet.does g.P.Patience.waits g.P.Patience.finds) _ _ _ c.args.cut script (g.G.Gate.may_stop c.args.gate.now)
          (g.G.Gate.must_stop c.args.gate.now) c.args.who sent n _ _ c.send.result c.in-Err.trouble _ c.loop-sent-test.true c.min-n.ensures (omega arith)
          c.in-Err.is c.of.ensures.sent (c.of.ensures.fault ∙ ap Some c.in_trouble.ensures) c.loop-sent.invariant.6 next,
    )

pub returns-in-Err-clause-sends : goal.returns-in-Err-clause-sends
returns-in-Err-clause-sends g c =
    let bides = returns-in-Err-clause-bides g c in
    inlet_alone g.I.Inlet.does g.P.Patience.waits g.P.Patience.finds (with_room c.args.inlet.now c.args.patience.now 0)
    (with_room c.send.new.inlet c.send.new.patience bides.0) _ bides.1

pub returns-clause-bides : goal.returns-clause-bides
returns-clause-bides g c = (
  c.loop-sent.room,
  sends_all (Provides g.I.Inlet.does g.P.Patience.waits g.P.Patience.finds) _ _ c.args.cut c.args.script.now (g.G.Gate.may_stop c.args.gate.now)
      (g.G.Gate.must_stop c.args.gate.now) c.args.who c.loop-sent.sent _ _ (let sent = c.of-2.ensures.sent in omega arith) c.of-2.ensures.sent (c.of-2.ensures.fault ∙ c.at_end.ensures) c.loop-sent.invariant.6,
)

pub returns-clause-sends : goal.returns-clause-sends
returns-clause-sends g c =
    let bides = returns-clause-bides g c in
    inlet_alone g.I.Inlet.does g.P.Patience.waits g.P.Patience.finds (with_room c.args.inlet.now c.args.patience.now 0)
    (with_room c.loop-sent.inlet c.loop-sent.patience bides.0) _ bides.1
