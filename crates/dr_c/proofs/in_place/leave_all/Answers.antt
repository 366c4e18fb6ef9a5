use Rattle.std.proofs.Common.{◌≡◌, arith}
use Rattle.dr_c.specs.Slots.{LeavesOfSeveral}
use Rattle.dr_c.proofs.Claimed.{update_keeps}
use Rattle.dr_c.proofs.Slots.{one_more}
use Rattle.dr_c.proofs.UnwrittenOfSeveral.{written_on, writes_all, writes_until}
use Rattle.dr_c.proofs.in_place.leave_all.Goals as goal

pub loop-sequence-preserved : goal.loop-sequence-preserved
loop-sequence-preserved c =
    let inv = c.loop-sequence.invariant in (
      one_more LeavesOfSeveral c.args.sender.now c.loop-sequence.sender c.leave.new.sender c.args.lo c.loop-sequence.sequence inv.0
          (c.leave.result, c.leave.ensures),
      update_keeps c.loop-sequence.sender c.leave.new.sender (λ was now. now ≡ was) c.loop-sequence.sequence c.leave.result c.leave.ensures inv.1,
      written_on (λ was now. now ≡ was) c.loop-sequence.sender c.leave.new.sender c.args.lo c.loop-sequence.sequence c.leave.result c.if-is_err.ensures.value inv.2
          c.leave.ensures,
      (let before = c.loop-sequence-test.true in omega arith),
    )

pub returns-then-is_err-clause-left : goal.returns-then-is_err-clause-left
returns-then-is_err-clause-left c =
    let more = one_more LeavesOfSeveral c.args.sender.now c.loop-sequence.sender c.leave.new.sender c.args.lo c.loop-sequence.sequence
    c.loop-sequence.invariant.0 (c.leave.result, c.leave.ensures) in
    (more.0, (let at = more.1 in let before = c.loop-sequence-test.true in omega arith), more.2)

pub returns-clause-left : goal.returns-clause-left
returns-clause-left c =
    let inv = c.loop-sequence.invariant in
    (inv.0.0, (let at = inv.0.1 in let within = inv.3 in omega arith), inv.0.2)

pub returns-then-is_err-clause-claims : goal.returns-then-is_err-clause-claims
returns-then-is_err-clause-claims c =
    update_keeps c.loop-sequence.sender c.leave.new.sender (λ was now. now ≡ was) c.loop-sequence.sequence c.leave.result c.leave.ensures
    c.loop-sequence.invariant.1

pub returns-clause-claims : goal.returns-clause-claims
returns-clause-claims c = c.loop-sequence.invariant.1

pub returns-then-is_err-clause-written : goal.returns-then-is_err-clause-written
returns-then-is_err-clause-written c =
    let inv = c.loop-sequence.invariant in
    writes_until (λ was now. now ≡ was) c.loop-sequence.sender c.leave.new.sender c.args.lo c.args.upto c.loop-sequence.sequence inv.1
    c.loop-sequence.auto.sequence inv.2 c.leave.result c.if-is_err.ensures.value c.loop-sequence-test.true c.leave.ensures

pub returns-clause-written : goal.returns-clause-written
returns-clause-written c =
    let inv = c.loop-sequence.invariant in
    writes_all (λ was now. now ≡ was) c.loop-sequence.sender c.loop-sequence.sender c.args.lo c.args.upto c.loop-sequence.sequence inv.1
    c.loop-sequence.auto.sequence inv.2 c.loop-sequence-test.false
