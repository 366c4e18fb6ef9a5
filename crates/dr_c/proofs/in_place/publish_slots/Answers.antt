use Rattle.std.proofs.Common.{arith}
use Rattle.dr_c.proofs.Claimed.{publication_keeps}
use Rattle.dr_c.proofs.UnwrittenOfSeveral.{never_unwritten}
use Rattle.dr_c.proofs.in_place.publish_slots.Goals as goal

pub returns-clause-call : goal.returns-clause-call
returns-clause-call c =
    let left = c.leave_all.ensures.left in
    let sum = c.saturating_add.ensures in
    (left.0, c.leave_all.new.sender, (let few = left.1 in omega arith), left.2, c.publish.ensures.call)

pub returns-clause-claims : goal.returns-clause-claims
returns-clause-claims c =
    publication_keeps c.leave_all.new.sender c.publish.new.self c.args.lo c.args.hi c.publish.result c.publish.ensures.call c.leave_all.ensures.claims

pub returns-clause-written : goal.returns-clause-written
returns-clause-written c =
    let is = c.saturating_add.ensures in
    never_unwritten c.leave_all.new.sender c.args.lo c.args.hi c.saturating_add.result
    (λ s t own low. let within = c.leave_all.ensures.claims.within own.0 record { sequence = s; stage = t } own.1 in omega arith)
    c.leave_all.ensures.written c.publish.new.self c.publish.result c.publish.ensures.call
