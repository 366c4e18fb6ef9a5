use Rattle.std.proofs.Common.{◌∙◌, arith}
use Rattle.dr_plain_senders.proofs.Opened.{count_next, count_end}
use Rattle.dr_plain_senders.specs.Inside.Owned.{is_open}
use Rattle.dr_plain_senders.proofs.owned.Owned.count_open.Goals as goal

pub loop-sequence-preserved : goal.loop-sequence-preserved
loop-sequence-preserved c =
    let inv = c.loop-sequence.invariant in let s = c.loop-sequence.sequence in let lt = c.loop-sequence-test.true in let low = inv.1 in let few = inv.2 in
    let o = c.args.self.now in let one = c.one_where-count.ensures in
    let next = count_next (is_open o) s c.args.upto c.loop-sequence.count c.is_open.result c.one_where-count.result lt c.is_open.ensures one.is in
    let most = one.few in (next ∙ inv.0, omega arith, omega arith)

pub returns-clause-count : goal.returns-clause-count
returns-clause-count c =
    let inv = c.loop-sequence.invariant in let over = c.loop-sequence-test.false in let end = c.loop-sequence.auto.sequence-end in let le = c.requires.0 in
    count_end (is_open c.args.self.now) c.loop-sequence.sequence c.args.upto c.loop-sequence.count (omega arith) ∙ inv.0

pub returns-clause-few : goal.returns-clause-few
returns-clause-few c =
    let inv = c.loop-sequence.invariant in let over = c.loop-sequence-test.false in let end = c.loop-sequence.auto.sequence-end in let le = c.requires.0 in
    let few = inv.2 in omega arith
