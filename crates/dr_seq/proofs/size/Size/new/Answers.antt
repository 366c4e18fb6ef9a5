use Rattle.std.proofs.Common.{◌≡◌, ◌^◌, ◌*◌, ◌<◌, ◌≤◌, arith, sym, ◌∙◌}
use Rattle.dr_seq.proofs.Sizes.{power_between, exponent_small, shifted}
use Rattle.dr_seq.proofs.size.Size.new.Goals as goal

pub returns-then-n-ilog2-clause-refused : goal.returns-then-n-ilog2-clause-refused
returns-then-n-ilog2-clause-refused c _ is =
    let low : 2 ^ c.ilog2.result ≤ c.args.n = c.ilog2.ensures.power_le in
    let high : c.args.n < 2 * 2 ^ c.ilog2.result = c.ilog2.ensures.next_power_gt in
    let same : c.args.n ≡ 2 ^ is.0 = is.2 in
    let one : 2 ^ is.0 ≡ 2 ^ c.ilog2.result = power_between is.0 c.ilog2.result (omega arith) (omega arith) in
    c.if-n-ilog2.true (same ∙ one ∙ sym (shifted c.ilog2.result (omega arith)))

pub invariant_of-result : goal.invariant_of-result
invariant_of-result c =
    let low : 2 ^ c.ilog2.result ≤ c.args.n = c.ilog2.ensures.power_le in
    (c.ilog2.result, exponent_small c.ilog2.result (omega arith), c.if-n-ilog2.false ∙ shifted c.ilog2.result (omega arith))

pub returns-clause-accepted : goal.returns-clause-accepted
returns-clause-accepted c _ = invariant_of-result c
