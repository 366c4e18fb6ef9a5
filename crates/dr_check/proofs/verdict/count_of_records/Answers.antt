use Rattle.std.proofs.Common.{ap, arith, length, refl}
use Rattle.dr_records.specs.Records.{records_of}
use Rattle.dr_records.proofs.RowsLeft.{numbers_fit}
use Rattle.dr_check.proofs.verdict.count_of_records.Goals as goal

pub loop-rows-init : goal.loop-rows-init
loop-rows-init c = record {
  counted = omega (arith, ap length c.new-rows.ensures);
  fits = numbers_fit c.args.text.now (records_of c.args.text.now) c.requires refl;
}

pub loop-rows-preserved : goal.loop-rows-preserved
loop-rows-preserved c =
    let inv = c.loop-rows.invariant in
    let first = rw (c.in_ok-row.was, c.in-Some.is) at c.next.follows.holds-at-none in
    let less = ap length first in
    record { counted = omega (arith, inv.counted, less); fits = inv.fits }

pub returns : goal.returns
returns c =
    let none = rw (c.in_ok-row.was, c.in_default.is) at c.next.follows.holds-at-none in
    let zero = ap length none in
    omega (arith, c.loop-rows.invariant.counted, zero)
