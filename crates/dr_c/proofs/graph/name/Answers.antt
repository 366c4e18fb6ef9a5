use Rattle.std.proofs.Common.{◌≡◌, ap, arith, decimal, sym}
use Rattle.core.specs.Fmt.{digits}
use Rattle.dr_c.proofs.graph.name.Goals as goal

pub returns-in-0 : goal.returns-in-0
unfolding digits
returns-in-0 c = ap decimal (sym c.in-0.is)

pub returns-in-1 : goal.returns-in-1
unfolding digits
returns-in-1 c = ap decimal (sym c.in-1.is)

pub returns-in-2 : goal.returns-in-2
unfolding digits
returns-in-2 c = ap decimal (sym c.in-2.is)

pub returns-in-3 : goal.returns-in-3
unfolding digits
returns-in-3 c = ap decimal (sym c.in-3.is)

pub returns-in-4 : goal.returns-in-4
unfolding digits
returns-in-4 c = ap decimal (sym c.in-4.is)

pub returns-in-5 : goal.returns-in-5
unfolding digits
returns-in-5 c = ap decimal (sym c.in-5.is)

pub returns-in-6 : goal.returns-in-6
unfolding digits
returns-in-6 c = ap decimal (sym c.in-6.is)

pub returns-in-7 : goal.returns-in-7
unfolding digits
returns-in-7 c = ap decimal (sym c.in-7.is)

pub returns-in-8 : goal.returns-in-8
unfolding digits
returns-in-8 c = ap decimal (sym c.in-8.is)

pub returns-in-9 : goal.returns-in-9
unfolding digits
returns-in-9 c = ap decimal (sym c.in-9.is)

pub returns-in-10 : goal.returns-in-10
unfolding digits
returns-in-10 c = ap decimal (sym c.in-10.is)

pub returns-in-11 : goal.returns-in-11
unfolding digits
returns-in-11 c = ap decimal (sym c.in-11.is)

pub returns-in-12 : goal.returns-in-12
unfolding digits
returns-in-12 c = ap decimal (sym c.in-12.is)

pub returns-in-13 : goal.returns-in-13
unfolding digits
returns-in-13 c = ap decimal (sym c.in-13.is)

pub returns-in-14 : goal.returns-in-14
unfolding digits
returns-in-14 c = ap decimal (sym c.in-14.is)

pub returns-in_default : goal.returns-in_default
unfolding digits
returns-in_default c = let h = c.in_default in ap decimal (let is : 15 ≡ c.args.handler = omega arith in is)
