use Rattle.std.proofs.Common.{refl, arith}
use Rattle.dr_seq.proofs.Alike.{same_lists}
use Rattle.dr_seq.proofs.same.are_same.Goals as goal

pub returns : goal.returns
returns g c = (λ is. same_lists c.args.a.now c.args.b.now c.if-a-b.false (λ k l. c.loop-k.invariant k (omega arith)), λ is. refl)
