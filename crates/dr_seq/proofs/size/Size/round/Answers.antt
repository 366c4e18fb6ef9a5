use Rattle.dr_seq.proofs.Sizes.{shift_is_quotient}
use Rattle.dr_seq.proofs.size.Size.round.Goals as goal

pub returns : goal.returns
returns c = rw (← c.self.view_is) (shift_is_quotient _ _ c.self.invariant)
