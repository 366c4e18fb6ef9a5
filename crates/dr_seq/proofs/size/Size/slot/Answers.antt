use Rattle.dr_seq.proofs.Sizes.{mask_is_remainder}
use Rattle.dr_seq.proofs.size.Size.slot.Goals as goal

pub returns : goal.returns
returns c = rw (← c.self.view_is) (mask_is_remainder _ _ c.self.invariant)
