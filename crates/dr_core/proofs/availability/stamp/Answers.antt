use Rattle.std.proofs.Common.{sym}
use Rattle.dr_seq.proofs.Stamped.{stamped-none, stamped-more}
use Rattle.dr_core.proofs.availability.stamp.Goals as goal

pub loop-k-init : goal.loop-k-init
loop-k-init c = sym (stamped-none _ _ _)

pub loop-k-preserved : goal.loop-k-preserved
loop-k-preserved c =
    rw (c.slot.ensures, ← c.requires.slots, c.loop-k.invariant) (sym (stamped-more (λ s. c.args.p) c.args.owners.now c.args.from c.loop-k.k))
