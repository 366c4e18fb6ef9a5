use Rattle.std.proofs.Common.{sym, length}
use Rattle.dr_seq.specs.Rounds.{entry_of}
use Rattle.dr_seq.proofs.Stamped.{stamped-none, stamped-more, length-stamped}
use Rattle.dr_core.proofs.availability.mark_all.Goals as goal

pub loop-k-init : goal.loop-k-init
loop-k-init c = sym (stamped-none _ _ _)

pub loop-k-preserved : goal.loop-k-preserved
loop-k-preserved c =
    rw (c.mark.ensures, c.loop-k.invariant, length-stamped) (sym (stamped-more (entry_of (length c.args.rounds.now)) c.args.rounds.now c.args.from c.loop-k.k))
