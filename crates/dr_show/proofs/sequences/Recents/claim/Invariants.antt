use Rattle.std.proofs.Common.{◌-◌}
use Rattle.dr_show.specs.Inside.Sequences.{claimed_in, slots_of}
use Rattle.dr_show.proofs.Tracking.{Partly}
use Rattle.dr_show.proofs.sequences.Recents.claim.Given as goal

abbrev pub invariant-loop-s : goal.invariant-loop-s
invariant-loop-s l = Partly l.next (claimed_in (l.next - l.n) l.producer) l.s (slots_of l.initial.self) (slots_of l.self)
