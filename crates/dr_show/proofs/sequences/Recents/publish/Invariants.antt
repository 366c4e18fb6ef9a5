use Rattle.dr_show.specs.Inside.Sequences.{published_in, slots_of}
use Rattle.dr_show.proofs.Tracking.{Partly}
use Rattle.dr_show.proofs.sequences.Recents.publish.Given as goal

abbrev pub invariant-loop-s : goal.invariant-loop-s
invariant-loop-s l = Partly l.next (published_in l.lo l.hi) l.s (slots_of l.initial.self) (slots_of l.self)
