use Rattle.std.proofs.Common.{refl}
use Rattle.dr_replay.proofs.ring.endings.Goals as goal

pub returns : goal.returns
returns c = rw (c.fault.ensures, c.fault-2.ensures, c.fault-3.ensures) refl
