use Rattle.std.proofs.Common.{refl}
use Rattle.dr_drive.proofs.Sizes.{is_size_of, no_size}
use Rattle.dr_drive.proofs.setup.ring_records.size_of.Goals as goal

pub returns-in-Ok : goal.returns-in-Ok
returns-in-Ok c = (c.in-Ok.ensures.ok, is_size_of c.args.n (c.in-Ok.ensures.accepted refl))

pub returns-in-Err : goal.returns-in-Err
returns-in-Err c = no_size c.args.n (c.in-Err.ensures.refused refl)
