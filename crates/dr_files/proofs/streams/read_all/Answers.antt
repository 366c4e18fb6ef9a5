use Rattle.std.proofs.Common.{◌<◌, length, arith}
use Rattle.dr_files.proofs.Writes.{whole}
use Rattle.dr_files.proofs.streams.read_all.Goals as goal

pub returns-in-Ok-eq0-clause-whole : goal.returns-in-Ok-eq0-clause-whole
returns-in-Ok-eq0-clause-whole g c =
    let h = c.in-Ok-eq0.ensures.bytes in
    let zero = c.in-Ok-eq0.field-0-test in
    let some : 0 < length c.read.new.buf = omega arith in
    let rem = g.R.Read.remaining in
    whole (rem c.args.reader.now.inner) (rem c.loop.reader.inner) (rem c.read.new.self.inner) c.loop.text.items c.loop.invariant.took (rw zero at h.0) (h.1 zero some)
