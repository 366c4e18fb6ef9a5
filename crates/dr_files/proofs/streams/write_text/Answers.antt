use Rattle.std.proofs.Common.{◌≤◌, ◌<◌, ◌+◌, ◌-◌, ◌^◌, ◌∙◌, ap, length, take, drop, arith}
use Rattle.dr_files.proofs.Writes.{accepted, front, further, more, nothing, refused, rest_length}
use Rattle.dr_files.proofs.streams.write_text.Goals as goal

pub returns-in-Ok-eq0 : goal.returns-in-Ok-eq0
returns-in-Ok-eq0 g c =
    let h = c.in-Ok-eq0.ensures in
    let zero = c.in-Ok-eq0.field-0-test in
    let con = g.W.Write.contents in
    let text = c.args.text.now in
    let at = c.loop-at.at in
    let inv = c.loop-at.invariant in
    let some : 0 < length (take (length text - at) (drop at text)) = rw (rest_length text at) (omega arith) in
    let less : c.loop-at.writer.faults < 2 ^ 64 - 1 = omega arith in (
      front (con c.args.writer.now.inner) (con c.loop-at.writer.inner) (con c.write.new.self.inner) text at inv.wrote
          (nothing (con c.loop-at.writer.inner) (con c.write.new.self.inner) (rw zero at h.bytes)),
      refused (take (length text - at) (drop at text)) c.in-Ok-eq0.field-0 c.loop-at.writer.faults c.write.new.self.faults h.counted zero some less ∙ ap (λ n. n + 1) inv.none,
    )

pub loop-at-preserved : goal.loop-at-preserved
loop-at-preserved g c =
    let h = c.in-Ok.ensures in
    let con = g.W.Write.contents in
    let text = c.args.text.now in
    let at = c.loop-at.at in
    let inv = c.loop-at.invariant in
    let bound : c.in-Ok.count ≤ length text - at = rw (rest_length text at) at h.bound in
    record {
      within = omega arith;
      wrote = further (con c.args.writer.now.inner) (con c.loop-at.writer.inner) (con c.write.new.self.inner) text at c.in-Ok.count inv.wrote h.bytes;
      none = accepted (take (length text - at) (drop at text)) c.in-Ok.count c.loop-at.writer.faults c.write.new.self.faults h.counted c.in-Ok.count-test.1 ∙ inv.none;
    }

pub returns-in-Err : goal.returns-in-Err
returns-in-Err g c =
    let h = c.in-Err.ensures in
    let con = g.W.Write.contents in
    let inv = c.loop-at.invariant in
    let less : c.loop-at.writer.faults < 2 ^ 64 - 1 = omega arith in (
      front (con c.args.writer.now.inner) (con c.loop-at.writer.inner) (con c.write.new.self.inner) c.args.text.now c.loop-at.at inv.wrote h.bytes,
      h.counted ∙ more c.loop-at.writer.faults less ∙ ap (λ n. n + 1) inv.none,
    )
