use Rattle.std.proofs.Common.{◌-◌, arith}
use Rattle.dr_journal.specs.Meaning.Format.{behind_header, whole_batches, recovered}
use Rattle.dr_journal.specs.Calls.Journals.{StandsFor}
use Rattle.dr_journal.specs.Calls.Opening.{StandsForTheSame}
use Rattle.dr_journal.proofs.Codes.{is_whole, length-kept}
use Rattle.dr_journal.proofs.Crash.{rests}
use Rattle.dr_journal.proofs.Repairs.{the_same}
use Rattle.dr_journal.proofs.Moments.{weaker}
use Rattle.dr_journal.proofs.repair.restore.Goals as goal

pub returns-in_err-len-clause-any_moment : goal.returns-in_err-len-clause-any_moment
returns-in_err-len-clause-any_moment g c =
    let d = g.D.Device in
    let file = d.seen c.args.device.now in
    weaker d.moment d.left_since c.args.device.now c.free.new.device (StandsFor (recovered file)) (StandsForTheSame file) c.free.ensures.any_moment (λ f s. the_same file f c.requires.journal s)

pub returns-clause-any_moment : goal.returns-clause-any_moment
returns-clause-any_moment g c =
    let d = g.D.Device in
    let file = d.seen c.args.device.now in
    weaker d.moment d.left_since c.args.device.now c.free.new.device (StandsFor (recovered file)) (StandsForTheSame file) c.free.ensures.any_moment (λ f s. the_same file f c.requires.journal s)

pub returns-clause-at_rest : goal.returns-clause-at_rest
returns-clause-at_rest g c =
    let d = g.D.Device in
    let s = c.requires in
    let body = behind_header (d.seen c.args.device.now) in
    let end = c.args.end in
    let len = c.in_ok-len.len in
    let all = rests d.seen d.may_leave (record { device = c.free.new.device; end = end; len = len }) (whole_batches body) (len - end) (is_whole body) c.in_ok-len.ensures.freed
    (omega (arith, s.end, length-kept body)) (omega (arith, c.in_ok-len.ensures.room, s.end, length-kept body)) (omega (arith, c.in_ok-len.ensures.room)) c.in_ok-len.ensures.durable in
    all.0

pub returns-clause-same : goal.returns-clause-same
returns-clause-same g c =
    let d = g.D.Device in
    let s = c.requires in
    let body = behind_header (d.seen c.args.device.now) in
    let end = c.args.end in
    let len = c.in_ok-len.len in
    let all = rests d.seen d.may_leave (record { device = c.free.new.device; end = end; len = len }) (whole_batches body) (len - end) (is_whole body) c.in_ok-len.ensures.freed
    (omega (arith, s.end, length-kept body)) (omega (arith, c.in_ok-len.ensures.room, s.end, length-kept body)) (omega (arith, c.in_ok-len.ensures.room)) c.in_ok-len.ensures.durable in
    all.1
