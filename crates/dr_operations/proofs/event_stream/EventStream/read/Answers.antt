use Rattle.std.proofs.Common.{◌<◌, ◌∙◌, [], length, arith, refl}
use Rattle.std.proofs.lemmas.Result.{err_from_is_err_and}
use Rattle.dr_files.proofs.Writes.{more}
use Rattle.dr_files.specs.Counting.{faults_of, inner_of}
use Rattle.dr_operations.specs.Arriving.{behind, to_come}
use Rattle.dr_operations.proofs.Feeding.{no_failed_read, read_end, read_end_stop, read_failed, read_on, read_stop}
use Rattle.dr_operations.proofs.event_stream.EventStream.read.Goals as goal

pub returns-in_ok-finish-in-Ok-eq0-clause-read : goal.returns-in_ok-finish-in-Ok-eq0-clause-read
returns-in_ok-finish-in-Ok-eq0-clause-read g c =
    let h = c.in-Ok-eq0.ensures.bytes in
    let zero = c.in-Ok-eq0.field-0-test in
    let some : 0 < length c.read.new.buf = omega arith in
    let rem = g.R.Read.remaining in
    read_end c.args.self.now c.finish.new.self (rem (inner_of c.args.reader.now)) (rem (inner_of c.read.new.self)) c.args.events.now.items c.finish.new.events.items
    (rw zero at h.0) (h.1 zero some) c.in_ok-finish-in-Ok-eq0.ensures.finishes

pub returns-in_err-finish-in-Ok-eq0-clause-read : goal.returns-in_err-finish-in-Ok-eq0-clause-read
returns-in_err-finish-in-Ok-eq0-clause-read g c =
    let p = err_from_is_err_and c.from_residual.result c.from_residual.ensures.1 in
    let h = c.in-Ok-eq0.ensures.bytes in
    let zero = c.in-Ok-eq0.field-0-test in
    let some : 0 < length c.read.new.buf = omega arith in
    let rem = g.R.Read.remaining in
    rw (p.1, p.2)
    (read_end_stop c.in_err-finish-in-Ok-eq0.field-0.0 c.args.self.now c.finish.new.self (rem (inner_of c.args.reader.now)) (rem (inner_of c.read.new.self)) c.args.events.now.items c.finish.new.events.items
    (rw zero at h.0) (h.1 zero some) c.in_err-finish-in-Ok-eq0.ensures.finishes)

pub returns-in_err-finish-in-Ok-eq0-clause-counted : goal.returns-in_err-finish-in-Ok-eq0-clause-counted
returns-in_err-finish-in-Ok-eq0-clause-counted g c =
    let p = err_from_is_err_and c.from_residual.result c.from_residual.ensures.1 in
    rw (p.1, p.2, c.in-Ok-eq0.ensures.counted)
    (no_failed_read c.in_err-finish-in-Ok-eq0.field-0.0 (behind c.args.events.now.items (to_come c.args.self.now [])) c.finish.new.events.items (faults_of c.args.reader.now) c.in_err-finish-in-Ok-eq0.ensures.finishes)

pub returns-in_ok-feed-in-Ok-clause-read : goal.returns-in_ok-feed-in-Ok-clause-read
returns-in_ok-feed-in-Ok-clause-read g c =
    let rem = g.R.Read.remaining in
    read_on c.args.self.now c.feed.new.self (rem (inner_of c.args.reader.now)) (rem (inner_of c.read.new.self)) _ c.args.events.now.items c.feed.new.events.items
    c.in-Ok.ensures.bytes.0 c.in_ok-feed-in-Ok.ensures.feeds

pub returns-in_err-feed-in-Ok-clause-read : goal.returns-in_err-feed-in-Ok-clause-read
returns-in_err-feed-in-Ok-clause-read g c =
    let p = err_from_is_err_and c.from_residual-in_err-feed-in-Ok.result c.from_residual-in_err-feed-in-Ok.ensures.1 in
    let rem = g.R.Read.remaining in
    rw (p.1, p.2)
    (read_stop c.in_err-feed-in-Ok.field-0.0 c.args.self.now c.feed.new.self (rem (inner_of c.args.reader.now)) (rem (inner_of c.read.new.self)) _ c.args.events.now.items c.feed.new.events.items
    c.in-Ok.ensures.bytes.0 c.in_err-feed-in-Ok.ensures.feeds)

pub returns-in_err-feed-in-Ok-clause-counted : goal.returns-in_err-feed-in-Ok-clause-counted
returns-in_err-feed-in-Ok-clause-counted g c =
    let p = err_from_is_err_and c.from_residual-in_err-feed-in-Ok.result c.from_residual-in_err-feed-in-Ok.ensures.1 in
    rw (p.1, p.2, c.in-Ok.ensures.counted)
    (no_failed_read c.in_err-feed-in-Ok.field-0.0 _ c.feed.new.events.items (faults_of c.args.reader.now) (c.in_err-feed-in-Ok.ensures.feeds []))

pub returns-in-Err-clause-read : goal.returns-in-Err-clause-read
returns-in-Err-clause-read g c =
    let rem = g.R.Read.remaining in
    read_failed c.args.self.now c.args.self.now (rem (inner_of c.args.reader.now)) (rem (inner_of c.read.new.self)) c.args.events.now.items c.args.events.now.items refl c.in-Err.ensures.bytes refl

pub returns-in-Err-clause-counted : goal.returns-in-Err-clause-counted
returns-in-Err-clause-counted g c = (c.in-Err.ensures.counted ∙ more (faults_of c.args.reader.now) c.requires, refl)
