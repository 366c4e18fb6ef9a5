use Rattle.std.proofs.Common.{inl, subst}
use Rattle.dr_journal.specs.Calls.Journals.{StandsFor, IsBeforeOrAfter, CrashLeaves, bytes_of, records_of}
use Rattle.dr_journal.proofs.Crash.{stays}
use Rattle.dr_journal.proofs.Moments.{no_call, weaker, and_then}
use Rattle.dr_journal.proofs.journal.Journal.append.Goals as goal

pub returns-in_err-bytes-clause-any_moment : goal.returns-in_err-bytes-clause-any_moment
returns-in_err-bytes-clause-any_moment g c =
    let d = g.D.Device in
    let was = c.args.self.now in
    no_call d.moment d.left_since d.may_leave g.met.D.Device.only_now was.device (IsBeforeOrAfter (records_of d.seen was) (bytes_of c.args.batch.now)) (λ f left. inl (stays d.seen d.may_leave was c.requires f left))

pub returns-in_err-reserve-clause-any_moment : goal.returns-in_err-reserve-clause-any_moment
returns-in_err-reserve-clause-any_moment g c =
    let d = g.D.Device in
    let was = c.args.self.now in
    weaker d.moment d.left_since was.device c.reserve.new.self.device (StandsFor (records_of d.seen was)) (IsBeforeOrAfter (records_of d.seen was) (bytes_of c.args.batch.now)) c.reserve.ensures.any_moment (λ f s. inl s)

pub returns-clause-any_moment : goal.returns-clause-any_moment
returns-clause-any_moment g c =
    let d = g.D.Device in
    let was = c.args.self.now in
    let mid = c.reserve.new.self in
    let batch = bytes_of c.args.batch.now in
    let first = weaker d.moment d.left_since was.device mid.device (StandsFor (records_of d.seen was)) (IsBeforeOrAfter (records_of d.seen was) batch) c.reserve.ensures.any_moment (λ f s. inl s) in
    let second = subst (λ r. CrashLeaves d.moment d.left_since mid c.write.new.self (IsBeforeOrAfter r batch)) c.in_ok-reserve.ensures.same c.write.ensures.any_moment in
    and_then d.moment d.left_since was.device mid.device c.write.new.self.device (IsBeforeOrAfter (records_of d.seen was) batch) _ first second (λ f s. s)
