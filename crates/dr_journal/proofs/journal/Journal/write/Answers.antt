use Rattle.std.proofs.Common.{arith, rules, ◌≡◌, ◌+◌, ◌∙◌, length, refl, sym, ap, inl, subst}
use Rattle.dr_journal.specs.Meaning.Disk.{Only}
use Rattle.dr_journal.specs.Calls.Journals.{IsBeforeOrAfter, records_of, bytes_of}
use Rattle.dr_journal.proofs.Crash.{stays, write_crash, written_rests}
use Rattle.dr_journal.proofs.Moments.{one_write, write_and_sync}
use Rattle.dr_journal.proofs.journal.Journal.write.Goals as goal

pub overwrite-requires-clause-left : goal.overwrite-requires-clause-left
overwrite-requires-clause-left g c f left =
    let s = c.requires in
    omega (arith, ap length (s.at_rest.durable f left), s.at_rest.len, s.room)

pub returns-in_err-overwrite-clause-any_moment : goal.returns-in_err-overwrite-clause-any_moment
returns-in_err-overwrite-clause-any_moment g c =
    let d = g.D.Device in
    let was = c.args.self.now in
    let s = c.requires in
    let crash = write_crash d.seen d.may_leave was s.at_rest (bytes_of c.args.batch.now) c.args.bytes.now.items s.bytes s.room _ c.overwrite.ensures.crash in
    one_write d.moment d.left_since d.may_leave g.met.D.Device.only_now was.device (IsBeforeOrAfter (records_of d.seen was) (bytes_of c.args.batch.now)) (λ f left. inl (stays d.seen d.may_leave was s.at_rest f left))
    c.overwrite.new.self c.overwrite.ensures.time crash

pub returns-in_err-sync-clause-any_moment : goal.returns-in_err-sync-clause-any_moment
returns-in_err-sync-clause-any_moment g c =
    let d = g.D.Device in
    let was = c.args.self.now in
    let s = c.requires in
    let crash = write_crash d.seen d.may_leave was s.at_rest (bytes_of c.args.batch.now) c.args.bytes.now.items s.bytes s.room _ c.overwrite.ensures.crash in
    write_and_sync d.moment d.left_since d.may_leave g.met.D.Device.only_now was.device (IsBeforeOrAfter (records_of d.seen was) (bytes_of c.args.batch.now)) (λ f left. inl (stays d.seen d.may_leave was s.at_rest f left))
    c.overwrite.new.self c.overwrite.ensures.time crash c.sync.new.self c.sync.ensures.time c.sync.ensures.crash

pub returns-clause-any_moment : goal.returns-clause-any_moment
returns-clause-any_moment g c =
    let d = g.D.Device in
    let was = c.args.self.now in
    let s = c.requires in
    let crash = write_crash d.seen d.may_leave was s.at_rest (bytes_of c.args.batch.now) c.args.bytes.now.items s.bytes s.room _ c.overwrite.ensures.crash in
    write_and_sync d.moment d.left_since d.may_leave g.met.D.Device.only_now was.device (IsBeforeOrAfter (records_of d.seen was) (bytes_of c.args.batch.now)) (λ f left. inl (stays d.seen d.may_leave was s.at_rest f left))
    c.overwrite.new.self c.overwrite.ensures.time crash c.sync.new.self c.sync.ensures.time c.sync.ensures.crash

pub returns-clause-at_rest : goal.returns-clause-at_rest
returns-clause-at_rest g c =
    let d = g.D.Device in
    let was = c.args.self.now in
    let s = c.requires in
    let now_seen = c.sync.ensures.seen ∙ c.in_ok-overwrite.ensures.written in
    let durable = subst (λ f. Only f (d.may_leave c.sync.new.self)) (sym c.sync.ensures.seen) c.in_ok-sync.ensures.durable in
    let counted : c.len.result ≡ length c.args.bytes.now.items = search rules in
    (written_rests d.seen d.may_leave was s.at_rest (bytes_of c.args.batch.now) c.args.bytes.now.items s.bytes s.room
    (record { device = c.sync.new.self; end = was.end + c.len.result; len = was.len }) now_seen (ap (λ n. was.end + n) counted) refl durable).0

pub returns-clause-acknowledged : goal.returns-clause-acknowledged
returns-clause-acknowledged g c =
    let d = g.D.Device in
    let was = c.args.self.now in
    let s = c.requires in
    let now_seen = c.sync.ensures.seen ∙ c.in_ok-overwrite.ensures.written in
    let durable = subst (λ f. Only f (d.may_leave c.sync.new.self)) (sym c.sync.ensures.seen) c.in_ok-sync.ensures.durable in
    let counted : c.len.result ≡ length c.args.bytes.now.items = search rules in
    (written_rests d.seen d.may_leave was s.at_rest (bytes_of c.args.batch.now) c.args.bytes.now.items s.bytes s.room
    (record { device = c.sync.new.self; end = was.end + c.len.result; len = was.len }) now_seen (ap (λ n. was.end + n) counted) refl durable).1
