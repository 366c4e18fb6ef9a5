use Rattle.std.proofs.Common.{◌+◌, ◌++◌, ◌∙◌, refl, sym, ap, subst}
use Rattle.dr_journal.specs.Meaning.Disk.{Only}
use Rattle.dr_journal.specs.Calls.Journals.{StandsFor, records_of}
use Rattle.dr_journal.proofs.Crash.{stays, grow_crash, grown_rests}
use Rattle.dr_journal.proofs.Moments.{no_call, one_write, write_and_sync}
use Rattle.dr_journal.proofs.journal.Journal.grow.Goals as goal

pub returns-in_err-ahead-clause-any_moment : goal.returns-in_err-ahead-clause-any_moment
returns-in_err-ahead-clause-any_moment g c =
    let d = g.D.Device in
    let was = c.args.self.now in
    no_call d.moment d.left_since d.may_leave g.met.D.Device.only_now was.device (StandsFor (records_of d.seen was)) (stays d.seen d.may_leave was c.requires.at_rest)

pub returns-in_err-extend-clause-any_moment : goal.returns-in_err-extend-clause-any_moment
returns-in_err-extend-clause-any_moment g c =
    let d = g.D.Device in
    let was = c.args.self.now in
    let crash = grow_crash d.seen d.may_leave was c.requires.at_rest _ _ c.extend.ensures.crash in
    one_write d.moment d.left_since d.may_leave g.met.D.Device.only_now was.device (StandsFor (records_of d.seen was)) (stays d.seen d.may_leave was c.requires.at_rest)
    c.extend.new.self c.extend.ensures.time crash

pub returns-in_err-sync-clause-any_moment : goal.returns-in_err-sync-clause-any_moment
returns-in_err-sync-clause-any_moment g c =
    let d = g.D.Device in
    let was = c.args.self.now in
    let crash = grow_crash d.seen d.may_leave was c.requires.at_rest _ _ c.extend.ensures.crash in
    write_and_sync d.moment d.left_since d.may_leave g.met.D.Device.only_now was.device (StandsFor (records_of d.seen was)) (stays d.seen d.may_leave was c.requires.at_rest)
    c.extend.new.self c.extend.ensures.time crash c.sync.new.self c.sync.ensures.time c.sync.ensures.crash

pub returns-clause-any_moment : goal.returns-clause-any_moment
returns-clause-any_moment g c =
    let d = g.D.Device in
    let was = c.args.self.now in
    let crash = grow_crash d.seen d.may_leave was c.requires.at_rest _ _ c.extend.ensures.crash in
    write_and_sync d.moment d.left_since d.may_leave g.met.D.Device.only_now was.device (StandsFor (records_of d.seen was)) (stays d.seen d.may_leave was c.requires.at_rest)
    c.extend.new.self c.extend.ensures.time crash c.sync.new.self c.sync.ensures.time c.sync.ensures.crash

pub returns-clause-at_rest : goal.returns-clause-at_rest
returns-clause-at_rest g c =
    let d = g.D.Device in
    let was = c.args.self.now in
    let now_seen = c.sync.ensures.seen ∙ c.in_ok-extend.ensures.extended ∙ ap (λ z. d.seen was.device ++ z) c.in_ok-ahead.ensures in
    let durable = subst (λ f. Only f (d.may_leave c.sync.new.self)) (sym c.sync.ensures.seen) c.in_ok-sync.ensures.durable in
    (grown_rests d.seen d.may_leave was c.requires.at_rest c.args.n (record { device = c.sync.new.self; end = was.end; len = was.len + c.args.n }) now_seen refl refl durable).0

pub returns-clause-same : goal.returns-clause-same
returns-clause-same g c =
    let d = g.D.Device in
    let was = c.args.self.now in
    let now_seen = c.sync.ensures.seen ∙ c.in_ok-extend.ensures.extended ∙ ap (λ z. d.seen was.device ++ z) c.in_ok-ahead.ensures in
    let durable = subst (λ f. Only f (d.may_leave c.sync.new.self)) (sym c.sync.ensures.seen) c.in_ok-sync.ensures.durable in
    (grown_rests d.seen d.may_leave was c.requires.at_rest c.args.n (record { device = c.sync.new.self; end = was.end; len = was.len + c.args.n }) now_seen refl refl durable).1
