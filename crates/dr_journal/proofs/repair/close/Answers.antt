use Rattle.std.proofs.Common.{ap, length, ◌++◌, ◌∙◌}
use Rattle.dr_journal.specs.Meaning.Format.{recovered}
use Rattle.dr_journal.specs.Calls.Journals.{StandsFor}
use Rattle.dr_journal.proofs.Repairs.{as_it_is, close_crash, file_closed}
use Rattle.dr_journal.proofs.Moments.{no_call, one_write, write_and_sync}
use Rattle.dr_journal.proofs.repair.close.Goals as goal

pub returns-in_err-zero-clause-any_moment : goal.returns-in_err-zero-clause-any_moment
returns-in_err-zero-clause-any_moment g c =
    let d = g.D.Device in
    let file = d.seen c.args.device.now in
    no_call d.moment d.left_since d.may_leave g.met.D.Device.only_now c.args.device.now (StandsFor (recovered file)) (as_it_is file _ c.requires.journal c.requires.durable)

pub returns-in_err-extend-clause-any_moment : goal.returns-in_err-extend-clause-any_moment
returns-in_err-extend-clause-any_moment g c =
    let d = g.D.Device in
    let file = d.seen c.args.device.now in
    let crash = close_crash file _ c.requires.journal c.requires.durable c.requires.whole _ _ (ap length c.in_ok-zero.ensures) c.extend.ensures.crash in
    one_write d.moment d.left_since d.may_leave g.met.D.Device.only_now c.args.device.now (StandsFor (recovered file)) (as_it_is file _ c.requires.journal c.requires.durable)
    c.extend.new.self c.extend.ensures.time crash

pub returns-in_err-sync-clause-any_moment : goal.returns-in_err-sync-clause-any_moment
returns-in_err-sync-clause-any_moment g c =
    let d = g.D.Device in
    let file = d.seen c.args.device.now in
    let crash = close_crash file _ c.requires.journal c.requires.durable c.requires.whole _ _ (ap length c.in_ok-zero.ensures) c.extend.ensures.crash in
    write_and_sync d.moment d.left_since d.may_leave g.met.D.Device.only_now c.args.device.now (StandsFor (recovered file)) (as_it_is file _ c.requires.journal c.requires.durable)
    c.extend.new.self c.extend.ensures.time crash c.sync.new.self c.sync.ensures.time c.sync.ensures.crash

pub returns-clause-any_moment : goal.returns-clause-any_moment
returns-clause-any_moment g c =
    let d = g.D.Device in
    let file = d.seen c.args.device.now in
    let crash = close_crash file _ c.requires.journal c.requires.durable c.requires.whole _ _ (ap length c.in_ok-zero.ensures) c.extend.ensures.crash in
    write_and_sync d.moment d.left_since d.may_leave g.met.D.Device.only_now c.args.device.now (StandsFor (recovered file)) (as_it_is file _ c.requires.journal c.requires.durable)
    c.extend.new.self c.extend.ensures.time crash c.sync.new.self c.sync.ensures.time c.sync.ensures.crash

pub returns-clause-closed : goal.returns-clause-closed
returns-clause-closed g c =
    let file = g.D.Device.seen c.args.device.now in
    c.sync.ensures.seen ∙ c.in_ok-extend.ensures.extended ∙ ap (λ z. file ++ z) c.in_ok-zero.ensures ∙ file_closed file _ c.requires.journal c.requires.durable c.requires.whole
