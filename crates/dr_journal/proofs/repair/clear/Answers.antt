use Rattle.std.proofs.Common.{◌-◌, ℕ, ap, length, arith, ◌∙◌}
use Rattle.std.proofs.lemmas.List.{length-replicate}
use Rattle.dr_journal.specs.Meaning.Format.{recovered}
use Rattle.dr_journal.specs.Calls.Journals.{StandsFor}
use Rattle.dr_journal.proofs.Repairs.{as_it_is, clear_crash, file_cleared, ends_within}
use Rattle.dr_journal.proofs.Moments.{no_call, one_write, write_and_sync}
use Rattle.dr_journal.proofs.repair.clear.Goals as goal

pub overflow_sub-len : goal.overflow_sub-len
overflow_sub-len g c = omega (arith, c.requires.end, c.requires.len, ends_within (g.D.Device.seen c.args.device.now) c.requires.journal)

pub overwrite-requires-clause-within : goal.overwrite-requires-clause-within
overwrite-requires-clause-within g c =
    let size = ap length c.in_ok-nothing.ensures in
    omega (arith, c.requires.end, c.requires.len, ends_within (g.D.Device.seen c.args.device.now) c.requires.journal, size, length-replicate {A = ℕ} (c.args.len - c.args.end) 0)

pub overwrite-requires-clause-left : goal.overwrite-requires-clause-left
overwrite-requires-clause-left g c f left =
    let size = ap length c.in_ok-nothing.ensures in
    omega (arith, ap length (c.requires.durable f left), c.requires.end, c.requires.len, ends_within (g.D.Device.seen c.args.device.now) c.requires.journal, size, length-replicate {A = ℕ} (c.args.len - c.args.end) 0)

pub returns-in_err-nothing-clause-any_moment : goal.returns-in_err-nothing-clause-any_moment
returns-in_err-nothing-clause-any_moment g c =
    let d = g.D.Device in
    let file = d.seen c.args.device.now in
    no_call d.moment d.left_since d.may_leave g.met.D.Device.only_now c.args.device.now (StandsFor (recovered file)) (as_it_is file _ c.requires.journal c.requires.durable)

pub returns-in_err-overwrite-clause-any_moment : goal.returns-in_err-overwrite-clause-any_moment
returns-in_err-overwrite-clause-any_moment g c =
    let d = g.D.Device in
    let s = c.requires in
    let file = d.seen c.args.device.now in
    let crash = clear_crash file _ s.journal s.durable c.args.end (c.args.len - c.args.end) s.end (omega (arith, s.len)) _ _ c.in_ok-nothing.ensures c.overwrite.ensures.crash in
    one_write d.moment d.left_since d.may_leave g.met.D.Device.only_now c.args.device.now (StandsFor (recovered file)) (as_it_is file _ s.journal s.durable)
    c.overwrite.new.self c.overwrite.ensures.time crash

pub returns-in_err-sync-clause-any_moment : goal.returns-in_err-sync-clause-any_moment
returns-in_err-sync-clause-any_moment g c =
    let d = g.D.Device in
    let s = c.requires in
    let file = d.seen c.args.device.now in
    let crash = clear_crash file _ s.journal s.durable c.args.end (c.args.len - c.args.end) s.end (omega (arith, s.len)) _ _ c.in_ok-nothing.ensures c.overwrite.ensures.crash in
    write_and_sync d.moment d.left_since d.may_leave g.met.D.Device.only_now c.args.device.now (StandsFor (recovered file)) (as_it_is file _ s.journal s.durable)
    c.overwrite.new.self c.overwrite.ensures.time crash c.sync.new.self c.sync.ensures.time c.sync.ensures.crash

pub returns-clause-any_moment : goal.returns-clause-any_moment
returns-clause-any_moment g c =
    let d = g.D.Device in
    let s = c.requires in
    let file = d.seen c.args.device.now in
    let crash = clear_crash file _ s.journal s.durable c.args.end (c.args.len - c.args.end) s.end (omega (arith, s.len)) _ _ c.in_ok-nothing.ensures c.overwrite.ensures.crash in
    write_and_sync d.moment d.left_since d.may_leave g.met.D.Device.only_now c.args.device.now (StandsFor (recovered file)) (as_it_is file _ s.journal s.durable)
    c.overwrite.new.self c.overwrite.ensures.time crash c.sync.new.self c.sync.ensures.time c.sync.ensures.crash

pub returns-clause-cleared : goal.returns-clause-cleared
returns-clause-cleared g c =
    let s = c.requires in
    let file = g.D.Device.seen c.args.device.now in
    c.sync.ensures.seen ∙ c.in_ok-overwrite.ensures.written ∙ file_cleared file _ s.journal s.durable c.args.end (c.args.len - c.args.end) s.end (omega (arith, s.len)) _ c.in_ok-nothing.ensures
