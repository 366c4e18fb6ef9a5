use Rattle.std.proofs.Common.{◌++◌, ◌∙◌, refl, ap, arith, drop, [], ◌∷◌, subst, sym}
use Rattle.dr_journal.specs.Meaning.Disk.{Only}
use Rattle.dr_journal.specs.Meaning.Format.{header}
use Rattle.dr_journal.specs.Calls.Opening.{StandsForTheSame}
use Rattle.dr_journal.proofs.Crash.{rests}
use Rattle.dr_journal.proofs.Repairs.{short, still_new, begun, begin_crash, nothing}
use Rattle.dr_journal.proofs.Moments.{no_call, one_write, write_and_sync}
use Rattle.dr_journal.proofs.repair.begin.Goals as goal

pub rest_of_header-requires : goal.rest_of_header-requires
rest_of_header-requires g c = omega (arith, short (g.D.Device.seen c.args.device.now) c.requires.new, c.requires.len)

pub returns-in_err-rest-clause-any_moment : goal.returns-in_err-rest-clause-any_moment
returns-in_err-rest-clause-any_moment g c =
    let d = g.D.Device in
    let s = c.requires in
    let file = d.seen c.args.device.now in
    no_call d.moment d.left_since d.may_leave g.met.D.Device.only_now c.args.device.now (StandsForTheSame file) (still_new file s.new _ s.durable)

pub returns-in_err-extend-clause-any_moment : goal.returns-in_err-extend-clause-any_moment
returns-in_err-extend-clause-any_moment g c =
    let d = g.D.Device in
    let s = c.requires in
    let file = d.seen c.args.device.now in
    let rest_is = c.in_ok-rest.ensures ∙ ap (λ n. drop n header ++ 0 ∷ []) s.len in
    let crash = begin_crash file s.new c.in_ok-rest.rest.items rest_is _ _ s.durable c.extend.ensures.crash in
    one_write d.moment d.left_since d.may_leave g.met.D.Device.only_now c.args.device.now (StandsForTheSame file) (still_new file s.new _ s.durable)
    c.extend.new.self c.extend.ensures.time crash

pub returns-in_err-sync-clause-any_moment : goal.returns-in_err-sync-clause-any_moment
returns-in_err-sync-clause-any_moment g c =
    let d = g.D.Device in
    let s = c.requires in
    let file = d.seen c.args.device.now in
    let rest_is = c.in_ok-rest.ensures ∙ ap (λ n. drop n header ++ 0 ∷ []) s.len in
    let crash = begin_crash file s.new c.in_ok-rest.rest.items rest_is _ _ s.durable c.extend.ensures.crash in
    write_and_sync d.moment d.left_since d.may_leave g.met.D.Device.only_now c.args.device.now (StandsForTheSame file) (still_new file s.new _ s.durable)
    c.extend.new.self c.extend.ensures.time crash c.sync.new.self c.sync.ensures.time c.sync.ensures.crash

pub returns-clause-any_moment : goal.returns-clause-any_moment
returns-clause-any_moment g c =
    let d = g.D.Device in
    let s = c.requires in
    let file = d.seen c.args.device.now in
    let rest_is = c.in_ok-rest.ensures ∙ ap (λ n. drop n header ++ 0 ∷ []) s.len in
    let crash = begin_crash file s.new c.in_ok-rest.rest.items rest_is _ _ s.durable c.extend.ensures.crash in
    write_and_sync d.moment d.left_since d.may_leave g.met.D.Device.only_now c.args.device.now (StandsForTheSame file) (still_new file s.new _ s.durable)
    c.extend.new.self c.extend.ensures.time crash c.sync.new.self c.sync.ensures.time c.sync.ensures.crash

pub returns-clause-at_rest : goal.returns-clause-at_rest
returns-clause-at_rest g c =
    let d = g.D.Device in
    let s = c.requires in
    let file = d.seen c.args.device.now in
    let rest_is = c.in_ok-rest.ensures ∙ ap (λ n. drop n header ++ 0 ∷ []) s.len in
    let now_seen = c.sync.ensures.seen ∙ c.in_ok-extend.ensures.extended ∙ begun file s.new c.in_ok-rest.rest.items rest_is in
    let durable = subst (λ f. Only f (d.may_leave c.sync.new.self)) (sym c.sync.ensures.seen) c.in_ok-sync.ensures.durable in
    let all = rests d.seen d.may_leave (record { device = c.sync.new.self; end = 8; len = 9 }) [] 1 refl now_seen refl refl (omega arith) durable in
    all.0

pub returns-clause-same : goal.returns-clause-same
returns-clause-same g c =
    let d = g.D.Device in
    let s = c.requires in
    let file = d.seen c.args.device.now in
    let rest_is = c.in_ok-rest.ensures ∙ ap (λ n. drop n header ++ 0 ∷ []) s.len in
    let now_seen = c.sync.ensures.seen ∙ c.in_ok-extend.ensures.extended ∙ begun file s.new c.in_ok-rest.rest.items rest_is in
    let durable = subst (λ f. Only f (d.may_leave c.sync.new.self)) (sym c.sync.ensures.seen) c.in_ok-sync.ensures.durable in
    let all = rests d.seen d.may_leave (record { device = c.sync.new.self; end = 8; len = 9 }) [] 1 refl now_seen refl refl (omega arith) durable in
    all.1 ∙ sym (nothing file s.new file (omega (arith, short file s.new)))
