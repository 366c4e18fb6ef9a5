use Rattle.std.proofs.Common.{ℕ, ◌≡◌, ◌≤◌, ◌<◌, ◌+◌, ◌∙◌, ap, arith, Result, Ok, Err, Option, OnErr, OnOk, List, [], length, refl, subst}
use Rattle.std.proofs.lemmas.Result.{err_from_is_err_and}
use Rattle.dr_meaning.specs.declared.command.Claimed.{Claimed}
use Rattle.dr_meaning.specs.Calls.Calling.{PublishesStretch, SomeCalls}
use Rattle.dr_meaning.specs.Calls.Ends.{Sent, WhereShown, WritesAll, PublishAnswers, Publishes}
use Rattle.dr_meaning.specs.declared.ends.Trouble.{Trouble}
use Rattle.dr_meaning.specs.declared.ends.Trouble.TheVariants.{Memory}
use Rattle.dr_workers.specs.Meaning.Work.{Adds, Part, Writing}
use Rattle.dr_workers.proofs.Closing.{leaves_nothing_open, publishing}
use Rattle.dr_workers.specs.Inside.Retries.{AfterClaim, SendsPart, WriteCalls, tried_of}
use Rattle.dr_workers.proofs.Sending.{IsClaimed, part_claimed, part_unclaimed, written_and_published, written_in_part}
use Rattle.dr_workers.proofs.Writings.{Opens, adds_nothing, claim_adds, sends, writes_as}
use Rattle.dr_workers.specs.Calls.Waits.{Provides}
use Rattle.dr_workers.proofs.Biding.{with_patience, with_room}
use Rattle.dr_workers.proofs.Calling.{picked}
use Rattle.dr_workers.proofs.producer.send.Goals as goal

-- where the publication succeeds
sent : {E : Type 0} (r : Result (Unit {0}) Trouble) (events : List E) (c : Claimed) → c.hi + 1 ≡ c.lo + length events → (o p q s : Option (Sent E))
    → WhereShown (Opens (length events) c) o p → WhereShown (Writing c.lo events (length events)) p q
    → OnOk r (PublishAnswers q c.lo c.hi (Ok tt)) → OnOk r (WhereShown (Publishes c.lo c.hi (Ok tt)) q s) → OnOk r (WhereShown (Adds events) o s)
sent (Ok done) events c is o p q s h k answer l = sends events c is o p q s h k answer l
sent (Err fault) events c is o p q s h k answer l = l

where_ok : {E : Type 0} (shown : Option (Sent E)) (lo hi : ℕ) (r : Result (Unit {0}) Trouble) → PublishAnswers shown lo hi r
    → OnOk r (PublishAnswers shown lo hi (Ok tt))
where_ok shown lo hi (Ok done) h = h
where_ok shown lo hi (Err trouble) h = tt

pub returns-clause-sent : goal.returns-clause-sent
returns-clause-sent g c =
    sent c.publish.result c.args.events.now c.in_ok-lo.field-0 c.in_ok-lo.ensures.stretch.1 _ _ _ _ c.in_ok-lo.ensures.claimed
    (writes_as c.in_ok-lo.field-0.lo c.args.events.now _ _ c.in_ok-write_all.ensures.written)
    (where_ok _ _ _ c.publish.result c.publish.ensures.answer) c.publish.ensures.published

-- where it fails
unsent : {E : Type 0} (r : Result (Unit {0}) Trouble) (events : List E) (c : Claimed) → (o p q s : Option (Sent E)) → WhereShown (Opens (length events) c) o p
    → WhereShown (WritesAll c.lo events) p q → OnErr r (s ≡ q) → OnErr r (WhereShown (Adds []) o s)
unsent (Ok done) events c o p q s h k same = same
unsent (Err fault) events c o p q s h k same = claim_adds (length events) c o p s h (adds_nothing c.lo events p q s k same)

pub returns-clause-fault : goal.returns-clause-fault
returns-clause-fault g c =
    unsent c.publish.result c.args.events.now c.in_ok-lo.field-0 _ _ _ _ c.in_ok-lo.ensures.claimed c.in_ok-write_all.ensures.written c.publish.ensures.fault

-- whatever the publication's answer

pub returns-clause-open : goal.returns-clause-open
returns-clause-open g c =
    let claim = c.in_ok-lo in
    leaves_nothing_open c.args.events.now claim.field-0 claim.ensures.stretch.0 claim.ensures.stretch.1 c.publish.result c.publish.ensures.waits
    _ _ _ _ claim.ensures.claimed (writes_as claim.field-0.lo c.args.events.now _ _ c.in_ok-write_all.ensures.written) c.publish.ensures.answer
    (publishing claim.field-0 c.publish.result _ _ c.publish.ensures.published c.publish.ensures.fault)

-- what was called

-- a stretch that is claimed for some events is of one at least
some_claimed : {E : Type 0} (events : List E) (c : Claimed) → c.lo ≤ c.hi → c.hi + 1 ≡ c.lo + length events → 0 < length events
some_claimed events c ordered long = omega arith

pub returns-in_err-lo-clause-sends : goal.returns-in_err-lo-clause-sends
returns-in_err-lo-clause-sends g c =
    let does = Provides g.I.Inlet.does g.P.Patience.waits g.P.Patience.finds in
    let a = with_room c.args.inlet.now c.args.patience.now c.args.room.now in
    let b = with_room c.claim.new.inlet c.claim.new.patience c.claim.new.room in
    let may = g.G.Gate.may_stop c.args.gate.now in
    let must = g.G.Gate.must_stop c.args.gate.now in
    let events = c.args.events.now in
    let why = c.in_err-lo.field-0.0 in
    let failed : c.claim.result ≡ Err why = c.in_err-lo.was in
    let p = err_from_is_err_and c.from_residual.result c.from_residual.ensures.1 in
    let same : Err why ≡ c.from_residual.result = (let e = p.1 in let f = p.2 in cc) in
    subst (λ r. SomeCalls does a b (SendsPart events may must c.args.passages.now c.args.passages.now r)) same
    (part_unclaimed does events a b may must _ why (λ full. c.claim.ensures.waits (failed ∙ ap (λ t. Err t) full))
    (subst (λ r. SomeCalls does a b (IsClaimed (length events) r)) failed c.claim.ensures.called))

pub returns-in_err-write_all-clause-sends : goal.returns-in_err-write_all-clause-sends
returns-in_err-write_all-clause-sends g c =
    let does = Provides g.I.Inlet.does g.P.Patience.waits g.P.Patience.finds in
    let a = with_room c.args.inlet.now c.args.patience.now c.args.room.now in
    let b = with_room c.claim.new.inlet c.claim.new.patience c.claim.new.room in
    let d = with_room c.write_all.new.inlet c.claim.new.patience c.claim.new.room in
    let events = c.args.events.now in
    let claim = c.in_ok-lo in
    let why = c.in_err-write_all.field-0.0 in
    let p = err_from_is_err_and c.from_residual-in_err-write_all.result c.from_residual-in_err-write_all.ensures.1 in
    let failed : c.write_all.result ≡ Err why = c.in_err-write_all.was in
    let same : Err why ≡ c.from_residual-in_err-write_all.result = (let e = p.1 in let f = p.2 in cc) in
    let part : Part _ = record { stretch = claim.field-0; events = events } in
    let writes = with_patience g.I.Inlet.does g.P.Patience.waits g.P.Patience.finds c.claim.new.patience c.claim.new.room c.claim.new.inlet
    c.write_all.new.inlet (WriteCalls claim.field-0.lo events c.write_all.result) c.write_all.ensures.called c.write_all.ensures.called.holds.tries in
    part_claimed does events claim.field-0 a b d (g.G.Gate.may_stop c.args.gate.now) (g.G.Gate.must_stop c.args.gate.now) _ _
    c.from_residual-in_err-write_all.result (some_claimed events claim.field-0 claim.ensures.stretch.0 claim.ensures.stretch.1)
    (subst (λ r. SomeCalls does a b (IsClaimed (length events) r)) claim.was c.claim.ensures.called)
    (subst (λ r. SomeCalls does b d (AfterClaim part r)) same
    (written_in_part does part b d why (subst (λ r. SomeCalls does b d (WriteCalls claim.field-0.lo events r)) failed writes))) c.pass.ensures

pub returns-clause-sends : goal.returns-clause-sends
returns-clause-sends g c =
    let does = Provides g.I.Inlet.does g.P.Patience.waits g.P.Patience.finds in
    let a = with_room c.args.inlet.now c.args.patience.now c.args.room.now in
    let b = with_room c.claim.new.inlet c.claim.new.patience c.claim.new.room in
    let d = with_room c.write_all.new.inlet c.claim.new.patience c.claim.new.room in
    let e = with_room c.publish.new.inlet c.claim.new.patience c.claim.new.room in
    let events = c.args.events.now in
    let claim = c.in_ok-lo in
    let part : Part _ = record { stretch = claim.field-0; events = events } in
    let writes = with_patience g.I.Inlet.does g.P.Patience.waits g.P.Patience.finds c.claim.new.patience c.claim.new.room c.claim.new.inlet
    c.write_all.new.inlet (WriteCalls claim.field-0.lo events c.write_all.result) c.write_all.ensures.called c.write_all.ensures.called.holds.tries in
    let lo = claim.field-0.lo in
    let hi = claim.field-0.hi in
    let none = picked tried_of (PublishesStretch lo hi (Err Memory)) (PublishesStretch lo hi c.publish.result) c.publish.ensures.called.calls
    c.publish.ensures.called.holds refl in
    part_claimed does events claim.field-0 a b e (g.G.Gate.may_stop c.args.gate.now) (g.G.Gate.must_stop c.args.gate.now) _ _ c.publish.result
    (some_claimed events claim.field-0 claim.ensures.stretch.0 claim.ensures.stretch.1)
    (subst (λ r. SomeCalls does a b (IsClaimed (length events) r)) claim.was c.claim.ensures.called)
    (written_and_published does part b d e c.publish.result c.publish.ensures.waits
    (subst (λ r. SomeCalls does b d (WriteCalls claim.field-0.lo events r)) c.in_ok-write_all.was writes)
    (with_patience g.I.Inlet.does g.P.Patience.waits g.P.Patience.finds c.claim.new.patience c.claim.new.room c.write_all.new.inlet c.publish.new.inlet _
    c.publish.ensures.called none))
    c.pass.ensures
