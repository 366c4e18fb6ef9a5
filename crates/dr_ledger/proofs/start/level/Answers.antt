use Rattle.std.proofs.Common.{◌≡◌, ◌++◌, ◌∙◌, Ok, ap, refl, sym}
use Rattle.std.proofs.lemmas.Result.{err_from_is_err_and}
use Rattle.dr_ledger.specs.Coming.{records_read, role_of, waiting_of}
use Rattle.dr_ledger.specs.declared.fault.LedgerFault.TheVariants.{Disk, Memory}
use Rattle.dr_ledger.specs.declared.start_fault.StartFault.TheVariants as start
use Rattle.dr_ledger.proofs.Comings.{says_all}
use Rattle.dr_ledger.proofs.Levels.{all_came, more_so_far, none_so_far, stops, stops_giving}
use Rattle.dr_ledger.proofs.Refusals.{levels_not, of_no_disk, stores_not}
use Rattle.dr_ledger.proofs.start.level.Goals as goal

pub loop-init : goal.loop-init
loop-init g c =
    let d = g.D.Device in
    record {
      at_rest = c.requires;
      disk = refl;
      only_read = λ is. is;
      role = refl;
      so_far = λ past level. none_so_far d.seen d.may_leave d.moment d.left_since g.met.D.Device.only_now c.args.journal.now c.args.rest.now c.args.accounts.now past level;
    }

pub returns-in_err-has_more-clause-levels : goal.returns-in_err-has_more-clause-levels
returns-in_err-has_more-clause-levels g c = λ past level.
    let d = g.D.Device in
    let so_far = c.loop.invariant.so_far past level in
    let come = so_far.level.comes in
    let p = err_from_is_err_and c.from_residual.result c.from_residual.ensures.1 in
    rw (p.1, p.2)
    (stops d.seen d.may_leave d.moment d.left_since c.in_err-has_more.field-0.0 c.args.journal.now c.loop.journal c.loop.rest c.has_more.new.self c.loop.accounts c.loop.accounts past (waiting_of c.loop.rest) so_far
    (c.in_err-has_more.ensures.first (past ++ so_far.came) come)
    (levels_not c.in_err-has_more.field-0.0 c.has_more.new.self (c.in_err-has_more.ensures.told (past ++ so_far.came) come (sym so_far.level.booked.count ∙ sym c.count.ensures))))

pub returns-in_err-has_more-clause-failed : goal.returns-in_err-has_more-clause-failed
returns-in_err-has_more-clause-failed g c = λ told.
    let p = err_from_is_err_and c.from_residual.result c.from_residual.ensures.1 in
    let here = p.1 in
    let same = p.2 in
    let disk : c.in_err-has_more.field-0.0 ≡ start.Ledger Disk = cc in
    absurd (of_no_disk c.in_err-has_more.field-0.0 (role_of c.loop.rest) c.in_err-has_more.ensures.of_file disk)

pub returns-then-not-branch-clause-levels : goal.returns-then-not-branch-clause-levels
returns-then-not-branch-clause-levels g c = λ past level.
    let d = g.D.Device in
    let so_far = c.loop.invariant.so_far past level in
    all_came d.seen d.may_leave d.moment d.left_since c.args.journal.now c.loop.journal c.loop.rest c.has_more.new.self c.loop.accounts past so_far
    (c.in_ok-has_more.ensures.come (past ++ so_far.came) so_far.level.comes) (c.in_ok-has_more.ensures.none (ap (λ b. Ok b) c.if-not-branch.true))

pub returns-in_err-give-clause-levels : goal.returns-in_err-give-clause-levels
returns-in_err-give-clause-levels g c = λ past level.
    let d = g.D.Device in
    let so_far = c.loop.invariant.so_far past level in
    let come = c.in_ok-has_more.ensures.come (past ++ so_far.came) so_far.level.comes in
    let p = err_from_is_err_and c.from_residual-in_err-give.result c.from_residual-in_err-give.ensures.1 in
    rw (p.1, p.2)
    (stops_giving d.seen d.may_leave d.moment d.left_since (start.Ledger c.in_err-give.field-0.0) c.args.journal.now c.loop.journal c.give.new.journal c.loop.rest c.has_more.new.self c.give.new.rest c.loop.accounts
    c.give.new.accounts past so_far come c.give.ensures.read (c.give.ensures.any_moment (past ++ so_far.came) (record { holds = so_far.level.holds; comes = come; booked = so_far.level.booked }))
    (stores_not c.in_err-give.field-0.0 c.give.new.rest c.in_err-give.ensures.of_store))

pub loop-preserved : goal.loop-preserved
loop-preserved g c =
    let d = g.D.Device in
    let inv = c.loop.invariant in
    record {
      at_rest = c.in_ok-give.ensures.at_rest;
      disk = c.in_ok-give.ensures.reliable ∙ inv.disk;
      only_read = λ is. c.give.ensures.only_read (c.has_more.ensures.only_read (inv.only_read is));
      role = c.give.ensures.role ∙ c.has_more.ensures.role ∙ inv.role;
      so_far = λ past level.
          let so_far = inv.so_far past level in
          let come = c.in_ok-has_more.ensures.come (past ++ so_far.came) so_far.level.comes in
          more_so_far d.seen d.may_leave d.moment d.left_since c.args.journal.now c.loop.journal c.give.new.journal c.loop.rest c.has_more.new.self c.give.new.rest c.loop.accounts c.give.new.accounts past so_far
          (c.give.ensures.any_moment (past ++ so_far.came) (record { holds = so_far.level.holds; comes = come; booked = so_far.level.booked }))
          (c.in_ok-give.ensures.gives (past ++ so_far.came) (record { holds = so_far.level.holds; comes = come; booked = so_far.level.booked }));
    }

pub returns-clause-levels : goal.returns-clause-levels
returns-clause-levels g c = λ past level.
    let d = g.D.Device in
    let so_far = c.loop.invariant.so_far past level in
    let waited = waiting_of c.loop.rest in
    stops d.seen d.may_leave d.moment d.left_since (start.Ledger Memory) c.args.journal.now c.loop.journal c.loop.rest c.loop.rest c.loop.accounts c.loop.accounts past waited so_far
    (says_all (records_read c.loop.rest) (records_read c.loop.rest) ((past ++ so_far.came) ++ waited) so_far.level.comes refl) tt
