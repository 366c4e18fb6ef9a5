use Rattle.std.proofs.Common.{◌++◌, ◌∙◌, arith, subst, sym}
use Rattle.std.proofs.lemmas.Result.{err_from_is_err_and}
use Rattle.dr_ledger.specs.Coming.{records_read}
use Rattle.dr_ledger.specs.Starting.{AreBooked}
use Rattle.dr_ledger.proofs.Agreeing.{differ_there, matched, not_so}
use Rattle.dr_ledger.proofs.start.match_waiting.Goals as goal

pub returns-then-not-are_same-clause-agrees : goal.returns-then-not-are_same-clause-agrees
returns-then-not-are_same-clause-agrees c = λ past taken.
    let w = c.args.journal.now.waiting in
    let v = c.args.replica.now.waiting in
    let own = w.ok.0 in
    let copied = v.ok.0 in
    let a = c.len.ensures in
    let b = c.len-2.ensures in
    let least = c.min-n.ensures in
    let fronts = c.deref.ensures.value ∙ c.in_ok-rest.ensures.items in
    let firsts = c.deref-2.ensures.value ∙ c.in_ok-other_rest.ensures.items in
    differ_there (records_read c.args.journal.now) (records_read c.args.replica.now) past w.items v.items c.min-n.result taken.journal taken.replica
    (omega (arith, own, a, b, least)) (omega (arith, copied, a, b, least))
    (λ same. not_so c.are_same.result _ c.are_same.ensures c.if-not-are_same.true (fronts ∙ same ∙ sym firsts))

pub returns-in_err-book-clause-agrees : goal.returns-in_err-book-clause-agrees
returns-in_err-book-clause-agrees c = λ past taken.
    let p = err_from_is_err_and c.from_residual-in_err-book.result c.from_residual-in_err-book.ensures.1 in
    rw (p.1, p.2, c.in_err-book.ensures.memory) tt

pub returns-clause-agrees : goal.returns-clause-agrees
returns-clause-agrees c = λ past taken.
    let w = c.args.journal.now.waiting in
    let v = c.args.replica.now.waiting in
    let same = sym c.deref.ensures.value ∙ c.are_same.ensures.0 c.if-not-are_same.false ∙ c.deref-2.ensures.value in
    let both = matched (records_read c.args.journal.now) (records_read c.args.replica.now) past w.items v.items c.split_off.new.self.items c.split_off-2.new.self.items c.in_ok-rest.rest.items c.in_ok-other_rest.other_rest.items c.min-n.result
    taken.journal taken.replica c.in_ok-rest.ensures.items c.in_ok-rest.ensures.tail c.in_ok-other_rest.ensures.items c.in_ok-other_rest.ensures.tail same in (
      c.split_off.new.self.items,
      record { journal = both.0; replica = both.1; booked = subst (λ l. AreBooked c.book.new.self (past ++ l)) c.deref-3.ensures.value (c.in_ok-book.ensures.booked past taken.booked) },
    )
