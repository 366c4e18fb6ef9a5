use Rattle.std.proofs.Common.{◌++◌, ◌∙◌, Ok, [], ap, refl, sym}
use Rattle.std.proofs.lemmas.Result.{err_from_is_err_and}
use Rattle.dr_ledger.proofs.Comings.{books_on, books_none}
use Rattle.dr_ledger.proofs.start.book_all.Goals as goal

pub loop-init : goal.loop-init
loop-init c = record { only_read = λ is. is; role = refl; so_far = λ past taken. ([], books_none c.args.coming.now c.args.accounts.now past taken) }

pub returns-in_err-has_more-clause-books : goal.returns-in_err-has_more-clause-books
returns-in_err-has_more-clause-books c = λ past taken.
    let so_far = c.loop.invariant.so_far past taken in
    let p = err_from_is_err_and c.from_residual.result c.from_residual.ensures.1 in
    rw (p.1, p.2) (c.in_err-has_more.ensures.told (past ++ so_far.0) so_far.1.come (sym so_far.1.booked.count ∙ sym c.count.ensures))

pub returns-then-not-branch-clause-books : goal.returns-then-not-branch-clause-books
returns-then-not-branch-clause-books c = λ past taken.
    let so_far = c.loop.invariant.so_far past taken in (
      so_far.0,
      record { come = c.in_ok-has_more.ensures.come (past ++ so_far.0) so_far.1.come; booked = so_far.1.booked },
      c.in_ok-has_more.ensures.none (ap (λ b. Ok b) c.if-not-branch.true),
    )

pub returns-in_err-book-clause-books : goal.returns-in_err-book-clause-books
returns-in_err-book-clause-books c = λ past taken.
    let p = err_from_is_err_and c.from_residual-in_err-book.result c.from_residual-in_err-book.ensures.1 in
    rw (p.1, p.2, c.in_err-book.ensures.memory) tt

pub loop-preserved : goal.loop-preserved
loop-preserved c =
    let inv = c.loop.invariant in
    record {
      only_read = λ is. c.has_more.ensures.only_read (inv.only_read is);
      role = c.has_more.ensures.role ∙ inv.role;
      so_far = λ past taken.
          let so_far = inv.so_far past taken in (
            so_far.0 ++ c.has_more.new.self.waiting.items,
            books_on c.has_more.new.self _ c.book.new.self past so_far.0 c.deref.result.now c.deref.ensures.value refl c.clear.ensures.items
                (c.in_ok-has_more.ensures.come (past ++ so_far.0) so_far.1.come) (c.in_ok-book.ensures.booked (past ++ so_far.0) so_far.1.booked),
          );
    }
