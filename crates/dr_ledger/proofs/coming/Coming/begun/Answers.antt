use Rattle.std.proofs.Common.{[], refl}
use Rattle.std.proofs.lemmas.Result.{err_from_is_err_and}
use Rattle.dr_ledger.proofs.Comings.{fresh_come}
use Rattle.dr_ledger.proofs.coming.Coming.begun.Goals as goal

pub returns-in_err-has_more-clause-told : goal.returns-in_err-has_more-clause-told
returns-in_err-has_more-clause-told c =
    let p = err_from_is_err_and c.from_residual.result c.from_residual.ensures.1 in
    rw (p.1, p.2) c.in_err-has_more.ensures.of_file

pub returns-clause-fresh : goal.returns-clause-fresh
returns-clause-fresh c = record {
  only_read = c.has_more.ensures.only_read refl;
  come = c.in_ok-has_more.ensures.come [] (fresh_come c.args.opening c.new.result.items c.requires c.new.ensures.items);
}
