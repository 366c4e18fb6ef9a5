use Rattle.std.proofs.Common.{◌≡◌, nat_lt}
use Rattle.std.proofs.lemmas.Result.{on_ok_weaker}
use Rattle.dr_accounts.specs.Handlers.{balance_in, kept}
use Rattle.dr_accounts.proofs.Moving.{given, gives_all, gives_none, transferred}
use Rattle.dr_accounts.proofs.business.Business.transfer.Goals as goal
use Rattle.dr_accounts.proofs.business.Business.transfer.Goals.{then-branch, else-branch}

pub returns-clause-moved : goal.returns-clause-moved
returns-clause-moved c =
    let had = c.in_ok-take.field-0 in
    let refused = nat_lt (balance_in (kept c.args.self.now c.args.from)) c.args.amount in
    let gives : c.if-branch.moved ≡ given refused c.args.amount = elim c.if-branch.branch [
      | then-branch w ↦ gives_all had refused c.if-branch.moved c.args.amount c.in_ok-take.ensures.had w.if-branch.true w.moved-is
      | else-branch w ↦ gives_none had refused c.if-branch.moved c.args.amount c.in_ok-take.ensures.had w.if-branch.false w.moved-is
    ] in
    on_ok_weaker c.add.result
    (λ put. transferred (kept c.args.self.now) (kept c.take.new.self) (kept c.add.new.self) c.args.from c.args.to c.args.amount c.if-branch.moved gives c.in_ok-take.ensures.put put) c.add.ensures.put
