use Rattle.std.proofs.Common.{◌++◌, ◌∙◌, ap, append-nil, string_bytes, sym}
use Rattle.std.proofs.lemmas.Map.Iter.{rest_all, rest_more}
use Rattle.std.specs.Map.Iter.{deref_pair}
use Rattle.dr_accounts.specs.Handlers.{account_lines}
use Rattle.dr_accounts.proofs.Entries.{next_entry}
use Rattle.dr_accounts.proofs.business.push_accounts.Goals as goal

pub loop-number-init : goal.loop-number-init
loop-number-init c = rw c.into_iter-number-iterator.ensures.into_iter_gives.0

pub loop-number-preserved : goal.loop-number-preserved
loop-number-preserved c =
    let cut = rest_more deref_pair c.loop-number.number-iterator c.next.new.self c.next.result (c.in-Some.number, c.in-Some.account) c.in-Some.is c.next.ensures.steps in
    next_entry (string_bytes c.args.report.now ++ account_lines c.args.accounts.now.entries) (string_bytes c.loop-number.report) (string_bytes c.push_account.new.report) c.in-Some.number.now c.in-Some.account.now c.next.new.self c.loop-number.number-iterator
    c.loop-number.invariant cut c.in_ok-push_account.ensures

pub returns-clause-lines : goal.returns-clause-lines
returns-clause-lines c =
    let end = rest_all deref_pair c.loop-number.number-iterator c.next.new.self c.next.result c.in-None.is c.next.ensures.steps in
    sym (c.loop-number.invariant ∙ ap (λ l. string_bytes c.loop-number.report ++ account_lines l) end ∙ append-nil (string_bytes c.loop-number.report))
