use Rattle.std.proofs.Common.{◌≡◌, ◌++◌, string_bytes}
use Rattle.dr_accounts.specs.Handlers.{account_lines}
use Rattle.dr_accounts.proofs.business.push_accounts.Given as goal

abbrev pub invariant-loop-number : goal.invariant-loop-number
invariant-loop-number l = string_bytes l.fn.report ++ account_lines l.accounts.entries ≡ string_bytes l.report ++ account_lines l.number-iterator
