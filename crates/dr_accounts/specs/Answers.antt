-- The answers of a ledger: a line for each event, with the balance that it left.
use Rattle.std.specs.Prelude.{ℕ, suc, ◌+◌, Bool, if◌then◌else◌, List, ◌++◌, length, flat_map, codes, decimal}
use Rattle.std.specs.List.{range_with_len}
use Rattle.dr_seq.specs.declared.event.Event.{Event}
use Rattle.dr_operations.specs.declared.operation.Movement.{Movement}
use Rattle.dr_operations.specs.declared.operation.Movement.TheVariants.{Deposit, Withdraw, Transfer}
use Rattle.dr_accounts.specs.Accounts.{balances_after, is_refused, movement_at}
use Rattle.dr_accounts.specs.Report.{Line}

-- the account whose balance an answer has: of a transfer, the payer's
abbrev pub answered : Movement → ℕ
answered (Deposit account amount) = account
answered (Withdraw account amount) = account
answered (Transfer from to amount) = from

-- `SEQ applied BALANCE` or `SEQ refused BALANCE`
abbrev pub answer_line : ℕ → Bool → ℕ → Line
answer_line s refused balance = decimal s ++ (if refused then codes " refused " else codes " applied ") ++ decimal balance ++ codes "\n"

-- the answer to the event at a place of a list: whether its movement took more than an account had by then, and the balance after it
abbrev pub answer_at : List Event → ℕ → Line
answer_at events k = answer_line k (is_refused (movement_at events k) (balances_after events k)) (balances_after events (suc k) (answered (movement_at events k)))

-- the answers to events that come after others
abbrev pub answers_to : List Event → List Event → List ℕ
answers_to past events = flat_map (answer_at (past ++ events)) (range_with_len (length past) (length events))
