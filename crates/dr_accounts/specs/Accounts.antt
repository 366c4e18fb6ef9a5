-- Balances and refusals of the accounts along a list of events.
use Rattle.std.specs.Prelude.{ℕ, suc, zero, ◌+◌, ◌-◌, ◌^◌, Bool, false, ◌==◌, ◌&&◌, ◌||◌, nat_lt, if◌then◌else◌, List, length, slice_index_or}
use Rattle.std.specs.List.{list_any, range_with_len}
use Rattle.dr_seq.specs.declared.event.Event.{Event}
use Rattle.dr_seq.specs.Event.{no_event}
use Rattle.dr_operations.specs.declared.operation.Movement.{Movement}
use Rattle.dr_operations.specs.declared.operation.Movement.TheVariants.{Deposit, Withdraw, Transfer}
use Rattle.dr_operations.specs.Operations.{movement_of}

-- of each account, a number
abbrev pub Numbers : Type 0
Numbers = ℕ → ℕ

-- a movement takes more than an account has
abbrev pub is_refused : Movement → Numbers → Bool
is_refused (Deposit account amount) balances = false
is_refused (Withdraw account amount) balances = nat_lt (balances account) amount
is_refused (Transfer from to amount) balances = nat_lt (balances from) amount

-- the account for which a refusal counts
abbrev pub is_charged : Movement → ℕ → Bool
is_charged (Deposit account amount) a = false
is_charged (Withdraw account amount) a = a == account
is_charged (Transfer from to amount) a = a == from

-- the accounts that a movement names, at a refusal too
abbrev pub names : Movement → ℕ → Bool
names (Deposit account amount) a = a == account
names (Withdraw account amount) a = a == account
names (Transfer from to amount) a = (a == from) || (a == to)

-- the balances after an accepted movement; a transfer from an account to itself changes none
abbrev pub moved : Movement → Numbers → Numbers
moved (Deposit account amount) balances a = if a == account then balances a + amount else balances a
moved (Withdraw account amount) balances a = if a == account then balances a - amount else balances a
moved (Transfer from to amount) balances a =
    if from == to then balances a
    else if a == from then balances a - amount
    else if a == to then balances a + amount
    else balances a

-- the balances after a movement: a refused one changes none
abbrev pub balance_by : Movement → Numbers → Numbers
balance_by m balances a = if is_refused m balances then balances a else moved m balances a

-- how many refusals a movement counts for an account
abbrev pub refusal_by : Movement → Numbers → Numbers
refusal_by m balances a = if is_refused m balances && is_charged m a then 1 else 0

-- the movement of the event at a place
abbrev pub movement_at : List Event → ℕ → Movement
movement_at events k = movement_of (slice_index_or events k no_event)

-- the balances after the first events of a list, which are 0 before them
unfoldable pub balances_after : List Event → ℕ → Numbers
balances_after events zero = λ a. 0
balances_after events (suc k) = balance_by (movement_at events k) (balances_after events k)

-- the refusals among the first events of a list
unfoldable pub refusals_after : List Event → ℕ → Numbers
refusals_after events zero = λ a. 0
refusals_after events (suc k) = λ a. refusals_after events k a + refusal_by (movement_at events k) (balances_after events k) a

-- after all events of a list

abbrev pub balance_of : List Event → Numbers
balance_of events = balances_after events (length events)

abbrev pub refusals_of : List Event → Numbers
refusals_of events = refusals_after events (length events)

-- whether an event of a list names an account
abbrev pub is_account : List Event → ℕ → Bool
is_account events a = list_any (λ e. names (movement_of e) a) events

-- how many accounts there may be
unfoldable pub account_bound : ℕ
account_bound = 2 ^ 16

-- all account numbers, rising
abbrev pub accounts : List ℕ
accounts = range_with_len 0 account_bound
