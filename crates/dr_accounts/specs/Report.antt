-- The report: a text that is a function of one list of events.
use Rattle.std.specs.Prelude.{ℕ, ◌+◌, ◌-◌, ◌==◌, if◌then◌else◌, List, [], ◌∷◌, ◌++◌, length, filter, flat_map, replicate, codes, decimal, false}
use Rattle.std.specs.Fmt.{digits}
use Rattle.dr_seq.specs.declared.event.Event.{Event}
use Rattle.dr_accounts.specs.Accounts.{accounts, balance_of, is_account, refusals_of}
use Rattle.dr_operations.specs.Operations.{code_of, operation_of, operation_text}

abbrev pub Line : Type 0
Line = List ℕ

-- the name of a handler and the number of events that it received
abbrev pub heading : List ℕ → ℕ → Line
heading name count = name ++ codes " " ++ decimal count ++ codes "\n"

-- the sequence of an event, and its record
abbrev pub journal_line : ℕ → Event → Line
journal_line s e = decimal s ++ codes "," ++ operation_text (operation_of e) ++ codes "\n"

-- the lines of events, the first of them having this sequence
unfoldable pub journal_from : ℕ → List Event → List ℕ
journal_from s [] = []
journal_from s (e ∷ es) = journal_line s e ++ journal_from (s + 1) es

abbrev pub journal_part : List Event → List ℕ
journal_part events = heading (codes "journal") (length events) ++ journal_from 0 events

-- a word in 16 lower-case hexadecimal digits
abbrev pub hexadecimal : ℕ → List ℕ
hexadecimal word = replicate (16 - length (digits 16 false word)) 48 ++ digits 16 false word

-- the first word of an event; of a transfer, which has code 3, both words
abbrev pub replica_line : Event → Line
replica_line e = (if code_of e == 3 then hexadecimal e.first ++ hexadecimal e.second else hexadecimal e.first) ++ codes "\n"

abbrev pub replica_part : List Event → List ℕ
replica_part events = heading (codes "replica") (length events) ++ flat_map replica_line events

-- an account with its balance and its number of refusals
abbrev pub account_line : ℕ → ℕ → ℕ → Line
account_line account balance refused = decimal account ++ codes "," ++ decimal balance ++ codes "," ++ decimal refused ++ codes "\n"

-- a line for each account that an event names, by rising account
abbrev pub business_part : List Event → List ℕ
business_part events =
    heading (codes "business") (length events)
    ++ flat_map (λ a. account_line a (balance_of events a) (refusals_of events a)) (filter (is_account events) accounts)

abbrev pub report_of : List Event → List ℕ
report_of events = journal_part events ++ replica_part events ++ business_part events
