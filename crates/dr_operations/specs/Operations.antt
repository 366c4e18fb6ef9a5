-- Operations, and the two words of an event that carry them.
use Rattle.std.specs.Prelude.{ℕ, ◌+◌, ◌*◌, ◌/◌, ◌%◌, ◌^◌, ◌<◌, ◌==◌, if◌then◌else◌, List, ◌++◌, codes, decimal}
use Rattle.dr_seq.specs.declared.event.Event.{Event}
use Rattle.dr_operations.specs.declared.operation.Operation.{Operation}
use Rattle.dr_operations.specs.declared.operation.Movement.{Movement}
use Rattle.dr_operations.specs.declared.operation.Movement.TheVariants.{Deposit, Withdraw, Transfer}

-- the first word: the producer from bit 56 on, a code from bit 48 on, an account from bit 32 on, and an amount
abbrev pub first_word : ℕ → ℕ → ℕ → ℕ → ℕ
first_word producer code account amount = producer * 2 ^ 56 + code * 2 ^ 48 + account * 2 ^ 32 + amount

-- the event of a movement: code 1 is a deposit, 2 a withdrawal, and 3 a transfer, whose second word has the second account from bit 48 on, and the amount
abbrev pub moves : ℕ → Movement → Event
moves producer (Deposit account amount) = record { first = first_word producer 1 account amount; second = 0 }
moves producer (Withdraw account amount) = record { first = first_word producer 2 account amount; second = 0 }
moves producer (Transfer from to amount) = record { first = first_word producer 3 from 0; second = to * 2 ^ 48 + amount }

abbrev pub event_for : Operation → Event
event_for o = moves o.producer o.movement

-- an amount of a transfer is below 2^48, so that it has its place in the second word
abbrev pub HasPlace : Movement → Type 0
HasPlace (Deposit account amount) = Unit {0}
HasPlace (Withdraw account amount) = Unit {0}
HasPlace (Transfer from to amount) = amount < 2 ^ 48

abbrev pub IsOperation : Operation → Type 0
IsOperation o = HasPlace o.movement

abbrev pub code_of : Event → ℕ
code_of e = e.first / 2 ^ 48 % 256

abbrev pub account_of : Event → ℕ
account_of e = e.first / 2 ^ 32 % 65536

-- the movement that an event carries; any code but 2 and 3 reads as a deposit
abbrev pub movement_of : Event → Movement
movement_of e =
    if code_of e == 2 then Withdraw (account_of e) (e.first % 2 ^ 32)
    else if code_of e == 3 then Transfer (account_of e) (e.second / 2 ^ 48 % 65536) (e.second % 2 ^ 48)
    else Deposit (account_of e) (e.first % 2 ^ 32)

-- the producer of an event
abbrev pub producer_of : Event → ℕ
producer_of e = e.first / 2 ^ 56

-- the operation that an event carries
abbrev pub operation_of : Event → Operation
operation_of e = record { producer = producer_of e; movement = movement_of e }

-- a movement in the words of the event file
abbrev pub movement_text : Movement → List ℕ
movement_text (Deposit account amount) = codes "deposit," ++ decimal account ++ codes "," ++ decimal amount
movement_text (Withdraw account amount) = codes "withdraw," ++ decimal account ++ codes "," ++ decimal amount
movement_text (Transfer from to amount) = codes "transfer," ++ decimal from ++ codes "," ++ decimal to ++ codes "," ++ decimal amount

abbrev pub operation_text : Operation → List ℕ
operation_text o = decimal o.producer ++ codes "," ++ movement_text o.movement
