-- The numbers that C is told: 0, or that of a refusal.
use Rattle.std.specs.Prelude.{ℕ, Result, Ok, Err}
use Rattle.dr_meaning.specs.declared.refusal.Refusal.{Refusal}
use Rattle.dr_meaning.specs.Calls.Refusal.{number_of}
use Rattle.dr_meaning.specs.declared.claim_fault.ClaimFault.{ClaimFault}
use Rattle.dr_meaning.specs.Calls.ClaimFault as claim_fault

-- there is no handler of that number
abbrev pub no_handler : ℕ
no_handler = 12

-- the handle is zero or closed
abbrev pub not_open : ℕ
not_open = 61

-- the handle has another end than the call is of
abbrev pub wrong_end : ℕ
wrong_end = 62

-- a pointer leads to nothing, or to less than the call says
abbrev pub bad_pointer : ℕ
bad_pointer = 65

-- there are not as many bytes as an event has
abbrev pub bad_length : ℕ
bad_length = 66

-- the receiver did not take the event, or completed it
abbrev pub not_in_hand : ℕ
not_in_hand = 67

-- of a claim of one of several senders
abbrev pub told_of_claim : {A : Type 0} → Result A ClaimFault → ℕ
told_of_claim (Ok a) = 0
told_of_claim (Err fault) = claim_fault.number_of fault

abbrev pub told : {A : Type 0} → Result A Refusal → ℕ
told (Ok a) = 0
told (Err refusal) = number_of refusal
