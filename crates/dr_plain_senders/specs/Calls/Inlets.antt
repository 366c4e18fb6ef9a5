-- What each call of a sender tells, for who does not know which exchange it is of.
use Rattle.std.specs.Prelude.{◌≡◌, ◌⊎◌, ℕ, ◌+◌, List, [], ◌∷◌, Option, None, Some, Result, Ok, Err}
use Rattle.dr_meaning.specs.declared.refusal.Refusal.TheVariants.{NoRoom}
use Rattle.dr_meaning.specs.declared.command.Claimed.{Claimed}
use Rattle.dr_meaning.specs.declared.ends.Trouble.{Trouble}
use Rattle.dr_meaning.specs.declared.ends.Trouble.TheVariants.{Refused as IsRefused, Memory}
use Rattle.dr_meaning.specs.Calls.Calling.{InletCall, TriesClaim, WritesOne, WritesMany, PublishesStretch}
use Rattle.dr_meaning.specs.Calls.Ends.{IsEndsAnswer}
use Rattle.dr_meaning.specs.declared.claim_fault.ClaimFault.TheVariants.{Refused, Contended}
use Rattle.dr_plain_senders.specs.Calls.Ends.{SenderEnd}
use Rattle.dr_plain_senders.specs.Calls.Sending.{SenderClaimCall}
use Rattle.dr_plain_senders.specs.Calls.Writing.{WriteCall}
use Rattle.dr_plain_senders.specs.Calls.Publishing.{PublishCall}

module _ {T : Type 0} where
  -- A claim as an exchange's end answers it: where another sender claimed meanwhile,
  -- nothing is known of the room, and the claim may be tried again as after `NoRoom`.
  abbrev pub ClaimsAsEnd : SenderEnd T → ℕ → SenderEnd T → Result Claimed Trouble → Type 0
  ClaimsAsEnd e n e' (Ok c) = SenderClaimCall e n e' (Ok c)
  ClaimsAsEnd e n e' (Err (IsRefused NoRoom)) = SenderClaimCall e n e' (Err (Refused NoRoom)) ⊎ SenderClaimCall e n e' (Err Contended)
  ClaimsAsEnd e n e' (Err (IsRefused refusal)) = SenderClaimCall e n e' (Err (Refused refusal))
  ClaimsAsEnd e n e' (Err Memory) = ⊥

  -- many writes are one write after another, from the sequence lo on, up to the first in trouble
  abbrev pub WriteAllCall : SenderEnd T → ℕ → List T → SenderEnd T → ℕ → Option Trouble → Type 0
  WriteAllCall e lo [] e' count trouble = (e' ≡ e) × (count ≡ 0) × (trouble ≡ None)
  WriteAllCall e lo (event ∷ events) e' count trouble =
      ((between : SenderEnd T) × (rest : ℕ) × WriteCall e lo event between (Ok tt) × (count ≡ rest + 1) × WriteAllCall between (lo + 1) events e' rest trouble)
      ⊎ ((first : Trouble) × IsEndsAnswer (WriteCall e lo event e') (Err first) × (count ≡ 0) × (trouble ≡ Some first))

  abbrev pub sender_does : SenderEnd T → InletCall T → SenderEnd T → Type 0
  sender_does e (TriesClaim n answer) e' = ClaimsAsEnd e n e' answer
  sender_does e (WritesOne s event answer) e' = IsEndsAnswer (WriteCall e s event e') answer
  sender_does e (WritesMany lo events wrote) e' = WriteAllCall e lo events e' wrote.count wrote.trouble
  sender_does e (PublishesStretch lo hi answer) e' = IsEndsAnswer (PublishCall e lo hi e') answer
