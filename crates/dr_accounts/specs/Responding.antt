-- What a responder holds, and how a call takes it further.
use Rattle.std.specs.Prelude.{◌≡◌, false, List, ◌++◌, string_bytes}
use Rattle.dr_seq.specs.declared.event.Event.{Event}
use Rattle.dr_meaning.specs.Calls.Handling.{Relation}
use Rattle.dr_accounts.specs.Accounts.{Numbers, balance_by, is_refused}
use Rattle.dr_accounts.specs.Answers.{answer_line, answered, answers_to}
use Rattle.dr_accounts.specs.Handlers.{Booked, Goes, HasBusiness, balance_in, kept}
use Rattle.dr_accounts.specs.declared.business.Business.{Business}
use Rattle.dr_accounts.specs.declared.responder.Responder.{Responder}
use Rattle.dr_operations.specs.Operations.{movement_of}

-- the balances that a business handler has
abbrev pub balances_in : Business → Numbers
balances_in b = λ a. balance_in (kept b a)

-- it has the accounts of all events, and the answers to the later ones
pub record HasAnswers (r : Responder) (past events : List Event) : Type 0 where
  pub accounts : HasBusiness r.business (past ++ events)
  pub answers : string_bytes r.answers ≡ answers_to past events

-- unless it failed
abbrev pub IsResponderOf : Responder → List Event → List Event → Type 0
IsResponderOf r past events = r.failed ≡ false → HasAnswers r past events

-- an event is booked, and answered
pub record Answered (event : Event) (old new : Responder) : Type 0 where
  pub booked : Booked event old.business new.business
  pub answer : string_bytes new.answers ≡ string_bytes old.answers ++ answer_line old.business.count (is_refused (movement_of event) (balances_in old.business))
      (balance_by (movement_of event) (balances_in old.business) (answered (movement_of event)))

-- one call; one that failed stays as it is
abbrev pub Answers : Responder → Event → Responder → Type 0
Answers old event new = Goes Responder (λ r. r.failed) (Answered event) old new

abbrev pub answering : Relation Event Responder
answering old event s end new = Answers old event new
