-- What a poll of a ring of several tells C, by its answer as a handler's end gives it: a refusal is told, and memory is never wanting.
use Rattle.std.proofs.Common.{◌≡◌, ℕ, List, refl}
use Rattle.std.specs.Prelude.{Ok, Err}
use Rattle.dr_seq.specs.declared.event.Event.{Event}
use Rattle.dr_meaning.specs.declared.command.Polled.{Polled}
use Rattle.dr_meaning.specs.declared.ends.Trouble.{Trouble}
use Rattle.dr_meaning.specs.declared.ends.Trouble.TheVariants.{Refused, Memory}
use Rattle.dr_meaning.specs.Calls.Ends.{IsEndsAnswer}
use Rattle.dr_meaning.specs.Calls.Trouble.{number_of}
use Rattle.dr_plain_senders.specs.Calls.Ends.{ReceiverEnd}
use Rattle.dr_plain_senders.specs.Calls.Outlets.{PollIntoCall}
use Rattle.dr_c.specs.declared.batch.Offer.{Offer}
use Rattle.dr_c.specs.declared.end.End.TheVariants.{ReceiverOfSeveral}
use Rattle.dr_c.specs.Calls.{PollsBy, offer_of}

module _ (out out' : List Event) (offer offer' : Offer) (r r' : ReceiverEnd Event) where
  pub polled : (it : Polled) → PollIntoCall r out r' out' (Ok it) → offer' ≡ offer_of it
      → PollsBy out out' offer offer' 0 (ReceiverOfSeveral r) (ReceiverOfSeveral r')
  polled it call told = (r', Ok it, refl, refl, (call, told))

  pub in_trouble : (trouble : Trouble) (number : ℕ) → IsEndsAnswer (λ answer. PollIntoCall r out r' out' answer) (Err trouble) → number ≡ number_of trouble
      → offer' ≡ offer → PollsBy out out' offer offer' number (ReceiverOfSeveral r) (ReceiverOfSeveral r')
  in_trouble (Refused refusal) number call is same = (r', Err refusal, refl, is, (call, same))
  in_trouble Memory number call is same = absurd call
