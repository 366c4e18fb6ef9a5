-- The machine's words for what calls return.
use Rattle.std.specs.Prelude.{Result, Ok, Err, List, [], take}
use Rattle.dr_meaning.specs.declared.refusal.Refusal.{Refusal}
use Rattle.dr_meaning.specs.declared.command.Reply.{Reply}
use Rattle.dr_meaning.specs.declared.command.Reply.TheVariants.{Claimed, Batch, Drained, Gating, Idle, Refused}
use Rattle.dr_meaning.specs.declared.command.Claimed.{Claimed as Stretch}
use Rattle.dr_meaning.specs.declared.command.Polled.{Polled}
use Rattle.dr_meaning.specs.declared.command.Polled.TheVariants as answer

abbrev pub claim_reply : Result Stretch Refusal → Reply
claim_reply (Ok c) = Claimed c.lo c.hi
claim_reply (Err r) = Refused r

abbrev pub unit_reply : Reply → Result (Unit {0}) Refusal → Reply
unit_reply reply (Ok done) = reply
unit_reply reply (Err r) = Refused r

abbrev pub poll_reply : Result Polled Refusal → Reply
poll_reply (Ok (answer.Batch first count end)) = Batch first count end
poll_reply (Ok answer.Drained) = Drained
poll_reply (Ok answer.Gating) = Gating
poll_reply (Ok answer.Idle) = Idle
poll_reply (Err r) = Refused r

-- the events of a batch, at the front of the buffer
abbrev pub polled : {E : Type 0} → Result Polled Refusal → List E → List E
polled (Ok (answer.Batch first count end)) out = take count out
polled other out = []
