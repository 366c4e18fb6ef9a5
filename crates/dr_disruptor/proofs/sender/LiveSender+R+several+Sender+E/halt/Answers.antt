use Rattle.std.proofs.Common.{◌-◌, ◌^◌, length, min, ap, sym, ◌∙◌}
use Rattle.dr_meaning.specs.Calls.InPlaceInlets.{Sending}
use Rattle.dr_plain_senders.specs.Calls.InPlace.{sending_of}
use Rattle.dr_plain_senders.proofs.InPlaceSending.{halts}
use Rattle.dr_disruptor.proofs.sender.LiveSender+R+several+Sender+E.halt.Goals as goal

pub invariant_of-self : goal.invariant_of-self
invariant_of-self g c =
    let same = halts c.self.inside.end c.halt.new.self c.halt.ensures in (
      ap (λ (x : Sending g.row.E.Denot). x.pending) same ∙ c.self.invariant.0,
      c.self.invariant.1 ∙ ap (λ (x : Sending g.row.E.Denot). min (length x.published) (2 ^ 64 - 1)) (sym same),
    )

pub returns-clause-same : goal.returns-clause-same
returns-clause-same g c = halts c.self.inside.end c.halt.new.self c.halt.ensures ∙ ap sending_of c.self.view_is
