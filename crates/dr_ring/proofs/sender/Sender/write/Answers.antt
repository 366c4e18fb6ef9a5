use Rattle.std.proofs.Common.{ap, ◌∙◌}
use Rattle.dr_ring.specs.declared.record.SenderRecord.{SenderRecord}
use Rattle.dr_ring.specs.Meaning.Records.{written}
use Rattle.dr_ring.proofs.Writing.{fits_write}
use Rattle.dr_ring.proofs.sender.Sender.write.Goals as goal

pub invariant_of-self : goal.invariant_of-self
invariant_of-self c =
    fits_write c.args.sequence c.args.event c.self.invariant
    (c.store_second.ensures.1 ∙ ap (λ (r : SenderRecord). written r c.args.sequence c.args.event) c.store_first.ensures.1)
    c.if-sequence-self-2.false c.if-sequence-self.false c.note.ensures
