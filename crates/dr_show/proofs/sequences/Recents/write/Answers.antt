use Rattle.std.proofs.Common.{Some, ap, arith}
use Rattle.dr_show.specs.declared.sequences.Sequence.{Sequence}
use Rattle.dr_show.specs.Inside.Sequences.{claimed_by, slots_of}
use Rattle.dr_show.proofs.Tracking.{written_recent}
use Rattle.dr_show.proofs.sequences.Recents.write.Goals as goal

pub returns : goal.returns
returns c =
    let old = slots_of c.args.self.now in
    let before = c.get-before.result in
    let after : Sequence = record { producer = before.producer; event = Some c.args.event; is_published = before.is_published } in
    written_recent c.args.event c.args.s c.args.next old c.put.new.self after (omega (arith, c.get.ensures.value, c.args.self.now.all)) (omega arith)
    (omega (arith, c.get.ensures.value, c.args.self.now.all))
    (ap (λ (it : Sequence). record { producer = it.producer; event = Some c.args.event; is_published = it.is_published }) (c.get-before.ensures (claimed_by 0))) c.put.ensures
