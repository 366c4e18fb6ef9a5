use Rattle.core.specs.Mem.Slots.{slots_items}
use Rattle.dr_places.proofs.Lying.{pops, there_less}
use Rattle.dr_places.proofs.gathered.Gathered.pop.Goals as goal

pub invariant_of-self : goal.invariant_of-self
invariant_of-self g c =
    let new = c.take.ensures.others in
    there_less c.self.inside.closed.slots c.take.new.self.slots c.self.inside.count c.if-self-eq0.false new.0 new.1 new.2 c.self.invariant

pub returns : goal.returns
returns g c =
    let new = c.take.ensures.others in
    pops c.args.self.now (slots_items c.self.inside.closed.slots) (slots_items c.take.new.self.slots) c.self.inside.count c.take.result c.self.invariant.each c.if-self-eq0.false c.self.view_is
    c.take.ensures.value new.0
