use Rattle.std.proofs.Common.{ap, sym, arith, ◌∙◌, length}
use Rattle.core.specs.Mem.Slots.{slots_items, slots_counts}
use Rattle.dr_places.proofs.Lying.{count_is}
use Rattle.dr_places.proofs.gathered.Gathered.len.Goals as goal

pub returns : goal.returns
returns g c =
    let A = c.self.invariant in let within = A.within in let many = (slots_counts c.self.inside.closed.slots).0 in
    sym (count_is (slots_items c.self.inside.closed.slots) c.self.inside.count A.each (omega arith)) ∙ ap length c.self.view_is
