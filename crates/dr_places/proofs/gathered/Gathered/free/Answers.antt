use Rattle.std.proofs.Common.{ap, sym, arith, ◌∙◌, length}
use Rattle.core.specs.Mem.Slots.{slots_items, slots_counts}
use Rattle.dr_places.proofs.Lying.{count_is, none_filled}
use Rattle.dr_places.proofs.gathered.Gathered.free.Goals as goal

pub free-requires : goal.free-requires
free-requires g c =
    let A = c.self.invariant in let within = A.within in let many = (slots_counts c.self.inside.closed.slots).0 in
    none_filled c.self.inside.closed.slots c.self.inside.count
    (sym (count_is (slots_items c.self.inside.closed.slots) c.self.inside.count A.each (omega arith)) ∙ ap length (c.self.view_is ∙ c.requires)) A
