use Rattle.std.proofs.Common.{List, ap, sym, subst, length, ◌∙◌}
use lib.ListN.{get_elem?}
use Rattle.core.specs.Mem.Slots.{slots_items, slots_counts}
use Rattle.dr_places.specs.Rule.{PlacesOf}
use Rattle.dr_places.proofs.Lying.{all_some, all_belong, somes_all}
use Rattle.dr_places.proofs.places.Places.close.Goals as goal

pub of-requires : goal.of-requires
of-requires g c =
    let values = c.close-closed.ensures.values in
    (values.1, all_some (g.L.Belongs.belongs c.self.inside.table.shared.key) _ _ values.2 (c.are_all_there.ensures c.if-are_all_there.true))

pub returns-then-are_all_there : goal.returns-then-are_all_there
returns-then-are_all_there g c =
    let values = c.close-closed.ensures.values in let left = c.are_all_there.ensures c.if-are_all_there.true in
    let belongs = g.L.Belongs.belongs c.self.inside.table.shared.key in let slots = c.close-closed.result.slots in
    let key = ap (λ (p : PlacesOf g.row.K.Denot). p.key) c.self.view_is in let many = ap (λ (p : PlacesOf g.row.K.Denot). p.count) c.self.view_is in (
      ap length c.of.ensures ∙ somes_all (slots_items slots) (all_some belongs _ _ values.2 left) ∙ sym (slots_counts slots).0 ∙ c.close-closed.ensures.counts.1 ∙ c.self.invariant ∙ many,
      λ i l at. subst (λ (k : g.row.K.Denot). g.L.Belongs.belongs k i l) key
          (all_belong belongs _ _ values.2 left i l (ap (λ (xs : List g.row.L.Denot). get_elem? xs i) (sym c.of.ensures) ∙ at)),
    )
