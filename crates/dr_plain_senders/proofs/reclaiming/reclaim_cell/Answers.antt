use Rattle.std.proofs.Common.{◌∙◌, arith}
use Rattle.dr_plain_senders.proofs.Returning.{row_slot, row_parts}
use Rattle.dr_plain_senders.proofs.reclaiming.reclaim_cell.Goals as goal

pub take_slot-kept-requires-clause-slot : goal.take_slot-kept-requires-clause-slot
take_slot-kept-requires-clause-slot g c = let R = c.requires.row in row_slot _ _ _ R.0 R.1 _ _ R.2 c.slot-slot.result c.slot-slot.ensures.place

pub reclaim_parts-requires-clause-parts : goal.reclaim_parts-requires-clause-parts
reclaim_parts-requires-clause-parts g c =
    let R = c.requires.row in let size = c.get.ensures.value ∙ c.size.ensures in let late = c.if-sequence-get.false in
    row_parts _ _ _ R.0 R.1 _ _ R.2 c.slot-slot.result c.take_slot-kept.result _ c.take_slot-kept.ensures.taken (omega arith)
