use Rattle.core.specs.Mem.Slots.{slots_items}
use Rattle.dr_places.proofs.Lying.{next_too}
use Rattle.dr_places.proofs.gathered.are_all_there.Goals as goal

pub loop-place-preserved : goal.loop-place-preserved
loop-place-preserved g c = next_too (slots_items c.args.closed.now.words) c.loop-place.place c.word.result c.loop-place.invariant c.word.ensures c.if-word-ne-LEFT.false
