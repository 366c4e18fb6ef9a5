use Rattle.std.proofs.Common.{arith}
use Rattle.std.proofs.Math.Nat.{mod-lt}
use Rattle.dr_plain_senders.proofs.Marking.{reads}
use Rattle.dr_plain_senders.proofs.owned.read.Goals as goal

pub index-requires : goal.index-requires
index-requires c = let lt = mod-lt c.args.sequence c.requires.1 in let count = c.requires.0 in let place = c.slot.ensures in
    let len = c.args.marks.now.ok.0 in omega arith

pub returns : goal.returns
returns c f = reads f c.args.marks.now.items c.args.size c.args.sequence c.slot.result c.index.result.now c.requires.0 c.requires.1 c.slot.ensures
    c.index.ensures
