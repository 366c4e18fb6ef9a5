use Rattle.std.proofs.Common.{rules}
use Rattle.dr_c.proofs.Slots.{update_leaves}
use Rattle.dr_c.proofs.in_place.leave.Goals as goal

pub returns : goal.returns
returns c = update_leaves _ (λ was now k. search rules) c.args.sender.now c.args.sequence c.update.new.self c.update.result c.update.ensures
