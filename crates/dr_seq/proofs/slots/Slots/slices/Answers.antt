use Rattle.std.proofs.Common.{◌≡◌, ◌<◌, ◌≤◌, ◌-◌, ◌%◌, length, ap, sym, ◌∙◌, arith, min}
use Rattle.dr_seq.proofs.Sizes.{size_positive}
use Rattle.dr_seq.proofs.Copies.{two_pieces}
use Rattle.dr_seq.proofs.slots.Slots.slices.Goals as goal

pub returns-clause-events : goal.returns-clause-events
returns-clause-events g c d =
    let len : length c.self.inside.events.items ≡ c.self.inside.size = c.self.invariant.0 in
    let some : 0 < length c.self.inside.events.items = rw len (size_positive c.self.inside.size c.self.invariant.1) in
    let slot : c.slot-at.result ≡ c.args.first % length c.self.inside.events.items = c.slot-at.ensures ∙ ap (λ n. c.args.first % n) (sym len) in
    let fits : c.args.count ≤ length c.self.inside.events.items = rw (← c.self.view_is) at c.requires in
    let whole : length c.as_slice-slots.result.now ≡ length c.self.inside.events.items = ap length c.as_slice-slots.ensures.value in
    let head : c.min-head.result ≡ min c.args.count (length c.self.inside.events.items - c.slot-at.result) = c.min-head.ensures ∙ ap (λ m. min c.args.count (m - c.slot-at.result)) whole in
    rw (← c.self.view_is, c.as_slice-slots.ensures.value)
    (two_pieces d c.self.inside.events.items c.args.first c.args.count c.slot-at.result c.min-head.result _ _ some fits slot head (omega arith) (omega arith))
