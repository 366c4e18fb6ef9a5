use Rattle.std.proofs.Common.{◌≡◌, ◌%◌, ◌<◌, length, arith, ap, sym, ◌∙◌}
use Rattle.std.proofs.Math.Nat.{mod-lt}
use Rattle.std.proofs.lemmas.List.{get_or_read}
use Rattle.dr_seq.proofs.Sizes.{size_positive}
use Rattle.dr_seq.proofs.slots.Slots.get.Goals as goal

pub index-requires : goal.index-requires
index-requires g c =
    let some : 0 < c.self.inside.size = size_positive c.self.inside.size c.self.invariant.1 in
    let within : c.args.s % c.self.inside.size < c.self.inside.size = mod-lt c.args.s some in
    let len = c.self.inside.events.ok.0 in
    omega arith

pub returns : goal.returns
returns g c d =
    let some : 0 < c.self.inside.size = size_positive c.self.inside.size c.self.invariant.1 in
    let len : length c.self.inside.events.items ≡ c.self.inside.size = c.self.invariant.0 in
    let within : c.args.s % c.self.inside.size < c.self.inside.size = mod-lt c.args.s some in
    let slot : c.slot.result ≡ c.args.s % length c.self.inside.events.items = c.slot.ensures ∙ ap (λ n. c.args.s % n) (sym len) in
    rw (← c.self.view_is) (rw (← slot) (get_or_read c.self.inside.events.items c.slot.result c.index.result.now (omega arith) c.index.ensures d))
