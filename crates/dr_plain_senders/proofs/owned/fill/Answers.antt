use Rattle.std.proofs.Common.{◌≡◌, ◌-◌, ◌<◌, ℕ, length, map, sym, ap, ◌∙◌, arith}
use Rattle.std.proofs.lemmas.List.{length-map, map-set}
use Rattle.std.proofs.Math.Nat.{mod-eq_of_lt}
use Rattle.dr_seq.specs.Stamped.{stamped}
use Rattle.dr_plain_senders.proofs.Stamps.{none_set, next_set}
use Rattle.dr_plain_senders.proofs.owned.fill.Goals as goal

pub loop-place-init : goal.loop-place-init
loop-place-init c f = sym (none_set (λ _. f c.args.mark) (map f c.args.marks.now) c.args.first)

pub loop-place-preserved : goal.loop-place-preserved
loop-place-preserved c f =
    let place = c.loop-place.place in let low = c.loop-place.auto.place in let less = c.loop-place-test.true in let within = c.requires.1 in
    let len = length-map c.args.marks.now f in let lt : place < length (map f c.args.marks.now) = omega arith in
    map-set f c.loop-place.marks place c.args.mark
    ∙ next_set (λ _. f c.args.mark) (map f c.args.marks.now) (map f c.loop-place.marks) c.args.first place place low (sym (mod-eq_of_lt lt))
    (c.loop-place.invariant f)

pub returns : goal.returns
returns c f =
    let end = c.loop-place.auto.place-end in let order = c.requires.0 in let over = c.loop-place-test.false in let low = c.loop-place.auto.place in
    let all : c.loop-place.place - c.args.first ≡ c.args.upto - c.args.first = omega arith in
    c.loop-place.invariant f ∙ ap (λ (n : ℕ). stamped (λ _. f c.args.mark) (map f c.args.marks.now) c.args.first n) all
