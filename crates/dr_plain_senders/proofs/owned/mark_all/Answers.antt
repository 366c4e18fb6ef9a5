use Rattle.std.proofs.Common.{◌≡◌, ◌+◌, ◌-◌, ◌%◌, ◌/◌, ◌<◌, ℕ, map, refl, sym, ap, ◌∙◌, arith}
use Rattle.std.proofs.lemmas.List.{length-map}
use Rattle.std.proofs.Math.Nat.{mod-lt}
use Rattle.dr_seq.specs.Rounds.{entry_of}
use Rattle.dr_seq.specs.Stamped.{stamped}
use Rattle.dr_seq.proofs.Sizes.{size_positive}
use Rattle.dr_plain_senders.specs.Inside.Owned.{done}
use Rattle.dr_plain_senders.proofs.Marking.{next_run}
use Rattle.dr_plain_senders.proofs.Stamps.{none_set}
use Rattle.dr_plain_senders.proofs.owned.mark_all.Goals as goal
use Rattle.dr_plain_senders.proofs.owned.mark_all.Goals.{After-get}

-- the slot of the next sequence is one of the ring's
within : (c : After-get) → c.slot-slot.result < c.args.size
within c =
    let size = c.get.ensures.value in let pos = size_positive c.get.result c.get.ensures.size in let some : 0 < c.args.size = omega arith in
    let lt : c.loop-next.next % c.args.size < c.args.size = mod-lt c.loop-next.next some in let place = c.slot-slot.ensures in omega arith

pub loop-next-init : goal.loop-next-init
loop-next-init c = (omega arith, c.requires.order.0, λ f. sym (none_set (λ s. f (done (entry_of c.args.size s))) (map f c.args.marks.now) c.args.from))

pub fill-requires : goal.fill-requires
fill-requires c =
    let P = (goal.at.fill-requires c).After-get in let lt = within P in let least = c.min-stop.ensures in let size = c.get.ensures.value in
    let less = c.loop-next-test.true in let len = c.loop-next.auto.marks in let count = c.requires.count in (omega arith, omega arith)

pub loop-next-preserved : goal.loop-next-preserved
loop-next-preserved c =
    let P = (goal.at.loop-next-preserved c).After-get in let lt = within P in let least = c.min-stop.ensures in let size = c.get.ensures.value in
    let less = c.loop-next-test.true in let inv = c.loop-next.invariant in let low = inv.0 in let high = inv.1 in
    let stop = c.min-stop.result in let slot = c.slot-slot.result in let next = c.loop-next.next in
    let entry : c.round.result + 1 ≡ next / c.args.size + 1 = ap (λ (q : ℕ). q + 1) c.round.ensures in (
      omega arith,
      omega arith,
      λ f. next_run f c.args.size c.args.from next stop slot (slot + (stop - next)) (c.round.result + 1)
          (map f c.args.marks.now) (map f c.loop-next.marks) (map f c.fill.new.marks) (length-map c.args.marks.now f ∙ c.requires.count)
          low (omega arith) (omega arith) c.slot-slot.ensures refl entry (inv.2 f) (c.fill.ensures f),
    )

pub loop-next-smaller : goal.loop-next-smaller
loop-next-smaller c =
    let P = (goal.at.loop-next-smaller c).After-get in let lt = within P in let least = c.min-stop.ensures in let size = c.get.ensures.value in
    let less = c.loop-next-test.true in omega arith

pub returns : goal.returns
returns c f =
    let inv = c.loop-next.invariant in let over = c.loop-next-test.false in let high = inv.1 in
    let all : c.loop-next.next - c.args.from ≡ c.args.upto - c.args.from = omega arith in
    inv.2 f ∙ ap (λ (n : ℕ). stamped (λ s. f (done (entry_of c.args.size s))) (map f c.args.marks.now) c.args.from n) all
