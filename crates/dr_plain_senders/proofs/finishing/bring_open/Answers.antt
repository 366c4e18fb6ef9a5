use Rattle.std.proofs.Common.{◌≡◌, ◌<◌, ◌-◌, ◌+◌, ◌%◌, ℕ, arith, ap, ◌∙◌, subst}
use Rattle.std.proofs.Math.Nat.{mod-lt}
use Rattle.dr_lent.specs.Trades.{SamePlaces}
use Rattle.dr_lent.proofs.Trades.{places_none}
use Rattle.dr_plain_senders.specs.Inside.Owned.{is_open}
use Rattle.dr_plain_senders.specs.Inside.Bringing.{AreTaken}
use Rattle.dr_plain_senders.proofs.Bringing.{taken_none, own_next, taken_next}
use Rattle.dr_plain_senders.proofs.finishing.bring_open.Goals as goal

pub loop-sequence-init : goal.loop-sequence-init
loop-sequence-init g c =
    let k = c.args.plan.now in
    let first = c.args.end - k.size in
    let own = c.args.own.items in
    let tokens = c.args.tokens.now.items in
    let marks = c.args.brought.now.items in
    let is : first ≡ c.saturating_sub-first.result =
    (let a = c.saturating_sub-first.ensures in let b = c.get.ensures.value in let d = c.size.ensures in omega arith) in (
      omega arith,
      subst (λ (s : ℕ). SamePlaces k.size first s own own) is (places_none k.size first own),
      subst (λ (s : ℕ). AreTaken k (is_open c.args.owned.now) first s own tokens tokens marks marks)
          is (taken_none k (is_open c.args.owned.now) first own tokens marks),
    )

pub bring_one-requires : goal.bring_one-requires
bring_one-requires g c =
    let k = c.args.plan.now in let s = c.loop-sequence.sequence in let inv = c.loop-sequence.invariant in let low = inv.0 in let S = inv.1 in let A = inv.2 in
    let lt = c.loop-sequence-test.true in let some_slot : 0 < k.size = omega arith in let inside : s % k.size < k.size = mod-lt s some_slot in
    let place : c.slot-place.result ≡ s % k.size = c.slot-place.ensures ∙ ap (λ (n : ℕ). s % n) c.size-in-loop-sequence.ensures in
    let own = S.count in let tokens = A.count in let marks = A.many in let places = c.requires.places in
    let a = places.0 in let b = places.1 in let d = places.2 in (omega arith, omega arith, omega arith)

pub loop-sequence-preserved : goal.loop-sequence-preserved
loop-sequence-preserved g c =
    let k = c.args.plan.now in let s = c.loop-sequence.sequence in let inv = c.loop-sequence.invariant in let low = inv.0 in let S = inv.1 in let A = inv.2 in
    let lt = c.loop-sequence-test.true in let some_slot : 0 < k.size = omega arith in let inside : s % k.size < k.size = mod-lt s some_slot in
    let place : c.slot-place.result ≡ s % k.size = c.slot-place.ensures ∙ ap (λ (n : ℕ). s % n) c.size-in-loop-sequence.ensures in
    let tokens = A.count in let marks = A.many in let places = c.requires.places in let b = places.1 in let d = places.2 in
    let near : s < c.args.end - k.size + k.size = omega arith in (
      omega arith,
      own_next k (is_open c.args.owned.now) (c.args.end - k.size) s
          c.slot-place.result _ _ _ c.args.tokens.now.items _ _ c.args.brought.now.items _ _ low near place
          c.is_open-is_open.result S c.bring_one.ensures,
      taken_next k (is_open c.args.owned.now) (c.args.end - k.size) s
          c.slot-place.result _ _ _ c.args.tokens.now.items _ _ c.args.brought.now.items _ _ low near place
          c.is_open-is_open.result c.is_open-is_open.ensures S (omega arith) (omega arith) A c.bring_one.ensures,
    )

pub returns : goal.returns
returns g c =
    let k = c.args.plan.now in let first = c.args.end - k.size in let inv = c.loop-sequence.invariant in let over = c.loop-sequence-test.false in
    let end = c.loop-sequence.auto.sequence-end in let s = c.loop-sequence.sequence in let low = inv.0 in
    let all : s ≡ c.args.end = omega arith in
    subst (λ (n : ℕ). AreTaken k (is_open c.args.owned.now) first n c.args.own.items c.args.tokens.now.items
    c.loop-sequence.tokens.items c.args.brought.now.items c.loop-sequence.brought.items)
    all inv.2
