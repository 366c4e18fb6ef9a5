use Rattle.std.proofs.Common.{ℕ, List, refl, sym, ap, ◌∙◌, arith}
use Rattle.std.proofs.lemmas.List.{append-nil}
use Rattle.atomic_table.specs.Table.{Me, turned}
use Rattle.dr_lent.proofs.Trading.{turned_next}
use Rattle.dr_lent.proofs.slots.turn_by.Goals as goal

pub loop-turns-init : goal.loop-turns-init
loop-turns-init g c = let me = c.args.seat.now.me in (
  refl,
  refl,
  ap (λ (hand : List (ℕ × g.row.S.Denot)). let m : Me g.row.S.Denot g.row.V.Denot = (me.0, hand) in m) (sym (append-nil me.1)),
)

pub loop-turns-preserved : goal.loop-turns-preserved
loop-turns-preserved g c =
    let me = c.args.seat.now.me in let inv = c.loop-turns.invariant in let now = c.turn.ensures in
    let lt = c.loop-turns-test.true in let end = c.loop-turns.auto.turns-end in let le = c.requires in (
      now.0 ∙ inv.0,
      now.1 ∙ inv.1,
      now.2 ∙ ap (λ (m : Me g.row.S.Denot g.row.V.Denot). let next : Me g.row.S.Denot g.row.V.Denot = (m.0, turned m.1) in next) inv.2
          ∙ ap (λ (hand : List (ℕ × g.row.S.Denot)). let m : Me g.row.S.Denot g.row.V.Denot = (me.0, hand) in m)
          (turned_next me.1 c.loop-turns.turns (omega arith)),
    )
