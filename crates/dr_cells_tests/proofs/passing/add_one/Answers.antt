use Rattle.std.proofs.Common.{rules, arith, ◌∙◌, sym, ap, ℕ, []}
use Rattle.atomic_table.specs.Table.{Me, rest}
use Rattle.dr_cells.specs.declared.cells.Cells.{Cells}
use Rattle.dr_cells.specs.declared.token.Token.{Token}
use Rattle.dr_cells_tests.proofs.Turns.{may_take, may_give}
use Rattle.dr_cells_tests.proofs.passing.add_one.Goals as goal

pub swap-requires : goal.swap-requires
swap-requires c =
    let waits = c.requires.seat.1 ∙ ap (λ (k : Cells ℕ). (k, [])) (sym c.requires.table.1) in
    (c.requires.seat.0, omega (arith, c.requires.table.0.0), may_take _ _ _ _ waits)

pub store-requires : goal.store-requires
store-requires c =
    let taken = c.swap.ensures.2.1.0 c.if-swap-ne1.false in let put = c.exchange-token.ensures.3 in
    let knows = ap (λ (m : Me (Token ℕ) (Cells ℕ)). m.0) put ∙ c.swap.ensures.2.0 ∙ ap (λ (m : Me (Token ℕ) (Cells ℕ)). m.0) c.requires.seat.1
    ∙ sym c.requires.table.1 in
    let alone = ap (λ (m : Me (Token ℕ) (Cells ℕ)). rest m.1) put ∙ ap rest taken.1 in
    (search rules, omega (arith, c.requires.table.0.0), may_give _ _ _ _ c.exchange-token.new.seat.me _ c.exchange.ensures.3 knows alone (search rules))
