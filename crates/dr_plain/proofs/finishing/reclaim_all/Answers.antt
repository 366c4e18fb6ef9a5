use Rattle.std.proofs.Common.{List, Vec, Global, length, map, ap, sym, subst, arith, ◌∙◌}
use Rattle.std.proofs.lemmas.List.{length-map}
use denote.RawPtr.{Ptr}
use Rattle.dr_cells.specs.declared.token.Token.{Token}
use Rattle.dr_cells.specs.Hold.{held}
use Rattle.dr_lent.specs.Rows.{AreAllWhole}
use Rattle.dr_plain.specs.Meaning.Shape.{Shape}
use Rattle.dr_plain.proofs.Departed.{lanes_kept}
use Rattle.dr_plain.proofs.finishing.reclaim_all.Goals as goal

pub take_all-requires-clause-ends : goal.take_all-requires-clause-ends
take_all-requires-clause-ends g c = let G = c.requires.together in (G.0, G.1, G.2, G.4)

pub reclaim-tokens-requires-clause-order : goal.reclaim-tokens-requires-clause-order
reclaim-tokens-requires-clause-order g c =
    let G = c.requires.together in let near = G.5.near in let size = ap (λ (k : Shape). k.size) G.3 in omega arith

pub reclaim-tokens-requires-clause-lanes : goal.reclaim-tokens-requires-clause-lanes
reclaim-tokens-requires-clause-lanes g c =
    let G = c.requires.together in
    let items : Vec (Token g.row.T.Denot) Global → List (Token g.row.T.Denot) = λ hand. hand.items in (
      G.0.knows.published,
      lanes_kept c.args.words.now.key c.args.plan.now _ G.0 G.1 G.2 c.args.claimed c.args.published c.args.tokens.items
          c.args.counts.now.items (map items c.args.hands.items) c.take_all.new.seat.me.1 _ G.4 G.5 c.take_all.ensures.ran G.3 (c.take_all.ensures.hand G.0 G.1 G.2 G.4),
    )

pub whole_row-requires : goal.whole_row-requires
whole_row-requires g c = subst (λ (p : Ptr). AreAllWhole p c.reclaim-tokens.result.items) (sym c.requires.cells) c.reclaim-tokens.ensures.whole

pub returns-clause-all : goal.returns-clause-all
returns-clause-all g c =
    let all = c.whole_row.ensures.all in let cells = ap length c.reclaim-tokens.ensures.cells in
    let now = length-map c.reclaim-tokens.result.items (λ (t : Token g.row.T.Denot). held t.hold) in
    let was = length-map c.args.tokens.items (λ (t : Token g.row.T.Denot). held t.hold) in (all.0, all.1, omega (arith, all.2))

pub returns-clause-events : goal.returns-clause-events
returns-clause-events g c = c.whole_row.ensures.items ∙ c.reclaim-tokens.ensures.cells
