use Rattle.std.proofs.Common.{◌≡◌, ℕ, set, Ok, refl, sym, ap, ◌∙◌, subst}
use denote.RawPtr.{Ptr}
use Rattle.std.specs.Fn.{FnOnceReturnsAtMut}
use mathlib.Core.Option.{some}
use lib.ListN.{get_elem?}
use Rattle.dr_lent.specs.Rows.{cells_of}
use Rattle.dr_plain.specs.Meaning.Words.{cell_of}
use Rattle.dr_plain.proofs.Publishing.{cell_at}
use Rattle.dr_cells.specs.declared.token.Token.{Token}
use Rattle.dr_cells.specs.Hold.{Hold, whole, held}
use Rattle.dr_cells.specs.Tokens.{token_at}
use Rattle.dr_plain.specs.Calls.Ends.{SenderEnd}
use Rattle.dr_plain.specs.Calls.Sending.{UpdateCall}
use Rattle.dr_plain.specs.Inside.Views.{sender_end}
use Rattle.dr_runs.proofs.Beginnings.{begins_same}
use Rattle.dr_plain.proofs.Writing.{fits_write, write_done, answers_unclaimed, answers_published}
use Rattle.dr_plain.proofs.sender.Sender.update.Goals as goal

pub returns-then-sequence-self : goal.returns-then-sequence-self
returns-then-sequence-self g c = (answers_unclaimed c.self.invariant c.self.view_is c.args.sequence c.if-sequence-self.true, refl)

pub returns-then-sequence-self-2 : goal.returns-then-sequence-self-2
returns-then-sequence-self-2 g c = (answers_published c.self.invariant c.self.view_is c.args.sequence c.if-sequence-self.false c.if-sequence-self-2.true, refl)

pub invariant_of-self : goal.invariant_of-self
invariant_of-self g c =
    let place = c.place-place.result in let event = c.change_in.ensures.1 in
    let token = c.change_in.ensures.3 ∙ ap (λ (p : Ptr). let t : Token g.row.T.Denot = token_at p place (whole event) in t) c.self.invariant.strip in
    fits_write c.blank.result c.args.sequence place event c.self.invariant c.if-sequence-self-2.false c.if-sequence-self.false c.note.ensures
    c.place-place.ensures.place (c.put_at.ensures.row ∙ (λ i. set (c.put_at-token.ensures.row i) place (token i)))

pub returns : goal.returns
returns g c =
    let e = c.self.inside.station in let s = c.args.sequence in let t = c.put_at-token.result in let tokens = c.self.inside.tokens.items in
    let place = c.place-place.result in let event = c.change_in.ensures.1 in
    let token = c.change_in.ensures.3 ∙ ap (λ (p : Ptr). let x : Token g.row.T.Denot = token_at p place (whole event) in x) c.self.invariant.strip in
    let there : get_elem? tokens (cell_of e.knows.plan s) ≡ some t = ap (λ (i : ℕ). get_elem? tokens i) (sym c.place-place.ensures.place) ∙ c.put_at-token.ensures.was in
    subst (λ (E : SenderEnd g.row.T.Denot). UpdateCall (λ (x y : g.row.T.Denot). FnOnceReturnsAtMut g.F.FnOnce c.args.change x tt y) E s (sender_end e c.note.new.self (cells_of c.put_at.new.row.items)) (Ok tt)) c.self.view_is (
      c.change_in.ensures.0,
      c.change_in.ensures.1,
      cell_at tokens e.knows.plan.size s t c.self.invariant.tokens.count there ∙ ap (λ (h : Hold g.row.T.Denot). held h) c.change_in.ensures.2,
      c.change_in.ensures.4,
      (
        (refl, begins_same e.past),
        write_done c.blank.result s place event c.self.invariant c.if-sequence-self-2.false c.if-sequence-self.false c.note.ensures c.place-place.ensures.place
            (c.put_at.ensures.row ∙ (λ i. set (c.put_at-token.ensures.row i) place (token i))) refl,
        refl,
      ),
    )
