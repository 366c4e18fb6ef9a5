use Rattle.std.proofs.Common.{◌≡◌, set, Ok, refl, ap, ◌∙◌, subst}
use denote.RawPtr.{Ptr}
use Rattle.dr_cells.specs.declared.token.Token.{Token}
use Rattle.dr_cells.specs.Hold.{whole}
use Rattle.dr_cells.specs.Tokens.{token_at}
use Rattle.dr_lent.specs.Rows.{cells_of}
use Rattle.dr_plain.specs.Calls.Ends.{SenderEnd}
use Rattle.dr_plain.specs.Calls.Sending.{WriteCall}
use Rattle.dr_plain.specs.Inside.Views.{sender_end}
use Rattle.dr_runs.proofs.Beginnings.{begins_same}
use Rattle.dr_plain.proofs.Writing.{fits_write, write_done, write_unclaimed}
use Rattle.dr_plain.proofs.sender.Sender.write.Goals as goal
use Rattle.dr_plain.proofs.sender.Sender.write.Goals.{After-put_at}

pub returns-then-sequence-self : goal.returns-then-sequence-self
returns-then-sequence-self g c = ((refl, begins_same _), write_unclaimed c.self.invariant c.self.view_is c.args.sequence c.args.event c.if-sequence-self.true, refl)

-- the token goes back to its place
put : (g : _) (c : After-put_at g) → (let place = c.place-place.result in
    c.put_at.new.row.items ≡ set (set c.self.inside.tokens.items place c.blank.result) place (token_at c.self.inside.station.knows.plan.strip place (whole c.args.event)))
put g c =
    let place = c.place-place.result in
    let token = c.write_in.ensures ∙ ap (λ (p : Ptr). let t : Token g.row.T.Denot = token_at p place (whole c.args.event) in t) c.self.invariant.strip in
    c.put_at.ensures.row ∙ (λ i. set (c.put_at-token.ensures.row i) place (token i))

pub invariant_of-self : goal.invariant_of-self
invariant_of-self g c =
    fits_write c.blank.result c.args.sequence c.place-place.result c.args.event c.self.invariant c.if-sequence-self-2.false c.if-sequence-self.false c.note.ensures c.place-place.ensures.place
    (put g (goal.at.invariant_of-self g c).After-put_at)

pub returns : goal.returns
returns g c =
    subst (λ (E : SenderEnd g.row.T.Denot). WriteCall E c.args.sequence c.args.event (sender_end c.self.inside.station c.note.new.self (cells_of c.put_at.new.row.items)) (Ok tt)) c.self.view_is (
      (refl, begins_same c.self.inside.station.past),
      write_done c.blank.result c.args.sequence c.place-place.result c.args.event c.self.invariant c.if-sequence-self-2.false c.if-sequence-self.false c.note.ensures c.place-place.ensures.place
          (put g (goal.at.returns g c).After-put_at) refl,
      refl,
    )
