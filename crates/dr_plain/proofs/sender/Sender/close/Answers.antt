use Rattle.std.proofs.Common.{◌≡◌, List, [], ◌∷◌, ◌++◌, length, Ok, arith, refl, ap, ◌∙◌, subst, append_assoc}
use Rattle.dr_lent.specs.Rows.{cells_of}
use Rattle.dr_plain.specs.Meaning.Records.{sender_halted, sender_closed}
use Rattle.dr_plain.specs.declared.record.SenderRecord.{SenderRecord}
use Rattle.dr_plain.specs.declared.record.Step.{Step}
use Rattle.dr_plain.specs.declared.record.Step.TheVariants.{SenderHalts, SenderCloses}
use Rattle.dr_plain.specs.Calls.Ends.{SenderEnd}
use Rattle.dr_plain.specs.Calls.Sending.{CloseCall}
use Rattle.dr_plain.specs.Inside.Noted.{writes_from}
use Rattle.dr_plain.specs.Inside.Views.{sender_end}
use Rattle.dr_runs.proofs.Beginnings.{begins_on}
use Rattle.dr_plain.proofs.sender.Sender.close.Goals as goal

pub returns : goal.returns
returns g c =
    let H = c.halt.ensures in let C = c.close.ensures in let e = c.self.inside.station in let w = c.self.inside.written in let cells = cells_of c.self.inside.tokens.items in
    let knows : c.close.new.self.knows ≡ sender_closed (sender_halted e.knows) = C.1 ∙ ap sender_closed H.1 in
    let next = c.self.invariant.next in let front = c.self.invariant.front in let all = c.if-self.false in
    subst (λ (E : SenderEnd g.row.T.Denot). CloseCall E (sender_end c.close.new.self w cells) (Ok tt)) c.self.view_is (
      ((λ i. ((C.0 ∙ H.0) i, (knows i).plan)), begins_on e.past _ _ H.3 C.3),
      (omega arith, knows),
      ap (λ (r : SenderRecord g.row.T.Denot). writes_from w cells (length r.published) r.pending) knows,
      refl,
      C.4 ∙ ap (λ (steps : List (Step g.row.T.Denot)). steps ++ SenderCloses ∷ []) H.4 ∙ append_assoc e.stored (SenderHalts ∷ []) (SenderCloses ∷ []),
    )
