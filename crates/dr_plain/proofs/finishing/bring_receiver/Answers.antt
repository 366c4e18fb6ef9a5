use Rattle.std.proofs.Common.{List, Vec, Global, map, ap, subst, ◌∙◌}
use Rattle.std.proofs.lemmas.List.{map-set}
use Rattle.dr_cells.specs.declared.token.Token.{Token}
use Rattle.dr_plain.specs.declared.record.ReceiverRecord.{ReceiverRecord}
use Rattle.dr_plain.specs.Inside.Fits.{PartsFit}
use Rattle.dr_plain.specs.Calls.Ends.{ReceiverEnd}
use Rattle.dr_plain.proofs.finishing.bring_receiver.Goals as goal

pub returns-clause-hands : goal.returns-clause-hands
returns-clause-hands g c =
    let knows = ap (λ (e : ReceiverEnd g.row.T.Denot). e.knows) c.receiver.view_is in let parts = c.receiver.inside.parts in
    let items : Vec (Token g.row.T.Denot) Global → List (Token g.row.T.Denot) = λ hand. hand.items in (
      parts.items,
      subst (λ (q : ReceiverRecord g.row.T.Denot). PartsFit q parts.items) knows c.receiver.invariant.1.parts,
      ap (map items) c.put_at.ensures.row ∙ map-set items c.args.hands.now.items c.args.place parts,
    )
