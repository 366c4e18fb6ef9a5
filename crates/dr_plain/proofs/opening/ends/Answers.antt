use Rattle.std.proofs.Common.{length, sym, ap, ◌∙◌}
use Rattle.dr_lent.specs.Rows.{cells_of}
use Rattle.dr_plain.specs.Calls.Ends.{SenderStand}
use Rattle.dr_plain.specs.Inside.Noted.{writes_from}
use Rattle.dr_plain.proofs.Opened.{fits_new, cells_new}
use Rattle.dr_plain.proofs.opening.ends.Goals as goal

pub invariant_of-sender : goal.invariant_of-sender
invariant_of-sender g c =
    let P = c.requires.prepared in let S = c.requires.strip in
    fits_new _ _ c.args.row.items _ _ _ _ _ _ _ P.made c.new.ensures P.stands.sender P.written (c.deal.ensures.count ∙ P.tokens) (S.2.2 ∙ sym S.1) c.deal.ensures.each (sym S.0) (sym S.1) P.counts P.hands

pub returns : goal.returns
returns g c =
    let P = c.requires.prepared in let S = c.requires.strip in let first = P.stands.sender in record {
      sender = ap (λ (e : SenderStand g.row.T.Denot). e.knows) first;
      writes = ap (λ (e : SenderStand g.row.T.Denot). writes_from c.args.prepared.written (cells_of c.deal.new.tokens.items) (length e.knows.published) e.knows.pending) first;
      cells = cells_new _ c.args.row.items _ (c.deal.ensures.count ∙ P.tokens ∙ S.1 ∙ sym S.2.2) c.deal.ensures.each;
      past = ap (λ (e : SenderStand g.row.T.Denot). e.past) first;
      stored = ap (λ (e : SenderStand g.row.T.Denot). e.stored) first;
      receivers = P.stands.receivers;
      halter = P.stands.halter;
    }
