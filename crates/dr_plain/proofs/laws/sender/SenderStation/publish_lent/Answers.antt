use Rattle.std.proofs.Common.{List, length, ◌++◌, arith, sym, ap, ◌∙◌, subst}
use Rattle.dr_lent.specs.declared.lent.Lent.{Lent}
use Rattle.dr_plain.specs.Inside.Lending.{HasPublished}
use Rattle.dr_plain.specs.Inside.Seats.{Hand, given_by_publication}
use Rattle.dr_plain.proofs.laws.sender.SenderStation.publish_lent.Goals as goal

pub publish-requires-clause-upto : goal.publish-requires-clause-upto
publish-requires-clause-upto g c = let order = c.requires.order in let count = c.requires.lent.count in let same = ap length c.requires.named in omega arith

pub publish-requires-clause-more : goal.publish-requires-clause-more
publish-requires-clause-more g c = let order = c.requires.order in let count = c.requires.lent.count in let same = ap length c.requires.named in omega arith

pub publish-requires-clause-within : goal.publish-requires-clause-within
publish-requires-clause-within g c = let order = c.requires.order in let count = c.requires.lent.count in let same = ap length c.requires.named in omega arith

pub publish-requires-clause-hand : goal.publish-requires-clause-hand
publish-requires-clause-hand g c =
    let h = c.requires.hand in
    (h.0, h.1 ∙ ap (λ (ls : List (Lent g.row.T.Denot)). let given : Hand g.row.T.Denot = given_by_publication c.args.self.now.knows ls in given ++ h.0) (sym c.requires.named))

pub returns : goal.returns
returns g c = subst (λ (ls : List (Lent g.row.T.Denot)). HasPublished c.args.self.now ls c.publish.new.self) c.requires.named c.publish.ensures
