use Rattle.std.proofs.Common.{length, arith, ap, sym, ◌∙◌}
use Rattle.std.specs.Global.{Vec}
use Rattle.dr_plain_senders.specs.Meaning.Shape.{Shape}
use Rattle.dr_plain_senders.proofs.Dealing.{slot_each, are_first}
use Rattle.dr_plain_senders.proofs.Together.{all_fresh}
use Rattle.dr_plain_senders.proofs.opening.ring.Goals as goal

pub deal-requires : goal.deal-requires
deal-requires g c =
    let S = c.in_ok-strip.ensures.ok in let all = S.0.2 in let same = ap length S.1 in let many = c.requires.events in
    let size = ap (λ (k : Shape g.row.T.Denot). k.size) c.in-Ok.ensures.made in (S.0, slot_each c.in-Ok.plan _ _ c.in-Ok.ensures.slots (omega arith))

pub ends-requires-clause-tokens : goal.ends-requires-clause-tokens
ends-requires-clause-tokens g c =
    let S = c.in_ok-strip.ensures.ok in let all = S.0.2 in let same = ap length S.1 in let many = c.requires.events in
    let size = ap (λ (k : Shape g.row.T.Denot). k.size) c.in-Ok.ensures.made in
    are_first c.in-Ok.plan _ _ _ _ _ c.in-Ok.ensures.slots (ap (λ (k : Shape g.row.T.Denot). k.strip) c.in-Ok.ensures.made) (omega arith) (omega arith)
    (ap (λ (k : Shape g.row.T.Denot). k.begun) c.in-Ok.ensures.made ∙ ap (λ (es : Vec g.row.T.Denot). es.items) c.of-begun.ensures ∙ sym S.1) c.deal.ensures

pub returns-in_ok-ends-in-Ok-clause-all : goal.returns-in_ok-ends-in-Ok-clause-all
returns-in_ok-ends-in-Ok-clause-all g c = all_fresh _ _ _ _ c.in_ok-ends-in-Ok.ensures
