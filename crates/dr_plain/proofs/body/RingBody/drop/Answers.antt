use Rattle.std.proofs.Common.{ap, sym, ◌∙◌}
use Rattle.dr_plain.specs.Meaning.Shape.{handlers_of}
use Rattle.dr_plain.specs.Calls.Ends.{HalterEnd}
use Rattle.dr_plain.specs.Inside.Leaving.{BelongsHalter}
use Rattle.dr_plain.proofs.Departed.{last_one, last_sender}
use Rattle.dr_plain.proofs.body.RingBody.drop.Goals as goal

pub end-requires-clause-sender : goal.end-requires-clause-sender
end-requires-clause-sender g c =
    let told = c.args.self.told in
    last_sender _ _ _ _ _ _ c.in-Some-pop.sender c.in-Some.ensures.1 c.in-Some-pop.ensures
    (λ i. (told.0 i).table_id) ((λ i. (told.0 i).key) ∙ c.args.self.made)

pub end-requires-clause-ends : goal.end-requires-clause-ends
end-requires-clause-ends g c =
    let told = c.args.self.told in let all = c.in-Some-close.ensures in
    let B = last_sender _ _ _ _ _ _ c.in-Some-pop.sender c.in-Some.ensures.1 c.in-Some-pop.ensures
    (λ i. (told.0 i).table_id) ((λ i. (told.0 i).key) ∙ c.args.self.made) in record {
      receivers = record {
        all = all.0 ∙ c.args.self.many.1 ∙ ap handlers_of (sym B.1);
        each = λ h e at. (let of = all.1 h e at in (of.0 ∙ (λ i. (told.1 i).table_id) ∙ sym B.0.0, of.1));
      };
      halter = last_one (λ _ (t : HalterEnd g.row.T.Denot). BelongsHalter c.args.self.halters.key.table_id t) _ _ _ c.in-Some-close-2.ensures.1 c.in-Some-pop-2.ensures
          ∙ (λ i. (told.2 i).table_id) ∙ sym B.0.0;
    }
