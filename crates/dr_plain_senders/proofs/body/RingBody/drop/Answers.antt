use Rattle.std.proofs.Common.{◌∙◌}
use Rattle.dr_plain_senders.proofs.Departed.{last_halter, all_left}
use Rattle.dr_plain_senders.proofs.body.RingBody.drop.Goals as goal

pub end-requires-clause-halter : goal.end-requires-clause-halter
end-requires-clause-halter g c =
    let told = c.args.self.told in
    last_halter _ _ c.in-Some-close-2.ensures.1 c.in-Some-pop.ensures (λ i. (told.2 i).table_id) ((λ i. (told.2 i).key) ∙ c.args.self.made)

pub end-requires-clause-ends : goal.end-requires-clause-ends
end-requires-clause-ends g c =
    let told = c.args.self.told in let made = c.args.self.made in let many = c.args.self.many in
    let H = last_halter _ _ c.in-Some-close-2.ensures.1 c.in-Some-pop.ensures (λ i. (told.2 i).table_id) ((λ i. (told.2 i).key) ∙ made) in
    let ss = c.in-Some.ensures in let rs = c.in-Some-close.ensures in
    all_left H (ss.0 ∙ many.0) ss.1 (λ i. (told.0 i).table_id) ((λ i. (told.0 i).key) ∙ made)
    (rs.0 ∙ many.1) rs.1 (λ i. (told.1 i).table_id) ((λ i. (told.1 i).key) ∙ made)
