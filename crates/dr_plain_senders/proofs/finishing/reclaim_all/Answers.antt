use Rattle.std.proofs.Common.{subst, ◌∙◌}
use denote.RawPtr.{Ptr}
use Rattle.dr_lent.specs.Rows.{AreAllWhole}
use Rattle.dr_plain_senders.specs.Meaning.Shape.{Shape}
use Rattle.dr_plain_senders.specs.Inside.Finishing.{TookAll}
use Rattle.dr_plain_senders.proofs.Departed.{claimed_few, counts_all, wide_all, rows_all, whole_all, many_all, events_all}
use Rattle.dr_plain_senders.proofs.finishing.reclaim_all.Goals as goal
use Rattle.dr_plain_senders.proofs.finishing.reclaim_all.Given.{Over}
use Rattle.dr_plain_senders.proofs.finishing.reclaim_all.Goals.{After-take_all-found}

-- what it took, by what the ring is made for
took : (g : Over) (c : After-take_all-found g) → TookAll c.args.plan.now c.args.seat.me c.take_all-found.result c.take_all-found.new.seat.me
took g c =
    subst (λ (k : Shape g.row.T.Denot). TookAll k c.args.seat.me c.take_all-found.result c.take_all-found.new.seat.me)
    c.requires.made.0 c.take_all-found.ensures.took

pub take_all-found-requires-clause-ends : goal.take_all-found-requires-clause-ends
take_all-found-requires-clause-ends g c =
    let G = c.requires.together in (G.0, G.1, G.2, G.3.ends, c.requires.made.0 ∙ G.3.plan)

pub reclaim-tokens-requires-clause-limit : goal.reclaim-tokens-requires-clause-limit
reclaim-tokens-requires-clause-limit g c =
    claimed_few c.requires.together.3 (took g (goal.at.reclaim-tokens-requires-clause-limit g c).After-take_all-found) _
    c.claimed_in-claimed.ensures.is c.requires.made.1

pub reclaim-tokens-requires-clause-counts : goal.reclaim-tokens-requires-clause-counts
reclaim-tokens-requires-clause-counts g c =
    counts_all c.requires.together.3 (took g (goal.at.reclaim-tokens-requires-clause-counts g c).After-take_all-found)

pub reclaim-tokens-requires-clause-hands : goal.reclaim-tokens-requires-clause-hands
reclaim-tokens-requires-clause-hands g c =
    wide_all c.requires.together.3 (took g (goal.at.reclaim-tokens-requires-clause-hands g c).After-take_all-found)

pub reclaim-tokens-requires-clause-places : goal.reclaim-tokens-requires-clause-places
reclaim-tokens-requires-clause-places g c = let B = c.requires.together.3.cells in (B.count, B.many)

pub reclaim-tokens-requires-clause-rows : goal.reclaim-tokens-requires-clause-rows
reclaim-tokens-requires-clause-rows g c =
    let X = took g (goal.at.reclaim-tokens-requires-clause-rows g c).After-take_all-found in
    (X.laid, rows_all c.requires.together.3 X _ c.claimed_in-claimed.ensures.is)

pub whole_row-requires : goal.whole_row-requires
whole_row-requires g c =
    let A = c.requires.together.3 in let X = took g (goal.at.whole_row-requires g c).After-take_all-found in let is = c.claimed_in-claimed.ensures.is in
    let back = c.reclaim-tokens.ensures.back X.laid (rows_all A X _ is) in
    subst (λ (p : Ptr). AreAllWhole p c.reclaim-tokens.result.items) c.requires.cells (whole_all A X _ is _ back)

pub returns-clause-ran : goal.returns-clause-ran
returns-clause-ran g c = let X = took g (goal.at.returns-clause-ran g c).After-take_all-found in (X.ran, X.finds)

pub returns-clause-all : goal.returns-clause-all
returns-clause-all g c =
    let A = c.requires.together.3 in let X = took g (goal.at.returns-clause-all g c).After-take_all-found in let is = c.claimed_in-claimed.ensures.is in
    let back = c.reclaim-tokens.ensures.back X.laid (rows_all A X _ is) in let all = c.whole_row.ensures.all in
    (all.0, all.1, all.2 ∙ many_all A X _ is _ back)

pub returns-clause-events : goal.returns-clause-events
returns-clause-events g c ss rs t A =
    let X = took g (goal.at.returns-clause-events g c).After-take_all-found in let is = c.claimed_in-claimed.ensures.is in
    let back = c.reclaim-tokens.ensures.back X.laid (rows_all A X _ is) in
    events_all A X _ is _ back c.whole_row.result.items c.whole_row.ensures.items
