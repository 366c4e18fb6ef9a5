use Rattle.std.proofs.Common.{List, Vec, Global, Some, map, ap, sym, arith, ◌∙◌}
use Rattle.dr_cells.specs.declared.token.Token.{Token}
use Rattle.dr_plain.specs.Meaning.Shape.{Shape, handlers_of}
use Rattle.dr_plain.specs.Inside.Seats.{Sitting}
use Rattle.dr_plain.specs.Inside.Gathering.{halter_known}
use Rattle.dr_plain.specs.Inside.Stations.{sender_stand}
use Rattle.dr_plain.specs.Calls.Ends.{SenderEnd, HalterEnd}
use Rattle.dr_plain.proofs.Ending.{AllTogether, takes_in, has_all}
use Rattle.dr_plain.proofs.Departed.{sender_in, halter_in, kept_of}
use Rattle.dr_plain.proofs.over.end.Goals as goal
use Rattle.dr_plain.proofs.over.end.Given.{Over}
use Rattle.dr_plain.proofs.over.end.Goals.{After-gather_receivers_left}

-- all that the ends left comes together in the sender's seat
come : (g : Over) (c : After-gather_receivers_left g)
    → AllTogether c.sender.inside.seat.me.0 c.unite.new.seat.me.0 c.gather_receivers_left.new.seat.me.0 c.args.sender c.args.receivers c.args.halter
come g c = record {
  mine = sender_in _ c.sender.inside.seat.me _ _ c.args.sender c.sender.invariant.0 c.sender.view_is;
  halter = takes_in _ _ _ (halter_known c.args.halter) (halter_in _ c.halter.inside.seat.me c.args.halter c.halter.invariant c.halter.view_is)
      (ap (λ (m : Sitting g.row.T.Denot). m.0) c.unite.ensures.view);
  receivers = c.gather_receivers_left.ensures.view;
  all = c.requires.ends;
}

pub unite-requires : goal.unite-requires
unite-requires g c =
    let B = c.requires.sender in let words = B.0.1 in record {
      table = (
        ap (λ (e : SenderEnd g.row.T.Denot). e.ring) c.sender.view_is ∙ B.0.0,
        ap (λ (e : HalterEnd g.row.T.Denot). e.ring) c.halter.view_is ∙ c.requires.ends.halter ∙ B.0.0,
        omega arith,
      );
    }

pub gather_receivers_left-requires-clause-table : goal.gather_receivers_left-requires-clause-table
gather_receivers_left-requires-clause-table g c =
    let B = c.requires.sender in let words = B.0.1 in
    (c.unite.ensures.seat.0 ∙ ap (λ (e : SenderEnd g.row.T.Denot). e.ring) c.sender.view_is ∙ B.0.0, omega arith)

pub gather_receivers_left-requires-clause-receivers : goal.gather_receivers_left-requires-clause-receivers
gather_receivers_left-requires-clause-receivers g c h e at =
    (c.requires.ends.receivers.each h e at).0 ∙ sym (ap (λ (s : SenderEnd g.row.T.Denot). s.ring) c.sender.view_is) ∙ sym c.unite.ensures.seat.0

pub gather_receivers_left-requires-clause-places : goal.gather_receivers_left-requires-clause-places
gather_receivers_left-requires-clause-places g c =
    c.sender.invariant.1.places.0 ∙ ap (λ (s : SenderEnd g.row.T.Denot). handlers_of s.knows.plan) c.sender.view_is ∙ sym c.requires.ends.receivers.all

pub gather_receivers_left-requires-clause-rooms : goal.gather_receivers_left-requires-clause-rooms
gather_receivers_left-requires-clause-rooms g c =
    c.sender.invariant.1.places.1 ∙ ap (λ (s : SenderEnd g.row.T.Denot). handlers_of s.knows.plan) c.sender.view_is ∙ sym c.requires.ends.receivers.all

pub reclaim_all-row-requires-clause-table : goal.reclaim_all-row-requires-clause-table
reclaim_all-row-requires-clause-table g c =
    let B = c.requires.sender in let words = B.0.1 in
    (c.gather_receivers_left.ensures.seat.0 ∙ c.unite.ensures.seat.0 ∙ ap (λ (e : SenderEnd g.row.T.Denot). e.ring) c.sender.view_is ∙ B.0.0, omega arith)

pub reclaim_all-row-requires-clause-cells : goal.reclaim_all-row-requires-clause-cells
reclaim_all-row-requires-clause-cells g c =
    c.sender.invariant.1.strip ∙ ap (λ (s : SenderEnd g.row.T.Denot). s.knows.plan.strip) c.sender.view_is ∙ ap (λ (k : Shape). k.strip) c.requires.sender.1

pub reclaim_all-row-requires-clause-together : goal.reclaim_all-row-requires-clause-together
reclaim_all-row-requires-clause-together g c =
    let s = c.args.sender in let es = c.args.receivers in let t = c.args.halter in let me = c.sender.inside.seat in
    let items : Vec (Token g.row.T.Denot) Global → List (Token g.row.T.Denot) = λ hand. hand.items in
    let A = come g (goal.at.reclaim_all-row-requires-clause-together g c).After-gather_receivers_left in (
      s,
      es,
      t,
      sym c.requires.sender.1,
      has_all _ _ _ s es t A,
      kept_of (sender_stand me.table_id me.me) _ s es c.gather_receivers_left.new.counts.items (map items c.gather_receivers_left.new.hands.items) c.sender.invariant.1
          (ap (λ (e : SenderEnd g.row.T.Denot). e.knows) c.sender.view_is) c.gather_receivers_left.ensures.counts c.gather_receivers_left.ensures.hands,
    )

pub close-requires : goal.close-requires
close-requires g c =
    let all = c.reclaim_all-row.ensures.all in let F = c.sender.invariant.1 in (all.0, all.1, all.2 ∙ F.tokens.count ∙ sym F.cells)

pub returns : goal.returns
returns g c =
    ap (map (λ (event : g.row.T.Denot). Some event)) c.close.ensures ∙ c.reclaim_all-row.ensures.events
    ∙ ap (λ (e : SenderEnd g.row.T.Denot). e.cells) c.sender.view_is
