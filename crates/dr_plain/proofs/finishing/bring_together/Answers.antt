use Rattle.std.proofs.Common.{◌<◌, List, Vec, Global, Some, map, ap, sym, subst, arith, ◌∙◌}
use Rattle.dr_cells.specs.declared.token.Token.{Token}
use Rattle.dr_plain.specs.Meaning.Shape.{handlers_of}
use Rattle.dr_plain.specs.Inside.Seats.{Sitting}
use Rattle.dr_plain.specs.Inside.Gathering.{halter_known}
use Rattle.dr_plain.specs.Inside.Stations.{sender_stand}
use Rattle.dr_plain.specs.Calls.Ends.{SenderEnd, HalterEnd}
use Rattle.dr_plain.proofs.Gathering.{all_settle, all_unhalted, has_run}
use Rattle.dr_plain.proofs.Ending.{AllTogether, takes_in, has_all}
use Rattle.dr_plain.proofs.Departed.{sender_in, halter_in, kept_of, together_of}
use Rattle.dr_plain.proofs.finishing.bring_together.Goals as goal
use Rattle.dr_plain.proofs.finishing.bring_together.Given.{Over}
use Rattle.dr_plain.proofs.finishing.bring_together.Goals.{After-gather_receivers}

-- all ends come together in the sender's seat
come : (g : Over) (c : After-gather_receivers g)
    → AllTogether c.sends.inside.seat.me.0 c.unite.new.seat.me.0 c.gather_receivers.new.seat.me.0 c.args.sender c.args.receivers.items c.args.halter
come g c = record {
  mine = sender_in _ c.sends.inside.seat.me _ _ c.args.sender c.sends.invariant.0 (c.sends.view_is ∙ c.into_left-ring.ensures.left);
  halter = takes_in _ _ _ (halter_known c.args.halter)
      (halter_in _ c.halts.inside.seat.me c.args.halter c.halts.invariant (c.halts.view_is ∙ c.into_left-halts.ensures.left))
      (ap (λ (m : Sitting g.row.T.Denot). m.0) c.unite.ensures.view);
  receivers = c.gather_receivers.ensures.view;
  all = c.requires;
}

pub unite-requires : goal.unite-requires
unite-requires g c =
    let B = c.into_left-ring.ensures.ring in let words = B.0.1 in let at = ap (λ r. r.table.shared.table_id) (sym c.deref.ensures) in record {
      table = (
        ap (λ (e : SenderEnd g.row.T.Denot). e.ring) (c.sends.view_is ∙ c.into_left-ring.ensures.left) ∙ B.0.0 ∙ at,
        ap (λ (e : HalterEnd g.row.T.Denot). e.ring) (c.halts.view_is ∙ c.into_left-halts.ensures.left) ∙ c.requires.halter ∙ B.0.0 ∙ at,
        subst (λ r. 0 < r.table.shared.table_id.words) (sym c.deref.ensures) (omega arith),
      );
    }

pub gather_receivers-requires-clause-table : goal.gather_receivers-requires-clause-table
gather_receivers-requires-clause-table g c =
    let B = c.into_left-ring.ensures.ring in
    (c.unite.ensures.seat.0 ∙ ap (λ (e : SenderEnd g.row.T.Denot). e.ring) (c.sends.view_is ∙ c.into_left-ring.ensures.left) ∙ B.0.0, B.0.1, B.0.2)

pub gather_receivers-requires-clause-receivers : goal.gather_receivers-requires-clause-receivers
gather_receivers-requires-clause-receivers g c h e at =
    let ring = ap (λ (s : SenderEnd g.row.T.Denot). s.ring) (c.sends.view_is ∙ c.into_left-ring.ensures.left) in
    (c.requires.receivers.each h e at).0 ∙ sym ring ∙ sym c.unite.ensures.seat.0

pub gather_receivers-requires-clause-places : goal.gather_receivers-requires-clause-places
gather_receivers-requires-clause-places g c =
    let all = ap (λ (s : SenderEnd g.row.T.Denot). handlers_of s.knows.plan) (c.sends.view_is ∙ c.into_left-ring.ensures.left) in
    c.sends.invariant.1.places.0 ∙ all ∙ sym c.requires.receivers.all

pub gather_receivers-requires-clause-rooms : goal.gather_receivers-requires-clause-rooms
gather_receivers-requires-clause-rooms g c =
    let all = ap (λ (s : SenderEnd g.row.T.Denot). handlers_of s.knows.plan) (c.sends.view_is ∙ c.into_left-ring.ensures.left) in
    c.sends.invariant.1.places.1 ∙ all ∙ sym c.requires.receivers.all

pub reclaim_all-row-requires-clause-together : goal.reclaim_all-row-requires-clause-together
reclaim_all-row-requires-clause-together g c =
    let s = c.args.sender in let es = c.args.receivers.items in let t = c.args.halter in let me = c.sends.inside.seat in
    let items : Vec (Token g.row.T.Denot) Global → List (Token g.row.T.Denot) = λ hand. hand.items in
    let A = come g (goal.at.reclaim_all-row-requires-clause-together g c).After-gather_receivers in (
      s,
      es,
      t,
      ap (λ r. r.plan) c.deref-3.ensures ∙ sym c.into_left-ring.ensures.ring.1,
      has_all _ _ _ s es t A,
      kept_of (sender_stand me.table_id me.me) _ s es c.gather_receivers.new.counts.items (map items c.gather_receivers.new.hands.items) c.sends.invariant.1
          (ap (λ (e : SenderEnd g.row.T.Denot). e.knows) (c.sends.view_is ∙ c.into_left-ring.ensures.left)) c.gather_receivers.ensures.counts c.gather_receivers.ensures.hands,
    )

pub close-requires : goal.close-requires
close-requires g c =
    let all = c.reclaim_all-row.ensures.all in let F = c.sends.invariant.1 in (all.0, all.1, all.2 ∙ F.tokens.count ∙ sym F.cells)

pub returns-clause-lists : goal.returns-clause-lists
returns-clause-lists g c =
    let s = c.args.sender in let es = c.args.receivers.items in let t = c.args.halter in
    let H = has_all _ _ _ s es t (come g (goal.at.returns-clause-lists g c).After-gather_receivers) in
    all_settle _ _ _ s es (together_of _ _ s es t H c.reclaim_all-row.ensures.ran)

pub returns-clause-unhalted : goal.returns-clause-unhalted
returns-clause-unhalted g c =
    let s = c.args.sender in let es = c.args.receivers.items in let t = c.args.halter in
    let H = has_all _ _ _ s es t (come g (goal.at.returns-clause-unhalted g c).After-gather_receivers) in
    all_unhalted _ _ _ s es t H.halter (together_of _ _ s es t H c.reclaim_all-row.ensures.ran)

pub returns-clause-run : goal.returns-clause-run
returns-clause-run g c =
    let s = c.args.sender in let es = c.args.receivers.items in let t = c.args.halter in
    let H = has_all _ _ _ s es t (come g (goal.at.returns-clause-run g c).After-gather_receivers) in
    has_run _ _ _ s es t H.halter (together_of _ _ s es t H c.reclaim_all-row.ensures.ran) c.moments.ensures.leads c.moments.ensures.laws

pub returns-clause-events : goal.returns-clause-events
returns-clause-events g c =
    ap (map (λ (event : g.row.T.Denot). Some event)) c.close.ensures ∙ c.reclaim_all-row.ensures.events
    ∙ ap (λ (e : SenderEnd g.row.T.Denot). e.cells) (c.sends.view_is ∙ c.into_left-ring.ensures.left)
