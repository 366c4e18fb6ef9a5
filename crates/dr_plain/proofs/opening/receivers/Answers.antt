use Rattle.std.proofs.Common.{◌<◌, length, arith, ap, sym, subst, ◌∙◌}
use Rattle.std.proofs.lemmas.List.{length-replicate}
use Rattle.dr_cells.specs.Tokens.{no_token}
use Rattle.dr_lent.proofs.Going.{cut_on}
use Rattle.dr_plain.specs.Meaning.Shape.{handlers_of}
use Rattle.dr_runs.specs.Seats.{end_of}
use Rattle.dr_plain.specs.Inside.Seats.{Sitting}
use Rattle.dr_plain.specs.Inside.Stations.{ReceiverSits}
use Rattle.dr_plain.proofs.Making.{cut_own, cut_rest, sits_fresh, fits_fresh, listed_next, view_fresh}
use Rattle.dr_plain.proofs.opening.receivers.Goals as goal

pub split_seat-next-requires : goal.split_seat-next-requires
split_seat-next-requires g c = let t = c.requires.table in (
  c.loop-number.invariant.0 ∙ t.0 ∙ ap (λ r. r.table.shared.table_id) (sym c.deref-in-loop-number-2.ensures),
  subst (λ r. 0 < r.table.shared.table_id.words) (sym c.deref-in-loop-number-2.ensures) (omega arith),
  cut_on _ _ _,
)

pub invariant_of-station : goal.invariant_of-station
invariant_of-station g c =
    let t = c.requires.table in let count = c.handlers-handlers.ensures.count ∙ ap (λ r. handlers_of r.plan) c.deref.ensures in
    let test = c.loop-number-test.true in
    subst (λ r. ReceiverSits r.table.shared.table_id c.split_seat-next.new.seat.table_id r.plan (end_of c.split_seat-next.new.seat.me) c.loop-number.number 0) (sym c.in_ok-own.ensures)
    (sits_fresh _ _ _ _ c.loop-number.number (c.split_seat-next.ensures.0 ∙ c.loop-number.invariant.0 ∙ t.0, t.1, t.2) c.requires.made (omega arith)
    (ap (λ (m : Sitting g.row.T.Denot). end_of m) (cut_own _ c.loop-number.number _ _ _ (omega arith) c.loop-number.invariant.1 c.split_seat-next.ensures.2)))

pub invariant_of-push : goal.invariant_of-push
invariant_of-push g c =
    let count = c.handlers-handlers.ensures.count ∙ ap (λ r. handlers_of r.plan) c.deref.ensures in let test = c.loop-number-test.true in
    fits_fresh _ c.loop-number.number _ _ _ (cut_own _ c.loop-number.number _ _ _ (omega arith) c.loop-number.invariant.1 c.split_seat-next.ensures.2) (ap length c.in_ok-parts.ensures ∙ length-replicate _ no_token ∙ c.get.ensures.value ∙ c.size.ensures ∙ ap (λ r. r.plan.size) c.deref-in-loop-number.ensures)

pub loop-number-preserved : goal.loop-number-preserved
loop-number-preserved g c =
    let own = c.split_seat-next.ensures in let inv = c.loop-number.invariant in
    let count = c.handlers-handlers.ensures.count ∙ ap (λ r. handlers_of r.plan) c.deref.ensures in let test = c.loop-number-test.true in (
      own.3 ∙ inv.0,
      cut_rest _ c.loop-number.number _ _ _ (omega arith) inv.1 own.4,
      listed_next c.args.rest.table_id _ c.loop-number.number _ c.loop-number.receivers.items _ _ _ (omega arith) inv.2 c.in_ok-push.ensures.items
          (view_fresh c.args.rest.table_id _ _ _ c.loop-number.number (own.0 ∙ inv.0) (cut_own _ c.loop-number.number _ _ _ (omega arith) inv.1 own.2)),
    )
