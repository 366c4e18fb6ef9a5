use Rattle.std.proofs.Common.{rules, arith, subst}
use Rattle.atomic_table.specs.Table.{Final, Seen}
use Rattle.core.specs.Mem.Slots.{slots_items}
use Rattle.dr_runs.specs.declared.view.View.{View}
use Rattle.dr_plain_senders.specs.declared.record.EndRecord.{EndRecord}
use Rattle.dr_plain_senders.specs.declared.record.Step.{Step}
use Rattle.dr_plain_senders.specs.Inside.Seats.{Ruled}
use Rattle.dr_plain_senders.proofs.Untouched.{untouched, taken_none, taken_more, taken_all}
use Rattle.dr_plain_senders.proofs.giving_up.take_back.Goals as goal

pub loop-slot-init : goal.loop-slot-init
loop-slot-init g c =
    let k = c.args.table.shared.key in let seat = c.args.seat in let values = c.close_with-closed.ensures.values in
    let final =
    subst (λ (v : View (EndRecord g.row.T.Denot) (Step g.row.T.Denot)). Final (Seen (Ruled k) seat.id v) (slots_items c.close_with-closed.result.words)
    (slots_items c.close_with-closed.result.slots)) c.requires.fresh values.2 in (
      values.1,
      (λ j none. absurd (omega arith)),
      (let slots = c.requires.slots in let count = c.close_with-closed.ensures.counts.1 in omega arith),
      taken_none k.strip k.size _ _ c.requires.places (untouched k seat.id _ _ final),
    )

pub loop-slot-preserved : goal.loop-slot-preserved
loop-slot-preserved g c =
    let k = c.args.table.shared.key in let inv = c.loop-slot.invariant in let others = c.take-token.ensures.others in (
      search rules,
      search rules,
      (let room = inv.2 in let same = others.2 in omega arith),
      taken_more k.strip k.size c.loop-slot.slot _ _ _ _ c.take-token.result inv.3 c.take-token.ensures.value others.0 c.put_inside.ensures.inside
          c.put_inside.ensures.beyond,
    )

pub returns : goal.returns
returns g c =
    let k = c.args.table.shared.key in
    let inv = c.loop-slot.invariant in
    let over = c.loop-slot-test.false in
    let count = c.slot_count.ensures in
    let room = inv.2 in
    taken_all k.strip k.size c.loop-slot.slot _ _ inv.3 (omega arith)
