use Rattle.std.proofs.Common.{subst, sym, length}
use Rattle.dr_lock.specs.Inside.Sequences.{Changes, Speaks}
use Rattle.dr_lock.proofs.Following.{speaks_at, passed_at}
use Rattle.dr_lock.proofs.sequences.sequences.Goals as goal

pub take_in-requires : goal.take_in-requires
take_in-requires g c =
    let list = c.loop-entry.list.items in
    rw (c.loop-entry.list.ok.0)
    (subst (λ e. Speaks e.command (length list)) (sym c.entry-item.is) (speaks_at c.requires.0 list c.args.entries.now c.loop-entry.entry-index c.entry-item.result c.requires.1 c.loop-entry-test.true (c.loop-entry.invariant c.requires.0 c.requires.1 c.requires.2)))

pub loop-entry-preserved : goal.loop-entry-preserved
loop-entry-preserved g c setup end follows =
    let list = c.loop-entry.list.items in
    passed_at setup list c.take_in.new.list.items c.args.entries.now c.loop-entry.entry-index c.entry-item.result end c.loop-entry-test.true (c.loop-entry.invariant setup end follows) (subst (λ e. Changes e.command list c.take_in.new.list.items) c.entry-item.is c.in_ok-take_in.ensures)
