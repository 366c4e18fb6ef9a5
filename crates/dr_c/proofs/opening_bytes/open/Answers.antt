use Rattle.std.proofs.Common.{rules, sym, ◌∙◌}
use Rattle.dr_c.specs.Opening.{are_open}
use Rattle.dr_c.proofs.Opened.{fine_here}
use Rattle.dr_c.proofs.opening_bytes.open.Goals as goal

pub returns : goal.returns
returns c =
    let made = c.in_ok-w in (
      fine_here (are_open c.args.sender.now c.args.receivers.now c.args.halter.now) _ 1 c.args.size c.args.limit c.args.masks.now
          (sym c.is_one_open.ensures ∙ c.if-is_one_open.false)
          c.if-receivers-masks.false c.in_ok-w.ensures.fine,
      record { w = made.w; rs = made.rs.items; h = made.h; opened = c.in_ok-w.ensures.made; sends = search rules; receives = search rules; halts = search rules },
    )
