use Rattle.std.proofs.Common.{◌++◌, ◌∙◌, ap, length, string_bytes, arith}
use Rattle.dr_drive.proofs.Pushing.{all_pushed, pushed}
use Rattle.dr_show.specs.Meaning.StateText.{handler_object}
use Rattle.dr_show.specs.Inside.Seen.{handler_seen}
use Rattle.dr_show.proofs.handlers.put_each.Goals as goal

pub loop-h-preserved : goal.loop-h-preserved
loop-h-preserved c =
    let h = c.loop-h.h in
    pushed (handler_seen c.args.core.now) 0 h h (string_bytes c.args.page.now) (string_bytes c.loop-h.page) (string_bytes c.put_handler.new.page) (omega arith) c.loop-h.invariant
    (c.in_ok-put_handler.ensures ∙ ap (λ it. string_bytes c.loop-h.page ++ handler_object h it) c.state_of.ensures)

pub returns : goal.returns
returns c =
    all_pushed (handler_seen c.args.core.now) 0 c.loop-h.h _ (string_bytes c.args.page.now) (string_bytes c.loop-h.page) c.loop-h.invariant
    (omega (arith, c.len-h-end.ensures.handlers, ap length c.graph.ensures.upstreams))
