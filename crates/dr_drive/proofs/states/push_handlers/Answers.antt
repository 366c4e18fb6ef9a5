use Rattle.std.proofs.Common.{ap, length, string_bytes, arith}
use Rattle.dr_drive.specs.Inside.States.{handler_seen}
use Rattle.dr_drive.proofs.Pushing.{all_pushed, pushed}
use Rattle.dr_drive.proofs.states.push_handlers.Goals as goal

pub loop-h-preserved : goal.loop-h-preserved
loop-h-preserved c =
    pushed (handler_seen c.args.core.now) 0 c.loop-h.h c.loop-h.h (string_bytes c.args.line.now) (string_bytes c.loop-h.line) (string_bytes c.push_handler.new.line) (omega arith) c.loop-h.invariant c.in_ok-push_handler.ensures

pub returns : goal.returns
returns c =
    all_pushed (handler_seen c.args.core.now) 0 c.loop-h.h _ (string_bytes c.args.line.now) (string_bytes c.loop-h.line) c.loop-h.invariant
    (omega (arith, c.len-h-end.ensures.handlers, ap length c.graph.ensures.upstreams))
