use Rattle.std.proofs.Common.{length, string_bytes, arith}
use Rattle.dr_drive.proofs.Pushing.{all_pushed, pushed}
use Rattle.dr_show.specs.Meaning.StateText.{named_object}
use Rattle.dr_show.proofs.exchanges.put_names.Goals as goal

pub loop-h-preserved : goal.loop-h-preserved
loop-h-preserved c =
    pushed (named_object c.args.graph.now.names c.args.graph.now.upstreams) 0 c.loop-h.h c.loop-h.h (string_bytes c.args.page.now) (string_bytes c.loop-h.page) (string_bytes c.put_name.new.page) (omega arith) c.loop-h.invariant c.in_ok-put_name.ensures

pub returns : goal.returns
returns c =
    all_pushed (named_object c.args.graph.now.names c.args.graph.now.upstreams) 0 c.loop-h.h (length c.args.graph.now.upstreams) (string_bytes c.args.page.now) (string_bytes c.loop-h.page) c.loop-h.invariant (omega (arith, c.len-h-end.ensures.handlers))
