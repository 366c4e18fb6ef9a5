use Rattle.std.proofs.Common.{length, string_bytes, arith}
use Rattle.dr_drive.proofs.Pushing.{all_pushed, pushed}
use Rattle.dr_show.specs.Meaning.StateText.{upstream_text}
use Rattle.dr_show.proofs.exchanges.put_upstreams.Goals as goal

pub loop-place-preserved : goal.loop-place-preserved
loop-place-preserved c =
    pushed (upstream_text c.args.upstreams.now) 0 c.loop-place.place c.loop-place.place (string_bytes c.args.page.now) (string_bytes c.loop-place.page) (string_bytes c.put_upstream.new.page) (omega arith) c.loop-place.invariant c.in_ok-put_upstream.ensures

pub returns : goal.returns
returns c =
    all_pushed (upstream_text c.args.upstreams.now) 0 c.loop-place.place (length c.args.upstreams.now) (string_bytes c.args.page.now) (string_bytes c.loop-place.page) c.loop-place.invariant (omega arith)
