use Rattle.std.proofs.Common.{◌++◌, codes, flat_map, string_bytes}
use Rattle.std.specs.List.{range_with_len}
use Rattle.dr_meaning.specs.Meaning.Machine.{handlers}
use Rattle.dr_drive.specs.Inside.States.{counts_seen, handler_seen}
use Rattle.dr_drive.proofs.Pushing.{last_text, then_put}
use Rattle.dr_drive.proofs.states.push_state.Goals as goal

pub returns : goal.returns
returns c =
    let v = c.args.core.now in
    let all = flat_map (handler_seen v) (range_with_len 0 (handlers v.setup)) in
    let old = string_bytes c.args.line.now in
    let named = string_bytes c.push_handlers.new.line in
    last_text c.push_str.result old (counts_seen v ++ all) (codes "\n") named (string_bytes c.push_str.new.self)
    (then_put old (counts_seen v) all (string_bytes c.push_counts.new.line) named c.in_ok-push_counts.ensures c.in_ok-push_handlers.ensures) c.push_str.ensures.bytes
