use Rattle.std.proofs.Common.{◌≡◌}
use Rattle.dr_plain.specs.Calls.Ends.{sender_place}
use Rattle.disruptor_bench.proofs.in_one_call.send_for.Given as goal

abbrev pub invariant-loop : goal.invariant-loop
invariant-loop g l = sender_place l.sender ≡ sender_place l.fn.sender
