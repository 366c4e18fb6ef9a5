use Rattle.std.proofs.Common.{◌≡◌, ◌++◌, All, map}
use Rattle.dr_c.specs.OpeningSeveral.{end_of}
use Rattle.dr_c.specs.Slots.{HasClaimed}
use Rattle.dr_c.proofs.opening_several.each_of_several.Given as goal

abbrev pub invariant-loop-sender : goal.invariant-loop-sender
invariant-loop-sender l = (map end_of l.each.items ++ l.sender-iterator.rest.items ≡ l.fn.senders.items) × All HasClaimed l.sender-iterator.rest.items
