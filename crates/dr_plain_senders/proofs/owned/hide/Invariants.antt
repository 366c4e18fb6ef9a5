use Rattle.std.proofs.Common.{◌≡◌, ◌-◌, map}
use Rattle.dr_plain_senders.specs.Inside.Owned.{claimed_by, written_by, published_by, wiped}
use Rattle.dr_plain_senders.proofs.owned.hide.Given as goal

abbrev pub invariant-loop-sequence : goal.invariant-loop-sequence
invariant-loop-sequence l = (map published_by l.marks.items ≡ wiped (map published_by l.fn.marks.items) l.from (l.sequence - l.from))
    × (map claimed_by l.marks.items ≡ map claimed_by l.fn.marks.items) × (map written_by l.marks.items ≡ map written_by l.fn.marks.items)
