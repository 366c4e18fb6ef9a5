use Rattle.std.proofs.Common.{◌≡◌, ◌+◌, ◌-◌, ◌≤◌}
use Rattle.dr_plain_senders.specs.Inside.Fits.{open_count}
use Rattle.dr_plain_senders.specs.Inside.Owned.{is_open}
use Rattle.dr_plain_senders.proofs.owned.Owned.count_open.Given as goal

abbrev pub invariant-loop-sequence : goal.invariant-loop-sequence
invariant-loop-sequence l =
    (l.count + open_count (is_open l.self) l.sequence (l.upto - l.sequence) ≡ open_count (is_open l.self) l.from (l.upto - l.from))
    × (l.from ≤ l.sequence) × (l.count + l.from ≤ l.sequence)
