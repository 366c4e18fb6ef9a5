use Rattle.std.proofs.Common.{◌≡◌, ◌-◌, ◌≤◌, ℕ, map}
use Rattle.dr_seq.specs.Rounds.{entry_of}
use Rattle.dr_seq.specs.Stamped.{stamped}
use Rattle.dr_plain_senders.specs.declared.owned.Mark.{Mark}
use Rattle.dr_plain_senders.specs.Inside.Owned.{done}
use Rattle.dr_plain_senders.proofs.owned.mark_all.Given as goal

abbrev pub invariant-loop-next : goal.invariant-loop-next
invariant-loop-next l = (l.from ≤ l.next) × (l.next ≤ l.upto)
    × ((f : Mark → ℕ) → map f l.marks ≡ stamped (λ s. f (done (entry_of l.size s))) (map f l.fn.marks) l.from (l.next - l.from))

abbrev pub decreases-loop-next : goal.decreases-loop-next
decreases-loop-next l = l.upto - l.next
