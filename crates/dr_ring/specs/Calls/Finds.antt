-- What a look may find: no word that is looked at falls.
use Rattle.std.specs.Prelude.{◌≡◌, ℕ, ◌≤◌, true, length}
use Rattle.dr_runs.specs.OneSender.Words.{halt_word}
use Rattle.dr_ring.specs.declared.record.SenderRecord.{SenderRecord}
use Rattle.dr_ring.specs.declared.record.ReceiverRecord.{ReceiverRecord}
use Rattle.dr_runs.specs.Looks.{last_look}

-- no more is completed than is published
abbrev pub FindsCompleted : SenderRecord → ℕ → ℕ → Type 0
FindsCompleted r word n = (last_look 0 r.looks word ≤ n) × (n ≤ length r.sent.published)

abbrev pub FindsHalt : SenderRecord → ℕ → Type 0
FindsHalt r n = (last_look 0 r.looks halt_word ≤ n) × (n ≤ 1) × (r.halted ≡ true → n ≡ 1)

abbrev pub FindsClosed : ReceiverRecord → ℕ → ℕ → Type 0
FindsClosed r word n = (last_look 0 r.looks word ≤ n) × (n ≤ 1) × (r.told ≡ true → n ≡ 1)

-- neither the cursor nor an upstream's count is less than what a receiver took, nor more where it was told that the ring drained
abbrev pub FindsEvents : ReceiverRecord → ℕ → ℕ → Type 0
FindsEvents r word n = (last_look 0 r.looks word ≤ n) × (length r.received ≤ n) × (r.told ≡ true → n ≤ length r.received)
