-- What a look may find: no word that is looked at falls.
use Rattle.std.specs.Prelude.{◌≡◌, ℕ, ◌+◌, ◌≤◌, true, length}
use Rattle.dr_runs.specs.OneSender.Words.{halt_word}
use Rattle.dr_plain.specs.declared.record.SenderRecord.{SenderRecord}
use Rattle.dr_plain.specs.declared.record.ReceiverRecord.{ReceiverRecord}
use Rattle.dr_runs.specs.Looks.{last_look}

module _ {T : Type 0} where
  -- no more is completed than is published
  abbrev pub FindsCompleted : SenderRecord T → ℕ → ℕ → Type 0
  FindsCompleted r word n = (last_look 0 r.looks word ≤ n) × (n ≤ length r.published)

  abbrev pub FindsHalt : SenderRecord T → ℕ → Type 0
  FindsHalt r n = (last_look 0 r.looks halt_word ≤ n) × (n ≤ 1) × (r.halted ≡ true → n ≡ 1)

  abbrev pub FindsClosed : ReceiverRecord T → ℕ → ℕ → Type 0
  FindsClosed r word n = (last_look 0 r.looks word ≤ n) × (n ≤ 1) × (r.told ≡ true → n ≡ 1)

  -- neither the cursor nor an upstream's count is less than what a receiver took,
  -- nor more where it was told that the ring drained, nor more than a round beyond what it completed
  abbrev pub FindsEvents : ReceiverRecord T → ℕ → ℕ → Type 0
  FindsEvents r word n = (last_look 0 r.looks word ≤ n) × (length r.received ≤ n) × (r.told ≡ true → n ≤ length r.received) × (n ≤ r.plan.size + r.completed)
