-- What the calls of a device do to its file, and what a crash may do to it between two syncs.
use Rattle.std.specs.Prelude.{◌<◌, ◌≡◌, ◌⊎◌, ℕ, ◌+◌, ◌≤◌, List, [], ◌∷◌, ◌++◌, length, take, drop, Result, IsErrOf, OnOk}
use Rattle.dr_journal.specs.declared.fault.JournalFault.{JournalFault}
use Rattle.dr_journal.specs.declared.fault.JournalFault.TheVariants.{Failed, Full}

-- the file with these bytes at this offset
abbrev pub written : ℕ → List ℕ → List ℕ → List ℕ
written at bytes file = take at file ++ bytes ++ drop (at + length bytes) file

-- each byte is that of the one file or that of the other, which are of one length
abbrev pub IsMix : List ℕ → List ℕ → List ℕ → Type 0
IsMix [] [] mixed = mixed ≡ []
IsMix (a ∷ before) (b ∷ after) (x ∷ mixed) = ((x ≡ a) ⊎ (x ≡ b)) × IsMix before after mixed
IsMix before after mixed = ⊥

-- after a write within the file that a crash cuts short: each byte is the old one or the new one
abbrev pub Mixed : ℕ → List ℕ → List ℕ → List ℕ → Type 0
Mixed at bytes old new = IsMix old (written at bytes old) new

-- after a write of n bytes past the end: at most so many bytes more, whatever they are
abbrev pub Grown : ℕ → List ℕ → List ℕ → Type 0
Grown n old new = (tail : List ℕ) × (length tail ≤ n) × (new ≡ old ++ tail)

-- each new outcome of a crash is an old outcome after a step
abbrev pub Follows : (List ℕ → List ℕ → Type 0) → (List ℕ → Type 0) → (List ℕ → Type 0) → Type 0
Follows step old new = (c : List ℕ) → new c → (d : List ℕ) × old d × step d c

-- a crash leaves this and nothing else
abbrev pub Only : List ℕ → (List ℕ → Type 0) → Type 0
Only file outcomes = (c : List ℕ) → outcomes c → c ≡ file

-- the file is as it was, and a crash leaves of it what it might have left
pub record IsUntouched (old new : List ℕ) (before now : List ℕ → Type 0) : Type 0 where
  pub seen : new ≡ old
  pub left : (c : List ℕ) → now c → before c

-- time goes on: a crash since t might have left what it might have left before, or what it may leave now
pub record Elapses (before now : ℕ) (past since : ℕ → List ℕ → Type 0) (may_leave : List ℕ → Type 0) : Type 0 where
  pub later : before ≤ now
  pub nothing_else : (t : ℕ) (c : List ℕ) → t ≤ before → since t c → past t c ⊎ may_leave c
  pub keeps : (t : ℕ) (c : List ℕ) → t ≤ before → past t c → since t c

-- a crash at any moment since old leaves a file that has P
pub record LeavesOnly {D : Type 0} (moment : D → ℕ) (left_since : D → ℕ → List ℕ → Type 0) (old new : D) (P : List ℕ → Type 0) : Type 0 where
  pub later : moment old ≤ moment new
  pub each : (c : List ℕ) → left_since new (moment old) c → P c
  -- for a run that began earlier
  pub before : (t : ℕ) (c : List ℕ) → t ≤ moment old → left_since new t c → left_since old t c ⊎ P c

-- `Failed` is told only where the disk has failed since, a call that succeeds met no failure, and `Full` is not told
pub record HasCause {T : Type 0} (before now : ℕ) (result : Result T JournalFault) : Type 0 where
  pub later : before ≤ now
  pub ok : OnOk result (now ≡ before)
  pub failed : IsErrOf result Failed → before < now
  pub not_full : IsErrOf result Full → ⊥
