-- The two halves of an audit.
use Rattle.std.specs.Prelude.{◌≡◌, ℕ, ◌<◌, false, List, slice_index}
use Rattle.dr_core.specs.Calls.CoreView.{CoreView, retired_in}
use Rattle.dr_meaning.specs.Meaning.Machine.{handlers}
use Rattle.dr_lock.specs.declared.audit_fault.AuditFault.{AuditFault}
use Rattle.dr_lock.specs.declared.audit_fault.AuditFault.TheVariants.{ScriptDiffers, NotDrained, NoMemory}
use Rattle.dr_lock.specs.declared.sequences.Sequence.{Sequence}
use Rattle.dr_lock.specs.Meaning.Audit.{FirstLacks, script_of}
use Rattle.dr_lock.specs.Inside.Sequences.{sent_of}

-- what a list of sequences says that a producer sent is its script
abbrev pub SentIn : {E : Type 0} → List (Sequence E) → List (List E) → ℕ → Type 0
SentIn list scripts p = sent_of list p ≡ script_of scripts p

-- the first half's fault: the least of some producers that sent something else
abbrev pub Differs : {E : Type 0} → List (Sequence E) → List (List E) → AuditFault → Type 0
Differs list scripts (ScriptDiffers p) = FirstLacks (SentIn list scripts) p
Differs list scripts (NotDrained h) = ⊥
Differs list scripts NoMemory = Unit {0}

-- a handler that is not retired took so many events
abbrev pub TookIn : {E : Type 0} → CoreView E → ℕ → ℕ → Type 0
TookIn core count h = retired_in core h ≡ false → slice_index core.taken h ≡ count

-- the second half's fault: the least handler that took another number of events
abbrev pub Undrained : {E : Type 0} → CoreView E → ℕ → AuditFault → Type 0
Undrained core count (ScriptDiffers p) = ⊥
Undrained core count (NotDrained h) = (h < handlers core.setup) × FirstLacks (TookIn core count) h
Undrained core count NoMemory = ⊥
