-- The numbers and names of what an audit finds amiss, which stay the same in every release.
use Rattle.std.specs.Prelude.{ℕ, List, codes}
use Rattle.dr_lock.specs.declared.audit_fault.AuditFault.{AuditFault}
use Rattle.dr_lock.specs.declared.audit_fault.AuditFault.TheVariants.{ScriptDiffers, NotDrained, NoMemory}

abbrev pub number_of : AuditFault → ℕ
number_of (ScriptDiffers p) = 51
number_of (NotDrained h) = 52
number_of NoMemory = 40

abbrev pub name_of : AuditFault → List ℕ
name_of (ScriptDiffers p) = codes "script-differs"
name_of (NotDrained h) = codes "not-drained"
name_of NoMemory = codes "no-memory"
