-- Why a ledger does not start.
use Rattle.std.proofs.Common.{◌≡◌, ℕ, inl, inr, ⊎_elim, List, sym, subst}
use Rattle.dr_journal.specs.declared.fault.OpenFault.{OpenFault}
use Rattle.dr_ledger.specs.Batches.{IsOfStore}
use Rattle.dr_ledger.specs.Coming.{IsOnlyRead, records_read, refusal, role_of}
use Rattle.dr_ledger.specs.Starting.{IsOfFile, TellsComing, TellsDisagreement, TellsEven, TellsLevel, TellsStart, TellsStartFromBoth}
use Rattle.dr_ledger.specs.declared.coming.Coming.{Coming}
use Rattle.dr_ledger.specs.declared.coming.Role.{Role}
use Rattle.dr_ledger.specs.declared.coming.Role.TheVariants as file
use Rattle.dr_ledger.specs.declared.fault.LedgerFault.{LedgerFault}
use Rattle.dr_ledger.specs.declared.fault.LedgerFault.TheVariants as fault
use Rattle.dr_ledger.specs.declared.start_fault.StartFault.{StartFault}
use Rattle.dr_ledger.specs.declared.start_fault.StartFault.TheVariants as start

pub refused : (fault : StartFault) (role : Role) (records : List (List ℕ)) → (refused : OpenFault) × (fault ≡ refusal role refused)
    → TellsComing fault role records
refused fault role records told = subst (λ f. TellsComing f role records) (sym told.1) (by_role role told.0)
  where
    by_role : (role : Role) (cause : OpenFault) → TellsComing (refusal role cause) role records
    by_role file.Journal cause = tt
    by_role file.Replica cause = tt

pub of_file : (fault : StartFault) (role : Role) → (cause : OpenFault) × (fault ≡ refusal role cause) → IsOfFile fault role
of_file fault role told = subst (λ f. IsOfFile f role) (sym told.1) (by_role role told.0)
  where
    by_role : (role : Role) (cause : OpenFault) → IsOfFile (refusal role cause) role
    by_role file.Journal cause = tt
    by_role file.Replica cause = tt

-- a file that is read tells of no disk
pub of_no_disk : (given : StartFault) (role : Role) → IsOfFile given role → given ≡ start.Ledger fault.Disk → ⊥
of_no_disk given role is told = subst (λ f. IsOfFile f role) told is

pub disagrees : (fault : StartFault) (journal replica : Coming) → TellsComing fault (role_of journal) (records_read journal) → TellsDisagreement fault journal replica
disagrees (start.Journal cause) journal replica told = tt
disagrees (start.Replica cause) journal replica told = tt
disagrees start.Differs journal replica told = absurd told
disagrees (start.Ledger (fault.BadRecord k)) journal replica told = inl told
disagrees (start.Ledger fault.Memory) journal replica told = tt
disagrees (start.Ledger fault.Read) journal replica told = told
disagrees (start.Ledger fault.Write) journal replica told = told
disagrees (start.Ledger fault.Disk) journal replica told = told
disagrees (start.Ledger fault.Full) journal replica told = told

pub copy_disagrees : (fault : StartFault) (journal replica : Coming) → TellsComing fault (role_of replica) (records_read replica) → TellsDisagreement fault journal replica
copy_disagrees (start.Journal cause) journal replica told = tt
copy_disagrees (start.Replica cause) journal replica told = tt
copy_disagrees start.Differs journal replica told = absurd told
copy_disagrees (start.Ledger (fault.BadRecord k)) journal replica told = inr told
copy_disagrees (start.Ledger fault.Memory) journal replica told = tt
copy_disagrees (start.Ledger fault.Read) journal replica told = told
copy_disagrees (start.Ledger fault.Write) journal replica told = told
copy_disagrees (start.Ledger fault.Disk) journal replica told = told
copy_disagrees (start.Ledger fault.Full) journal replica told = told

pub levels_not : (fault : StartFault) (rest : Coming) → TellsComing fault (role_of rest) (records_read rest) → TellsLevel fault rest
levels_not (start.Journal cause) rest told = told
levels_not (start.Replica cause) rest told = told
levels_not start.Differs rest told = told
levels_not (start.Ledger (fault.BadRecord k)) rest told = told
levels_not (start.Ledger fault.Memory) rest told = told
levels_not (start.Ledger fault.Read) rest told = told
levels_not (start.Ledger fault.Write) rest told = told
levels_not (start.Ledger fault.Disk) rest told = tt
levels_not (start.Ledger fault.Full) rest told = tt

pub stores_not : (ended : LedgerFault) (rest : Coming) → IsOfStore ended → TellsLevel (start.Ledger ended) rest
stores_not (fault.BadRecord k) rest is = absurd is
stores_not fault.Read rest is = absurd is
stores_not fault.Write rest is = absurd is
stores_not fault.Memory rest is = tt
stores_not fault.Disk rest is = tt
stores_not fault.Full rest is = tt

pub evens_not : (fault : StartFault) (long : Coming) → TellsLevel fault long → IsOnlyRead long → TellsEven fault long
evens_not (start.Journal cause) long told only_read = tt
evens_not (start.Replica cause) long told only_read = tt
evens_not start.Differs long told only_read = absurd told
evens_not (start.Ledger (fault.BadRecord k)) long told only_read = (only_read, told)
evens_not (start.Ledger fault.Memory) long told only_read = tt
evens_not (start.Ledger fault.Read) long told only_read = absurd told
evens_not (start.Ledger fault.Write) long told only_read = absurd told
evens_not (start.Ledger fault.Disk) long told only_read = tt
evens_not (start.Ledger fault.Full) long told only_read = tt

-- one of the two is not made a journal
pub not_made : (fault : StartFault) (role : Role) (long : Coming) → (cause : OpenFault) × (fault ≡ refusal role cause) → TellsEven fault long
not_made fault role long told = subst (λ f. TellsEven f long) (sym told.1) (by_role role told.0)
  where
    by_role : (role : Role) (cause : OpenFault) → TellsEven (refusal role cause) long
    by_role file.Journal cause = tt
    by_role file.Replica cause = tt

pub starts_not : (fault : StartFault) (journal : Coming) → TellsComing fault (role_of journal) (records_read journal) → IsOnlyRead journal → TellsStart fault journal
starts_not (start.Journal cause) journal told only_read = told
starts_not (start.Replica cause) journal told only_read = told
starts_not start.Differs journal told only_read = told
starts_not (start.Ledger (fault.BadRecord k)) journal told only_read = (only_read, told)
starts_not (start.Ledger fault.Memory) journal told only_read = told
starts_not (start.Ledger fault.Read) journal told only_read = told
starts_not (start.Ledger fault.Write) journal told only_read = told
starts_not (start.Ledger fault.Disk) journal told only_read = told
starts_not (start.Ledger fault.Full) journal told only_read = told

pub start_not_made : (fault : StartFault) (role : Role) (journal : Coming) → role_of journal ≡ role → (cause : OpenFault) × (fault ≡ refusal role cause) → TellsStart fault journal
start_not_made fault role journal is told = subst (λ f. TellsStart f journal) (sym told.1) (by_role role told.0 is)
  where
    by_role : (role : Role) (cause : OpenFault) → role_of journal ≡ role → TellsStart (refusal role cause) journal
    by_role file.Journal cause is = subst (λ r. TellsComing (start.Journal cause) r (records_read journal)) (sym is) tt
    by_role file.Replica cause is = subst (λ r. TellsComing (start.Replica cause) r (records_read journal)) (sym is) tt

pub start_disagrees : (fault : StartFault) (journal replica : Coming) → TellsDisagreement fault journal replica → IsOnlyRead journal → IsOnlyRead replica
    → TellsStartFromBoth fault journal replica
start_disagrees (start.Journal cause) journal replica told read copy_read = tt
start_disagrees (start.Replica cause) journal replica told read copy_read = tt
start_disagrees start.Differs journal replica told read copy_read = (read, copy_read, told)
start_disagrees (start.Ledger (fault.BadRecord k)) journal replica told read copy_read = ⊎_elim (λ own. inl (read, own)) (λ copied. inr (copy_read, copied)) told
start_disagrees (start.Ledger fault.Memory) journal replica told read copy_read = tt
start_disagrees (start.Ledger fault.Read) journal replica told read copy_read = told
start_disagrees (start.Ledger fault.Write) journal replica told read copy_read = told
start_disagrees (start.Ledger fault.Disk) journal replica told read copy_read = absurd told
start_disagrees (start.Ledger fault.Full) journal replica told read copy_read = absurd told

pub start_not_even : (fault : StartFault) (journal replica : Coming) → TellsEven fault replica → TellsStartFromBoth fault journal replica
start_not_even (start.Journal cause) journal replica told = tt
start_not_even (start.Replica cause) journal replica told = tt
start_not_even start.Differs journal replica told = absurd told
start_not_even (start.Ledger (fault.BadRecord k)) journal replica told = inr told
start_not_even (start.Ledger fault.Memory) journal replica told = tt
start_not_even (start.Ledger fault.Read) journal replica told = told
start_not_even (start.Ledger fault.Write) journal replica told = told
start_not_even (start.Ledger fault.Disk) journal replica told = tt
start_not_even (start.Ledger fault.Full) journal replica told = tt

pub start_not_even_copy : (fault : StartFault) (journal replica : Coming) → TellsEven fault journal → TellsStartFromBoth fault journal replica
start_not_even_copy (start.Journal cause) journal replica told = tt
start_not_even_copy (start.Replica cause) journal replica told = tt
start_not_even_copy start.Differs journal replica told = absurd told
start_not_even_copy (start.Ledger (fault.BadRecord k)) journal replica told = inl told
start_not_even_copy (start.Ledger fault.Memory) journal replica told = tt
start_not_even_copy (start.Ledger fault.Read) journal replica told = told
start_not_even_copy (start.Ledger fault.Write) journal replica told = told
start_not_even_copy (start.Ledger fault.Disk) journal replica told = tt
start_not_even_copy (start.Ledger fault.Full) journal replica told = tt
