-- Which faults are counted, and which are whose.
use Rattle.std.proofs.Common.{◌≡◌, ◌+◌, ℕ, Bool, Ok, Err, Result, refl, ◌∙◌, ap, subst}
use Rattle.std.specs.Prelude.{IfErr, IsErrOf}
use Rattle.dr_ledger.specs.Batches.{CountsReads, CountsTurns, CountsWrites, IsOfAnswer, IsOfBatch, IsOfStore}
use Rattle.dr_ledger.specs.declared.fault.LedgerFault.{LedgerFault}
use Rattle.dr_ledger.specs.declared.fault.LedgerFault.TheVariants as fault

pub store_in_batch : (e : LedgerFault) → IsOfStore e → IsOfBatch e
store_in_batch (fault.BadRecord k) is = is
store_in_batch fault.Read is = is
store_in_batch fault.Memory is = tt
store_in_batch fault.Write is = tt
store_in_batch fault.Disk is = tt
store_in_batch fault.Full is = tt

pub answer_in_batch : (e : LedgerFault) → IsOfAnswer e → IsOfBatch e
answer_in_batch (fault.BadRecord k) is = is
answer_in_batch fault.Read is = is
answer_in_batch fault.Memory is = tt
answer_in_batch fault.Write is = tt
answer_in_batch fault.Disk is = tt
answer_in_batch fault.Full is = tt

pub store_counts : (e : LedgerFault) (n : ℕ) → IsOfStore e → CountsWrites {A = Unit {0}} (Err e) n n
store_counts (fault.BadRecord k) n is = absurd is
store_counts fault.Read n is = absurd is
store_counts fault.Write n is = absurd is
store_counts fault.Memory n is = refl
store_counts fault.Disk n is = refl
store_counts fault.Full n is = refl

-- a turn whose batch fails
pub batch_counts : (e : LedgerFault) (reads reads2 writes writes2 : ℕ) → IsOfBatch e → CountsWrites {A = Unit {0}} (Err e) writes writes2
    → reads2 ≡ reads → CountsTurns {A = Bool} (Err e) reads reads2 writes writes2
batch_counts (fault.BadRecord k) reads reads2 writes writes2 is counts same = absurd is
batch_counts fault.Read reads reads2 writes writes2 is counts same = absurd is
batch_counts fault.Memory reads reads2 writes writes2 is counts same = (same, counts)
batch_counts fault.Write reads reads2 writes writes2 is counts same = (same, counts)
batch_counts fault.Disk reads reads2 writes writes2 is counts same = (same, counts)
batch_counts fault.Full reads reads2 writes writes2 is counts same = (same, counts)

-- a turn that ends as its read does
pub read_counts : (r : Result Bool LedgerFault) (reads reads2 writes writes2 : ℕ) → CountsReads r reads reads2 → writes2 ≡ writes
    → CountsTurns r reads reads2 writes writes2
read_counts (Ok more) reads reads2 writes writes2 counts same = (counts, same)
read_counts (Err (fault.BadRecord k)) reads reads2 writes writes2 counts same = (counts, same)
read_counts (Err fault.Read) reads reads2 writes writes2 counts same = (counts, same)
read_counts (Err fault.Memory) reads reads2 writes writes2 counts same = (counts, same)
read_counts (Err fault.Write) reads reads2 writes writes2 counts same = absurd counts
read_counts (Err fault.Disk) reads reads2 writes writes2 counts same = absurd counts
read_counts (Err fault.Full) reads reads2 writes writes2 counts same = absurd counts

-- a read that brought something did not fail
pub has_read : (r : Result Bool LedgerFault) (reads reads2 : ℕ) → CountsReads r reads reads2 → (r ≡ Err fault.Read → ⊥) → reads2 ≡ reads
has_read (Ok more) reads reads2 counts some = counts
has_read (Err (fault.BadRecord k)) reads reads2 counts some = counts
has_read (Err fault.Read) reads reads2 counts some = absurd (some refl)
has_read (Err fault.Memory) reads reads2 counts some = counts
has_read (Err fault.Write) reads reads2 counts some = absurd counts
has_read (Err fault.Disk) reads reads2 counts some = absurd counts
has_read (Err fault.Full) reads reads2 counts some = absurd counts

-- counts since an earlier moment
pub counted_since : (e : LedgerFault) (reads mid reads2 writes middle writes2 : ℕ) → mid ≡ reads → middle ≡ writes
    → CountsTurns {A = Bool} (Err e) mid reads2 middle writes2 → CountsTurns {A = Unit {0}} (Err e) reads reads2 writes writes2
counted_since (fault.BadRecord k) reads mid reads2 writes middle writes2 one two c = (c.0 ∙ one, c.1 ∙ two)
counted_since fault.Memory reads mid reads2 writes middle writes2 one two c = (c.0 ∙ one, c.1 ∙ two)
counted_since fault.Disk reads mid reads2 writes middle writes2 one two c = (c.0 ∙ one, c.1 ∙ two)
counted_since fault.Full reads mid reads2 writes middle writes2 one two c = (c.0 ∙ one, c.1 ∙ two)
counted_since fault.Read reads mid reads2 writes middle writes2 one two c = (c.0 ∙ ap (λ n. n + 1) one, c.1 ∙ two)
counted_since fault.Write reads mid reads2 writes middle writes2 one two c = (c.0 ∙ one, c.1 ∙ ap (λ n. n + 1) two)

pub of_batch : (r : Result (Unit {0}) LedgerFault) → IfErr r IsOfAnswer → IfErr r IsOfBatch
of_batch (Ok done) is = is
of_batch (Err e) is = answer_in_batch e is

-- an answer that fails tells of no disk
pub of_no_disk : (r : Result (Unit {0}) LedgerFault) → IfErr r IsOfAnswer → IsErrOf r fault.Disk → ⊥
of_no_disk (Ok done) is told = cc
of_no_disk (Err e) is told = let same : e ≡ fault.Disk = cc in subst IsOfAnswer same is
