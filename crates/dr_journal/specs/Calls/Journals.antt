-- What a journal's calls leave: `seen`, `may_leave`, `moment` and `left_since` are its device's.
use Rattle.std.specs.Prelude.{◌≡◌, ◌⊎◌, ℕ, ◌+◌, ◌-◌, ◌^◌, ◌<◌, ◌≤◌, take, List, ◌++◌, length, replicate, map, Vec, Result, IsErrOf}
use Rattle.std.specs.List.{flat_map, Contains}
use Rattle.std.specs.declared.alloc.Global.{Global}
use Rattle.dr_journal.specs.Meaning.Disk.{Only, LeavesOnly}
use Rattle.dr_journal.specs.Meaning.Format.{header, IsJournal, behind_header, whole_batches, recovered, frame}
use Rattle.dr_journal.specs.Calls.Parts.{device_of, end_of, length_of}
use Rattle.dr_journal.specs.declared.journal.Journal.{Journal}
use Rattle.dr_journal.specs.declared.fault.JournalFault.{JournalFault}
use Rattle.dr_journal.specs.declared.fault.JournalFault.TheVariants.{NoMemory, Full}

-- the bytes of each record
abbrev pub bytes_of : List (Vec ℕ Global) → List (List ℕ)
bytes_of batch = map (λ v. v.items) batch

-- the records of a batch
abbrev pub batch_of : Vec (Vec ℕ Global) Global → List (List ℕ)
batch_of batch = bytes_of batch.items

-- the file is a journal, and stands for these records
abbrev pub StandsFor : List (List ℕ) → List ℕ → Type 0
StandsFor records file = IsJournal file × (recovered file ≡ records)

-- it stands for the records, with the batch or without it
abbrev pub IsBeforeOrAfter : List (List ℕ) → List (List ℕ) → List ℕ → Type 0
IsBeforeOrAfter records batch file = StandsFor records file ⊎ StandsFor (records ++ batch) file

-- the records of the first batches
abbrev pub first_of : List (Vec (Vec ℕ Global) Global) → ℕ → List (List ℕ)
first_of batches n = flat_map batch_of (take n batches)

-- it stands for the records, and those of some first batches
abbrev pub HasBeginning : List (List ℕ) → List (Vec (Vec ℕ Global) Global) → List ℕ → Type 0
HasBeginning records batches file = (n : ℕ) × (n ≤ length batches) × StandsFor (records ++ first_of batches n) file

-- the file, or the batch as it is written, has over 2^60 bytes
abbrev pub IsTooLarge : List ℕ → List (List ℕ) → Type 0
IsTooLarge file batch = (2 ^ 60 < length file) ⊎ (2 ^ 60 < length (frame batch))

-- the file, or one of the batches as it is written, has
abbrev pub HasTooLarge : List ℕ → List (Vec (Vec ℕ Global) Global) → Type 0
HasTooLarge file batches = (batch : Vec (Vec ℕ Global) Global) × Contains batches batch × IsTooLarge file (batch_of batch)

-- a call had no memory or no room
abbrev pub IsRefused : {T : Type 0} → Result T JournalFault → Type 0
IsRefused result = IsErrOf result NoMemory ⊎ IsErrOf result Full

module _ {D : Type 0} where
  -- the file of a journal
  abbrev pub file_of : (D → List ℕ) → Journal D → List ℕ
  file_of seen journal = seen (device_of journal)

  -- the records that its file stands for
  abbrev pub records_of : (D → List ℕ) → Journal D → List (List ℕ)
  records_of seen journal = recovered (file_of seen journal)

  -- a journal is at rest: its file is the header, whole batches and at least one byte 0, all of it on the disk
  pub record IsAtRest (seen : D → List ℕ) (may_leave : D → List ℕ → Type 0) (journal : Journal D) : Type 0 where
    pub file : file_of seen journal ≡ header ++ (whole_batches (behind_header (file_of seen journal)) ++ replicate (length_of journal - end_of journal) 0)
    pub end : end_of journal ≡ 8 + length (whole_batches (behind_header (file_of seen journal)))
    pub len : length_of journal ≡ length (file_of seen journal)
    pub room : end_of journal < length_of journal
    pub durable : Only (file_of seen journal) (may_leave (device_of journal))

  -- a crash at any moment since old leaves a file that has P
  abbrev pub CrashLeaves : (D → ℕ) → (D → ℕ → List ℕ → Type 0) → Journal D → Journal D → (List ℕ → Type 0) → Type 0
  CrashLeaves moment left_since old new P = LeavesOnly moment left_since (device_of old) (device_of new) P

  -- how often the disk of a journal has failed
  abbrev pub faults_of : (D → ℕ) → Journal D → ℕ
  faults_of faults journal = faults (device_of journal)
