-- The file of a journal: eight bytes of a header, the batches, and at least one byte 0. In a batch a byte 0 is not written yet, 1 ends
-- a record, 2 ends the batch, and 3 says that 4 is to be taken from the next byte. Each other byte is a record's own.
use Rattle.std.specs.Prelude.{◌≡◌, ◌<◌, ℕ, ◌+◌, ◌-◌, List, [], ◌∷◌, ◌++◌, length, take, drop, if◌then◌else◌, ◌==◌, nat_lt}

-- the text DISRUPT1, which says that a file is a journal of this format
abbrev pub header : List ℕ
header = 68 ∷ 73 ∷ 83 ∷ 82 ∷ 85 ∷ 80 ∷ 84 ∷ 49 ∷ []

-- a file begins with the header
abbrev pub IsJournal : List ℕ → Type 0
IsJournal file = (rest : List ℕ) × (file ≡ header ++ rest)

-- a file is empty, or has a beginning of the header and nothing else, as a crash leaves a file that was being made
abbrev pub IsNew : List ℕ → Type 0
IsNew file = (rest : List ℕ) × (0 < length rest) × (header ≡ file ++ rest)

-- a file is neither
abbrev pub IsForeign : List ℕ → Type 0
IsForeign file = (IsJournal file → ⊥) × (IsNew file → ⊥)

abbrev pub behind_header : List ℕ → List ℕ
behind_header file = drop 8 file

-- how many bytes there are up to the last end of a batch before the first 0
abbrev pub whole_length : List ℕ → ℕ
whole_length [] = 0
whole_length (b ∷ rest) = if b == 0 then 0 else if b == 2 then 1 + whole_length rest else if whole_length rest == 0 then 0 else 1 + whole_length rest

-- these bytes: the batches that are there whole
abbrev pub whole_batches : List ℕ → List ℕ
whole_batches bytes = take (whole_length bytes) bytes

-- the records of whole batches, of the first of which so much was read
abbrev pub records_from : List ℕ → ℕ → List ℕ → List (List ℕ)
records_from so_far less [] = []
records_from so_far less (b ∷ rest) = if b == 1 then so_far ∷ records_from [] 0 rest else if b == 2 then records_from [] 0 rest else if b == 3 then records_from so_far 4 rest else records_from (so_far ++ (b - less) ∷ []) 0 rest

-- what the bytes behind a header stand for
abbrev pub records_in : List ℕ → List (List ℕ)
records_in bytes = records_from [] 0 (whole_batches bytes)

-- what a file stands for: the records of all batches that are there whole
abbrev pub recovered : List ℕ → List (List ℕ)
recovered file = records_in (behind_header file)

-- a record's bytes as they are written
abbrev pub coded : List ℕ → List ℕ
coded [] = []
coded (b ∷ bytes) = if nat_lt b 4 then 3 ∷ (b + 4) ∷ coded bytes else b ∷ coded bytes

abbrev pub coded_records : List (List ℕ) → List ℕ
coded_records [] = []
coded_records (record_bytes ∷ batch) = coded record_bytes ++ 1 ∷ coded_records batch

-- a batch as it is written
abbrev pub frame : List (List ℕ) → List ℕ
frame batch = coded_records batch ++ 2 ∷ []
