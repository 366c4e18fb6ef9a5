-- What is known of the bytes behind a header of which only a beginning was read.
use Rattle.std.specs.Prelude.{◌≡◌, ◌<◌, ℕ, ◌+◌, ◌-◌, List, [], ◌∷◌, ◌++◌, length, take, drop, Bool, true, false, Vec, if◌then◌else◌, ◌==◌}
use Rattle.std.specs.declared.alloc.Global.{Global}
use Rattle.dr_journal.specs.Meaning.Format.{behind_header, whole_length, records_from, records_in}
use Rattle.dr_journal.specs.Calls.Journals.{bytes_of}
use Rattle.dr_journal.specs.declared.scan.Scan.{Scan}

-- what stands behind the batches that are there whole
abbrev pub tail_of : List ℕ → List ℕ
tail_of body = drop (whole_length body) body

-- where the last whole batch begins
abbrev pub last_of : List ℕ → ℕ
last_of body = whole_length (take (whole_length body - 1) body)

-- these bytes behind a header were read: how many they are, where the last whole batch ends and begins, and what waits for the rest
pub record IsScanned (len end last : ℕ) (is_over : Bool) (waiting : List (List ℕ)) (so_far : List ℕ) (less : ℕ) (body : List ℕ) : Type 0 where
  pub counted : len ≡ length body
  pub ended : end ≡ whole_length body
  pub began : last ≡ last_of body
  pub over : is_over ≡ true → (rest : List ℕ) → whole_length (tail_of body ++ rest) ≡ 0
  pub none : is_over ≡ false → (rest : List ℕ) → whole_length rest ≡ 0 → whole_length (tail_of body ++ rest) ≡ 0
  pub some : is_over ≡ false → (rest : List ℕ) → 0 < whole_length rest → whole_length (tail_of body ++ rest) ≡ length (tail_of body) + whole_length rest
  pub torn : is_over ≡ false → (rest : List ℕ) → waiting ++ records_from so_far less rest ≡ records_from [] 0 (tail_of body ++ rest)

abbrev pub HasScanned : Scan → List ℕ → Type 0
HasScanned s body = IsScanned s.len s.end s.last s.is_over (bytes_of s.waiting.items) s.record.items s.less body

-- to the records from before those are added that these bytes complete
abbrev pub Completes : List ℕ → List ℕ → List (Vec ℕ Global) → List (Vec ℕ Global) → Type 0
Completes body bytes before after = (more : List (Vec ℕ Global)) × (after ≡ before ++ more) × (records_in (body ++ bytes) ≡ records_in body ++ bytes_of more)

-- one byte more
abbrev pub Takes : Scan → Scan → ℕ → List (Vec ℕ Global) → List (Vec ℕ Global) → Type 0
Takes old new byte before after = (body : List ℕ) → HasScanned old body → HasScanned new (body ++ byte ∷ []) × Completes body (byte ∷ []) before after

-- what of a file is perhaps not on the disk: its last whole batch, and all behind it; of a file without batches all
abbrev pub unsure_from : List ℕ → ℕ
unsure_from file = if whole_length (behind_header file) == 0 then 0 else 8 + last_of (behind_header file)
