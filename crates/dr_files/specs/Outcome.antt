-- What a run over a file does to its reader and its writer, and what it answers.
use Rattle.std.specs.Prelude.{◌≡◌, ◌+◌, ℕ, Result, Ok, Err, List, ◌∷◌, ◌++◌, take, Option, Some, None}
use Rattle.std.specs.Io.KnownBytes.{Appends, Keeps}
use Rattle.dr_files.specs.Lines.{Line, joined}
use Rattle.dr_files.specs.declared.fault.FileFault.{FileFault}
use Rattle.dr_files.specs.declared.fault.FileFault.TheVariants as fault
use Rattle.dr_files.specs.declared.streams.ReadFault.{ReadFault}
use Rattle.dr_files.specs.declared.streams.ReadFault.TheVariants as read

-- a record at fault, counted from 1, and why: each tool has causes of its own
pub record Fault (C : Type 0) : Type 0 where
  pub k : ℕ
  pub cause : C

-- what a file has a tool write, up to the file's end or to its first record at fault
pub record Said (C : Type 0) : Type 0 where
  pub lines : List Line
  pub fault : Option (Fault C)

-- a text begins with a front
abbrev pub Begins : List ℕ → List ℕ → Type 0
Begins front text = (rest : List ℕ) × (text ≡ front ++ rest)

-- known bytes grow by a beginning of a text
abbrev pub AppendsFront : Option (List ℕ) → Option (List ℕ) → List ℕ → Type 0
AppendsFront old new text = (front : List ℕ) × Begins front text × Appends old new front

-- some of the lines are written whole, and of the next one a beginning
pub record AreCut (old new : Option (List ℕ)) (lines : List Line) : Type 0 where
  pub whole : List Line
  pub line : Line
  pub later : List Line
  pub are : lines ≡ whole ++ line ∷ later
  pub front : List ℕ
  pub begins : Begins front line
  pub wrote : Appends old new (joined whole ++ front)

-- what a fault leaves written: of the input, the lines before it; where memory ran out, the first lines; at a failed read, nothing; at a failed write, lines that are cut
abbrev pub FaultWrites : {C : Type 0} → FileFault C → Option (List ℕ) → Option (List ℕ) → Said C → Type 0
FaultWrites (fault.Input k cause) old new said = (said.fault ≡ Some (record { k = k; cause = cause })) × Appends old new (joined said.lines)
FaultWrites fault.Memory old new said = (n : ℕ) × Appends old new (joined (take n said.lines))
FaultWrites fault.Read old new said = Keeps old new
FaultWrites fault.Write old new said = AreCut old new said.lines

-- a run that succeeds writes all lines of a file without a fault
abbrev pub RunWrites : {A C : Type 0} → Result A (FileFault C) → Option (List ℕ) → Option (List ℕ) → Said C → Type 0
RunWrites (Ok done) old new said = (said.fault ≡ None) × Appends old new (joined said.lines)
RunWrites (Err e) old new said = FaultWrites e old new said

-- a fault of reading is answered with nothing written, whatever the reader shows
abbrev pub ReadFaultKeeps : {C : Type 0} → FileFault C → Option (List ℕ) → Option (List ℕ) → Type 0
ReadFaultKeeps fault.Read old new = Keeps old new
ReadFaultKeeps other old new = Unit {0}

-- any fault but that of writing is answered with nothing written, whatever the reader shows
abbrev pub FaultKeeps : {C : Type 0} → FileFault C → Option (List ℕ) → Option (List ℕ) → Type 0
FaultKeeps fault.Write old new = Unit {0}
FaultKeeps other old new = Keeps old new

-- a fault of reading is answered where one read failed, a fault of writing where one write failed, and nowhere else
abbrev pub FaultCounts : {C : Type 0} → FileFault C → ℕ → ℕ → ℕ → ℕ → Type 0
FaultCounts fault.Read reads reads2 writes writes2 = (reads2 ≡ reads + 1) × (writes2 ≡ writes)
FaultCounts fault.Write reads reads2 writes writes2 = (reads2 ≡ reads) × (writes2 ≡ writes + 1)
FaultCounts other reads reads2 writes writes2 = (reads2 ≡ reads) × (writes2 ≡ writes)

abbrev pub CountsFaults : {A C : Type 0} → Result A (FileFault C) → ℕ → ℕ → ℕ → ℕ → Type 0
CountsFaults (Ok done) reads reads2 writes writes2 = (reads2 ≡ reads) × (writes2 ≡ writes)
CountsFaults (Err e) reads reads2 writes writes2 = FaultCounts e reads reads2 writes writes2

-- a write of one text, which fails by one write
abbrev pub WriteTells : {A E : Type 0} → Result A E → Option (List ℕ) → Option (List ℕ) → List ℕ → ℕ → ℕ → Type 0
WriteTells (Ok done) old new text writes writes2 = Appends old new text × (writes2 ≡ writes)
WriteTells (Err e) old new text writes writes2 = AppendsFront old new text × (writes2 ≡ writes + 1)

-- a read of all bytes fails by one read, or since memory ran out
abbrev pub ReadFaultTells : ReadFault → ℕ → ℕ → Type 0
ReadFaultTells read.Memory reads reads2 = reads2 ≡ reads
ReadFaultTells read.Read reads reads2 = reads2 ≡ reads + 1
