-- What a reader of a journal's file gives, piece by piece.
use Rattle.std.specs.Prelude.{◌≡◌, ℕ, List, ◌++◌, Vec}
use Rattle.std.specs.declared.alloc.Global.{Global}
use Rattle.dr_journal.specs.Meaning.Format.{IsForeign, recovered}
use Rattle.dr_journal.specs.Calls.Journals.{bytes_of}
use Rattle.dr_journal.specs.Calls.Readers.{HasRead}
use Rattle.dr_journal.specs.declared.recovery.Recovery.{Recovery}

-- to the records from before those are added that the piece completes: the file so far stands for as many more
abbrev pub Adds : List ℕ → List ℕ → List (Vec ℕ Global) → List (Vec ℕ Global) → Type 0
Adds file piece before after = (more : List (Vec ℕ Global)) × (after ≡ before ++ more) × (recovered (file ++ piece) ≡ recovered file ++ bytes_of more)

-- the first of these
abbrev pub AddsSome : List ℕ → List ℕ → List (Vec ℕ Global) → List (Vec ℕ Global) → Type 0
AddsSome file piece before after = (more : List (Vec ℕ Global)) × (after ≡ before ++ more) × ((later : List (List ℕ)) × (recovered (file ++ piece) ≡ recovered file ++ (bytes_of more ++ later)))

-- of whatever file the bytes before were read: the piece behind them was read
abbrev pub Reads : Recovery → Recovery → List ℕ → List (Vec ℕ Global) → List (Vec ℕ Global) → Type 0
Reads old new piece before after = (file : List ℕ) → HasRead old file → HasRead new (file ++ piece) × Adds file piece before after

-- some of it was
abbrev pub ReadsOn : Recovery → List ℕ → List (Vec ℕ Global) → List (Vec ℕ Global) → Type 0
ReadsOn old piece before after = (file : List ℕ) → HasRead old file → AddsSome file piece before after

-- the piece makes it a file that is no journal, whatever comes behind
abbrev pub IsForeignSoFar : Recovery → List ℕ → Type 0
IsForeignSoFar old piece = (file rest : List ℕ) → HasRead old file → IsForeign (file ++ (piece ++ rest))

-- to the records from before those are added by which a file of which more was read stands for more
abbrev pub AddsNext : List ℕ → List ℕ → List (Vec ℕ Global) → List (Vec ℕ Global) → Type 0
AddsNext was now before after = (piece : List ℕ) × (now ≡ was ++ piece) × Adds was piece before after
