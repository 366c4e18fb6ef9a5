-- How the ledger of a lock counts two things at once.
use Rattle.std.specs.Prelude.{ℕ, ◌+◌, ◌*◌, ◌^◌, length}
use Rattle.dr_lock.specs.Meaning.History.{History, entries_since, halts_in}

-- the most calls that one end counts: those of all ends together weigh less than one halt
abbrev pub most_calls : ℕ
most_calls = 2 ^ 57

-- what so many calls weigh, of which so many are halts
abbrev pub weight : ℕ → ℕ → ℕ
weight calls halts = calls + 2 ^ 64 * halts

-- what the calls weigh that a history has beyond those of its beginning
abbrev pub weight_since : {E : Type 0} → History E → History E → ℕ
weight_since begun k = weight (length (entries_since begun k)) (halts_in (entries_since begun k))
