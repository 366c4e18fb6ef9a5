-- Where each word of a ring lies, and each slot of its lanes. Words that different ends store are 16 words or more apart,
-- so that no two ends write to one cache line, but for the word of the halt; the words between are never touched.
use Rattle.std.specs.Prelude.{ℕ, ◌+◌, ◌*◌, ◌%◌}
use Rattle.dr_plain.specs.Meaning.Shape.{Shape, handlers_of}

-- how many words there are
abbrev pub words_of : Shape → ℕ
words_of k = 32 + 16 * handlers_of k

-- the cell of a sequence
abbrev pub cell_of : Shape → ℕ → ℕ
cell_of k s = s % k.size

-- the slot of a handler's part of it: each handler has a lane of its own
abbrev pub slot_of : Shape → ℕ → ℕ → ℕ
slot_of k h s = h * k.size + cell_of k s

abbrev pub slots_of : Shape → ℕ
slots_of k = handlers_of k * k.size
