-- Where each word of a ring lies. Words that different ends store are 16 words or more apart, so that no two ends write to one cache line; the words between are never touched.
use Rattle.std.specs.Prelude.{ℕ, ◌+◌, ◌*◌, ◌%◌}
use Rattle.dr_ring.specs.Meaning.Shape.{Shape, handlers_of}

-- the payload words lie behind the counts
abbrev pub payload_start : Shape → ℕ
payload_start k = 32 + 16 * handlers_of k

-- the first word (0) and the second (1) of the event in a sequence's slot; the sender stores them
abbrev pub payload_word : Shape → ℕ → ℕ → ℕ
payload_word k s part = payload_start k + 2 * (s % k.size) + part

-- how many words there are
abbrev pub words_of : Shape → ℕ
words_of k = payload_start k + 2 * k.size
