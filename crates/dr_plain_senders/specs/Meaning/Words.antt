-- Where each word of a ring lies, what is in it, and where each slot of its lanes lies. Words that different kinds of ends store are 16 words or more apart.
use Rattle.std.specs.Prelude.{ℕ, zero, suc, ◌+◌, ◌-◌, ◌*◌, ◌/◌, ◌%◌, ◌^◌, ◌==◌, ◌&&◌, ◌||◌, min, bit_xor, Bool, nat_lt, nat_le, if◌then◌else◌}
use Rattle.std.specs.Int.{bit_at}
use Rattle.dr_seq.specs.Rounds.{entry_of}
use Rattle.dr_plain_senders.specs.Meaning.Shape.{Shape, handlers_of}

-- how many sequences are claimed, and in its highest bit whether the ring is halted; each sender changes it, and the halter
abbrev pub claim_word : ℕ
claim_word = 0

-- the highest bit
abbrev pub halt_bit : ℕ
halt_bit = 2 ^ 63

-- how many sequences are claimed, by the claim word
abbrev pub claimed_in : ℕ → ℕ
claimed_in n = if nat_lt n halt_bit then n else n - halt_bit

-- whether the ring is halted, by the claim word
abbrev pub is_halted : ℕ → Bool
is_halted n = nat_le halt_bit n

-- the claim word with its highest bit set
abbrev pub halted_from : ℕ → ℕ
halted_from n = if nat_lt n halt_bit then n + halt_bit else n

-- how many events a handler completed; its receiver stores it
abbrev pub count_word : ℕ → ℕ
count_word h = 16 + 16 * h

-- the marks lie behind the counts, a bit a slot, and 64 in a word
abbrev pub mark_start : {T : Type 0} → Shape T → ℕ
mark_start k = 16 + 16 * handlers_of k

-- the word that has the mark of a sequence's cell; the senders of its cells change it
abbrev pub mark_word : {T : Type 0} → Shape T → ℕ → ℕ
mark_word k s = mark_start k + s % k.size / 64

-- the mark is this bit of the word; each publication in the cell flips it
abbrev pub mark_bit : {T : Type 0} → Shape T → ℕ → ℕ
mark_bit k s = s % k.size % 64

-- how many sequences from one on have their marks in the same word, one after the other
abbrev pub in_word : {T : Type 0} → Shape T → ℕ → ℕ
in_word k s = min (64 - mark_bit k s) (k.size - s % k.size)

-- a word once n of its marks are flipped, from the bit i on
abbrev pub flipped : ℕ → ℕ → ℕ → ℕ
flipped word i n = bit_xor word (2 ^ (i + n) - 2 ^ i)

-- the mark in a sequence's cell is as the publication of the sequence leaves it: set in the first round, in the next not, and so on by turns
abbrev pub is_there : {T : Type 0} → Shape T → ℕ → ℕ → Bool
is_there k s word = bit_at word (mark_bit k s) == entry_of k.size s % 2

-- how many of n sequences from s on have their marks there, one after the other, where all these are in this word
abbrev pub run_of : {T : Type 0} → Shape T → ℕ → ℕ → ℕ → ℕ
run_of k s word zero = 0
run_of k s word (suc n) = if is_there k s word then suc (run_of k (s + 1) word n) else 0

-- how many sequences from s on have their marks there, one after the other, as far as this word tells, which has the mark of s
abbrev pub marked_from : {T : Type 0} → Shape T → ℕ → ℕ → ℕ
marked_from k s word = run_of k s word (in_word k s)

-- Whether a sequence is published, by three looks: at the claim word, at its mark, and at the claim word again.
-- It is not where it is not claimed at the first, and is where its cell is claimed again at the last; else its mark tells.
abbrev pub is_out_by : {T : Type 0} → Shape T → ℕ → ℕ → ℕ → ℕ → Bool
is_out_by k s before word after = nat_lt s (claimed_in before) && (is_there k s word || nat_lt (s + k.size) (claimed_in after))

-- how many words there are
abbrev pub words_of : {T : Type 0} → Shape T → ℕ
words_of k = mark_start k + (k.size + 63) / 64

-- the cell of a sequence
abbrev pub cell_of : {T : Type 0} → Shape T → ℕ → ℕ
cell_of k s = s % k.size

-- a lane for what is kept of each cell while it is lent, and behind it one for each handler's parts
abbrev pub lanes_of : {T : Type 0} → Shape T → ℕ
lanes_of k = suc (handlers_of k)

abbrev pub keeping_lane : ℕ
keeping_lane = 0

abbrev pub lane_of : ℕ → ℕ
lane_of h = suc h

-- the slot of a lane for a sequence
abbrev pub slot_of : {T : Type 0} → Shape T → ℕ → ℕ → ℕ
slot_of k lane s = lane * k.size + cell_of k s

abbrev pub slots_of : {T : Type 0} → Shape T → ℕ
slots_of k = lanes_of k * k.size
