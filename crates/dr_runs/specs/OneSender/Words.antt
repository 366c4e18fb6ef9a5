-- Where the words lie that a ring with one sender has, and what two of them say. Words that different ends store are 16 words or more apart, so that no two ends write to one cache line.
use Rattle.std.specs.Prelude.{◌≡◌, ℕ, ◌+◌, ◌*◌, ◌≤◌, ◌⊎◌, Bool, true, List, slice_index}

-- how many events are published; the sender stores it
abbrev pub cursor_word : ℕ
cursor_word = 0

-- 1 once the sender has closed; the sender stores it
abbrev pub closed_word : ℕ
closed_word = 1

-- 1 once the ring is halted; the sender and the halter store it
abbrev pub halt_word : ℕ
halt_word = 16

-- how many events a handler completed; its receiver stores it
abbrev pub count_word : ℕ → ℕ
count_word h = 32 + 16 * h

-- halt and close: who halted or closed the ring finds it so, and a closed ring is halted, with every claimed sequence published
pub record HaltAndClose (words : List ℕ) (pending : ℕ) (sender_halted sender_closed halter_halted : Bool) : Type 0 where
  pub halt : slice_index words halt_word ≤ 1
  pub close : slice_index words closed_word ≤ 1
  pub by_sender : sender_halted ≡ true → slice_index words halt_word ≡ 1
  pub by_halter : halter_halted ≡ true → slice_index words halt_word ≡ 1
  pub closed : sender_closed ≡ true → slice_index words closed_word ≡ 1
  -- and where it is so, one of them knows it
  pub known_halt : slice_index words halt_word ≡ 1 → (sender_halted ≡ true) ⊎ (halter_halted ≡ true)
  pub known_close : slice_index words closed_word ≡ 1 → sender_closed ≡ true
  pub complete : slice_index words closed_word ≡ 1 → (slice_index words halt_word ≡ 1) × (pending ≡ 0)
