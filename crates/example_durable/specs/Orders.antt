-- Orders as records, and what a book has of them.
use Rattle.std.specs.Prelude.{◌≡◌, ℕ, ◌%◌, ◌^◌, List, ◌++◌, ◌==◌, Option, Some, None, length, take, drop, if◌then◌else◌}
use Rattle.std.specs.Int.{w64, to_le_bytes, from_le_bytes}
use Rattle.std.specs.List.{sum_by}
use Rattle.example_durable.specs.declared.book.Book.{Book}
use Rattle.example_durable.specs.declared.order.Order.{Order}

-- the record of an order: eight bytes of its account and eight of its quantity, of each the least first
abbrev pub order_record : Order → List ℕ
order_record order = to_le_bytes w64 order.account ++ to_le_bytes w64 order.quantity

-- the order of a record of sixteen bytes; no other is one
abbrev pub order_in : List ℕ → Option Order
order_in bytes = if length bytes == 16 then Some (record { account = from_le_bytes w64 (take 8 bytes); quantity = from_le_bytes w64 (drop 8 bytes) }) else None

-- a book has counted and added up just these orders, as far as a `u64` counts
pub record IsBookOf (book : Book) (orders : List Order) : Type 0 where
  pub many : book.orders ≡ length orders % 2 ^ 64
  pub quantity : book.quantity ≡ sum_by (λ order. order.quantity) orders % 2 ^ 64
