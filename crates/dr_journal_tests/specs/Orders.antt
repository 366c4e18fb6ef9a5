-- The record of an order: eight bytes of its quantity, the least first, and then its name.
use Rattle.std.specs.Prelude.{ℕ, List, ◌++◌, Option, Some, None, length, take, drop, if◌then◌else◌, nat_lt}
use Rattle.std.specs.Int.{w64, to_le_bytes, from_le_bytes}

pub record Placed : Type 0 where
  pub quantity : ℕ
  pub name : List ℕ

abbrev pub placed_record : Placed → List ℕ
placed_record order = to_le_bytes w64 order.quantity ++ order.name

abbrev pub placed_in : List ℕ → Option Placed
placed_in bytes = if nat_lt (length bytes) 8 then None else Some (record { quantity = from_le_bytes w64 (take 8 bytes); name = drop 8 bytes })
