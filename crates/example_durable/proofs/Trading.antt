-- A day's orders, on the disk and in the book.
use Rattle.std.proofs.Common.{◌≡◌, ◌<◌, ◌≤◌, ◌-◌, ◌^◌, ℕ, List, ◌++◌, length, map, ap, arith, sym, ◌∙◌}
use Rattle.std.specs.Prelude.{Some}
use Rattle.std.proofs.lemmas.List.{map-append, map-id}
use Rattle.dr_journal.specs.Calls.Journals.{records_of}
use Rattle.dr_journal.specs.Calls.Opened.{file_left, file_seen}
use Rattle.dr_journal.specs.Calls.Records.{AreValues}
use Rattle.dr_journal.specs.declared.file.FileDevice.{FileDevice}
use Rattle.dr_journal.specs.declared.journal.Journal.{Journal}
use Rattle.dr_durable.specs.Storing.{Stores}
use Rattle.example_durable.specs.Days.{IsOnDisk}
use Rattle.example_durable.specs.Orders.{IsBookOf, order_in, order_record}
use Rattle.example_durable.specs.declared.Day.{Day}
use Rattle.example_durable.specs.declared.order.Order.{Order}

-- as many orders as a number counts fit into a batch that nothing bounds
pub fits : (orders : List Order) (n most : ℕ) → n ≡ length orders → n < 2 ^ 64 → most ≡ 2 ^ 64 - 1 → length orders ≤ most
fits orders n most many few bound = omega arith

-- the journal stored the orders that the book added up
pub day_after : (before after : Day) (orders : List Order) → (was : IsOnDisk before) → Stores file_seen file_left before.journal after.journal (map order_record orders)
    → AreValues order_in (map order_record orders) (map (λ (o : Order). o) orders) → IsBookOf after.book (was.orders ++ orders) → IsOnDisk after
day_after before after orders was stores back booked = record {
  at_rest = stores.at_rest;
  orders = was.orders ++ orders;
  stored = ap (λ (l : List (List ℕ)). map order_in l) stores.stored
      ∙ map-append order_in (records_of file_seen before.journal) (map order_record orders)
      ∙ ap (λ l. l ++ map order_in (map order_record orders)) was.stored
      ∙ ap (λ l. map (λ (o : Order). Some o) was.orders ++ l) (back ∙ ap (λ (l : List Order). map (λ (o : Order). Some o) l) (map-id orders))
      ∙ sym (map-append (λ (o : Order). Some o) was.orders orders);
  booked = booked;
}
