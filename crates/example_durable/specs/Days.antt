-- What the disk and the book have.
use Rattle.std.specs.Prelude.{List}
use Rattle.dr_journal.specs.Calls.Journals.{IsAtRest, records_of}
use Rattle.dr_journal.specs.Calls.Opened.{file_left, file_seen}
use Rattle.dr_journal.specs.Calls.Records.{AreValues}
use Rattle.example_durable.specs.Orders.{IsBookOf, order_in}
use Rattle.example_durable.specs.declared.Day.{Day}
use Rattle.example_durable.specs.declared.order.Order.{Order}

-- the journal stands on the disk for some orders, and the book is that of just these
pub record IsOnDisk (day : Day) : Type 0 where
  pub at_rest : IsAtRest file_seen file_left day.journal
  pub orders : List Order
  pub stored : AreValues order_in (records_of file_seen day.journal) orders
  pub booked : IsBookOf day.book orders
