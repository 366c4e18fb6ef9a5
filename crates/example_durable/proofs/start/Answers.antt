use Rattle.std.proofs.Common.{◌≡◌, ◌∙◌, ap, subst}
use Rattle.std.proofs.lemmas.List.{map-id}
use Rattle.dr_journal.specs.Calls.Journals.{bytes_of, records_of}
use Rattle.dr_journal.specs.Calls.Opened.{file_seen}
use Rattle.dr_journal.specs.Calls.Records.{AreValues}
use Rattle.example_durable.specs.Orders.{IsBookOf, order_in}
use Rattle.example_durable.proofs.start.Goals as goal

pub returns : goal.returns
returns c =
    let orders = c.in_ok-orders.orders.items in
    let records : bytes_of c.deref.result.now ≡ records_of file_seen c.in_ok-journal.journal = ap (λ l. bytes_of l) c.deref.ensures.value ∙ c.in_ok-journal.ensures.records in
    let read : AreValues order_in (bytes_of c.deref.result.now) orders =
    subst (λ l. AreValues order_in (bytes_of c.deref.result.now) l) (map-id orders) c.in_ok-orders.ensures.events in
    record {
      at_rest = c.in_ok-journal.ensures.at_rest;
      orders = orders;
      stored = subst (λ r. AreValues order_in r orders) records read;
      booked = subst (λ l. IsBookOf c.of-book.result l) c.deref-2.ensures.value c.of-book.ensures;
    }
