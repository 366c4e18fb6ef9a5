use Rattle.std.proofs.Common.{◌≡◌, map, sym, ap, subst, ◌∙◌}
use Rattle.std.specs.Prelude.{None}
use Rattle.dr_journal.specs.Calls.Handling.{Writer}
use Rattle.dr_journal.specs.Calls.Journals.{IsAtRest}
use Rattle.dr_journal.specs.Calls.Opened.{file_left, file_seen}
use Rattle.dr_journal.specs.Calls.Writers.{writer_of}
use Rattle.dr_journal.specs.declared.file.FileDevice.{FileDevice}
use Rattle.dr_journal.specs.declared.journal.Journal.{Journal}
use Rattle.dr_durable.specs.Storing.{IsFresh, Stores}
use Rattle.dr_durable.proofs.Stored.{run_stored}
use Rattle.example_durable.specs.Orders.{order_in, order_record}
use Rattle.example_durable.specs.declared.order.Order.{Order}
use Rattle.example_durable.proofs.Booking.{more_booked}
use Rattle.example_durable.proofs.Trading.{day_after}
use Rattle.example_durable.proofs.trade.Goals as goal

pub returns : goal.returns
returns g c =
    let was = c.requires in
    let start = c.new-journal in
    let gave = c.in_ok-journal in
    let orders = gave.ensures.0 in
    let most = gave.ensures.2 in
    let fresh : IsFresh file_seen file_left (writer_of start.result) = record {
      well = ap (λ (w : Writer FileDevice). w.fault) start.ensures;
      idle = ap (λ (w : Writer FileDevice). w.waiting) start.ensures;
      at_rest = subst (λ (j : Journal FileDevice). IsAtRest file_seen file_left j) (sym (ap (λ (w : Writer FileDevice). w.journal) start.ensures)) was.at_rest;
    } in
    let none : (writer_of gave.journal).fault ≡ None = sym c.fault.ensures ∙ c.in_default.is in
    let all = run_stored file_seen file_left _ _ _ writer_of order_record _ (λ old new event s end goes. goes.0) (λ (o : Order). o) order_in
    (λ old new event s end goes. goes.1) most start.result gave.journal orders gave.ensures.4 fresh none in
    let stores = subst (λ (j : Journal FileDevice). Stores file_seen file_left c.args.day.journal j (map order_record orders)) (sym c.into_journal-journal.ensures.value)
    (subst (λ (j : Journal FileDevice). Stores file_seen file_left j (writer_of gave.journal).journal (map order_record orders))
    (ap (λ (w : Writer FileDevice). w.journal) start.ensures) all.0) in
    day_after c.args.day (record { journal = c.into_journal-journal.result; book = gave.book }) orders was stores all.1
    (more_booked most c.args.day.book gave.book was.orders orders was.booked gave.ensures.5)
