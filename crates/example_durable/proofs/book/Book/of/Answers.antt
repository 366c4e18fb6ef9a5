use Rattle.example_durable.proofs.Booking.{all_booked}
use Rattle.example_durable.proofs.book.Book.of.Goals as goal

pub returns : goal.returns
returns c =
    let new = c.default-book in all_booked new.result c.show_in_place.new.handler c.args.orders.now new.ensures.0 new.ensures.1 c.show_in_place.ensures
