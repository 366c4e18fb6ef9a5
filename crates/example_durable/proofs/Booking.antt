-- What a book has of the orders that it was shown.
use Rattle.std.proofs.Common.{◌≡◌, ℕ, ◌+◌, ◌^◌, ◌%◌, Bool, true, List, [], ◌∷◌, ◌++◌, length, arith, subst}
use Rattle.std.specs.List.{sum_by}
use Rattle.std.proofs.lemmas.List.{length_push}
use Rattle.std.proofs.lemmas.List.Sums.{sum_by-append}
use Rattle.dr_meaning.specs.Calls.Handling.{GoesThrough, Relation, showings}
use Rattle.dr_workers.proofs.Along.{along, along_batches}
use Rattle.dr_disruptor.specs.Handlers.{WentThrough}
use Rattle.example_durable.specs.Orders.{IsBookOf}
use Rattle.example_durable.specs.declared.book.Book.{Book}
use Rattle.example_durable.specs.declared.order.Order.{Order}

-- one call, as the book says it
abbrev adds : Relation Order Book
adds old order s end new = (new.orders ≡ (old.orders + 1) % 2 ^ 64) × (new.quantity ≡ (old.quantity + order.quantity) % 2 ^ 64)

one_more : (old new : Book) (orders : List Order) (order : Order) (s : ℕ) (end : Bool) → IsBookOf old orders → adds old order s end new
    → IsBookOf new (orders ++ order ∷ [])
one_more old new orders order s end has goes = record {
  many = (let was = has.many in let is = goes.0 in let longer = length_push orders order in omega arith);
  quantity = (let was = has.quantity in let is = goes.1 in let more = sum_by-append (λ (o : Order). o.quantity) orders (order ∷ []) in omega arith);
}

-- shown some orders at first, it has just these
pub all_booked : (start after : Book) (orders : List Order) → start.orders ≡ 0 → start.quantity ≡ 0
    → GoesThrough adds start (showings orders 0 true) after → IsBookOf after orders
all_booked start after orders none nothing went =
    along adds IsBookOf one_more start after [] orders 0 true (record { many = none; quantity = nothing }) went

-- shown more in a run, it has these too
pub more_booked : (most : ℕ) (start after : Book) (before orders : List Order) → IsBookOf start before
    → WentThrough adds most start after orders → IsBookOf after (before ++ orders)
more_booked most start after before orders has went =
    subst (λ (l : List Order). IsBookOf after (before ++ l)) went.dealt
    (along_batches adds IsBookOf one_more start after before went.batches has went.through)
