-- The events of a file, a record at a time, as they are read.
use Rattle.std.proofs.Common.{◌≡◌, ◌+◌, ℕ, Bool, true, false, not, cond, ◌&&◌, List, [], ◌∷◌, ◌++◌, map, Option}
use Rattle.std.proofs.Common.{Some, None, Result, Ok, Err, refl, sym, ap, arith, ◌∙◌, append_assoc, append-nil}
use Rattle.std.specs.Option.{is_some}
use Rattle.std.specs.List.{cons_option, filter_map, list_all, position_or_len}
use Rattle.dr_seq.specs.declared.event.Event.{Event}
use Rattle.dr_operations.specs.declared.operation.Operation.{Operation}
use Rattle.dr_operations.specs.EventFile.{events_in, is_operation, operation_in}
use Rattle.dr_operations.specs.Operations.{event_for}
use Rattle.dr_records.specs.Records.{Record}

-- a file whose first record, the k-th, was an operation or none, before others
abbrev pub events_with : ℕ → Option Operation → Result (List Event) ℕ → Result (List Event) ℕ
events_with k None rest = Err k
events_with k (Some o) (Ok events) = Ok (event_for o ∷ events)
events_with k (Some o) (Err bad) = Err bad

-- the events of records, the first of them being the k-th, read one after another
unfoldable pub events_from : ℕ → List Record → Result (List Event) ℕ
events_from k [] = Ok []
events_from k (r ∷ rs) = events_with k (operation_in r) (events_from (k + 1) rs)

step : (k : ℕ) (o : Option Operation) (fine : Bool) (more : List Operation) (place : ℕ)
    → events_with k o (cond fine (Ok (map event_for more)) (Err (place + (k + 1))))
    ≡ cond (is_some o && fine) (Ok (map event_for (cons_option o more))) (Err (cond (not (not (is_some o))) (1 + place) 0 + k))
step k None fine more place = ap Err (omega arith)
step k (Some o) true more place = refl
step k (Some o) false more place = ap Err (omega arith)

all_from : (k : ℕ) (rs : List Record)
    → events_from k rs
    ≡ cond (list_all is_operation rs) (Ok (map event_for (filter_map operation_in rs))) (Err (position_or_len (λ r. not (is_operation r)) rs + k))
unfolding events_from
all_from k [] = refl
all_from k (r ∷ rs) =
    ap (events_with k (operation_in r)) (all_from (k + 1) rs)
    ∙ step k (operation_in r) (list_all is_operation rs) (filter_map operation_in rs) (position_or_len (λ r. not (is_operation r)) rs)

-- reading them one after another gives the events of all, or the first bad record
pub read_whole : (rs : List Record) → events_in rs ≡ events_from 1 rs
unfolding events_in
read_whole rs = sym (all_from 1 rs)

-- what records say that come after others, which were these events
abbrev pub preceded : List Event → Result (List Event) ℕ → Result (List Event) ℕ
preceded done (Ok events) = Ok (done ++ events)
preceded done (Err k) = Err k

pub preceded-nil : (r : Result (List Event) ℕ) → r ≡ preceded [] r
preceded-nil (Ok events) = refl
preceded-nil (Err k) = refl

one_more : (done : List Event) (k : ℕ) (o : Operation) (r : Result (List Event) ℕ)
    → preceded done (events_with k (Some o) r) ≡ preceded (done ++ event_for o ∷ []) r
one_more done k o (Ok events) = ap Ok (sym (append_assoc done (event_for o ∷ []) events))
one_more done k o (Err bad) = refl

pub file-goes : (whole : Result (List Event) ℕ) (done : List Event) (k : ℕ) (o : Operation) (left : List Record) (row : Record) (rest : List Record)
    → whole ≡ preceded done (events_from k left) → left ≡ row ∷ rest → Some o ≡ operation_in row
    → whole ≡ preceded (done ++ event_for o ∷ []) (events_from (k + 1) rest)
unfolding events_from
file-goes whole done k o left row rest p cut e =
    p ∙ ap (λ l. preceded done (events_from k l)) cut ∙ ap (λ x. preceded done (events_with k x (events_from (k + 1) rest))) (sym e)
    ∙ one_more done k o (events_from (k + 1) rest)

pub file-stops : (whole : Result (List Event) ℕ) (done : List Event) (k : ℕ) (left : List Record) (row : Record) (rest : List Record)
    → whole ≡ preceded done (events_from k left) → left ≡ row ∷ rest → None ≡ operation_in row → whole ≡ Err k
unfolding events_from
file-stops whole done k left row rest p cut e = p ∙ ap (λ l. preceded done (events_from k l)) cut
    ∙ ap (λ x. preceded done (events_with k x (events_from (k + 1) rest))) (sym e)

pub file-ends : (whole : Result (List Event) ℕ) (done : List Event) (k : ℕ) (left : List Record) → whole ≡ preceded done (events_from k left)
    → left ≡ [] → whole ≡ Ok done
unfolding events_from
file-ends whole done k left p none = p ∙ ap (λ l. preceded done (events_from k l)) none ∙ ap Ok (append-nil done)
