-- What a stream of an event file gives, a record at a time.
use Rattle.std.proofs.Common.{◌≡◌, ◌+◌, ℕ, not, cond, ◌&&◌, List, [], ◌∷◌, ◌++◌, map, Option, Some, None, refl, sym, ap, arith, ◌∙◌, append_assoc, append-nil}
use Rattle.std.specs.Prelude.{if◌then◌else◌}
use Rattle.std.specs.Option.{is_some}
use Rattle.std.proofs.lemmas.List.Sums.{take_while-cons}
use Rattle.std.specs.List.{cons_option, filter_map, list_all, position_or_len, take_while}
use Rattle.dr_seq.specs.declared.event.Event.{Event}
use Rattle.dr_records.specs.Records.{Record}
use Rattle.dr_operations.specs.declared.operation.Operation.{Operation}
use Rattle.dr_operations.specs.Arriving.{Arrival, arrival_from, behind, read_of, read_with}
use Rattle.dr_operations.specs.EventFile.{events_in, operation_in}
use Rattle.dr_operations.specs.Operations.{event_for}
use Rattle.dr_operations.proofs.EventFiles.{events_from, events_with, read_whole}

abbrev arrival : List Event → Option ℕ → Arrival
arrival events bad = record { events = events; bad = bad }

-- the same for any way to read an operation from a record
abbrev arrival_by : (Record → Option Operation) → ℕ → List Record → Arrival
arrival_by f k records = record {
  events = map event_for (filter_map f (take_while (λ r. is_some (f r)) records));
  bad = if list_all (λ r. is_some (f r)) records then None else Some (position_or_len (λ r. not (is_some (f r))) records + k);
}

-- how many records come before the first that is none
abbrev place : (Record → Option Operation) → List Record → ℕ
place f rs = position_or_len (λ r. not (is_some (f r))) rs

kept : (f : Record → Option Operation) (r : Record) (rs : List Record) (x : Option Operation) → f r ≡ x
    → take_while (λ q. is_some (f q)) (r ∷ rs) ≡ cond (is_some x) (r ∷ take_while (λ q. is_some (f q)) rs) []
kept f r rs x is = take_while-cons (λ q. is_some (f q)) r rs ∙ ap (λ (y : Option Operation). cond (is_some y) (r ∷ take_while (λ q. is_some (f q)) rs) []) is

some_by : (f : Record → Option Operation) (k : ℕ) (r : Record) (rs : List Record) (o : Operation) → f r ≡ Some o
    → arrival_by f k (r ∷ rs) ≡ behind (event_for o ∷ []) (arrival_by f (k + 1) rs)
some_by f k r rs o is =
    let at : (1 + place f rs) + k ≡ place f rs + (k + 1) = omega arith in
    ap (λ (l : List Record). arrival (map event_for (filter_map f l)) (arrival_by f k (r ∷ rs)).bad) (kept f r rs (Some o) is)
    ∙ ap (λ (x : Option Operation). arrival (map event_for (cons_option x (filter_map f (take_while (λ q. is_some (f q)) rs))))
    (if is_some x && list_all (λ q. is_some (f q)) rs then None else Some (cond (not (not (is_some x))) (1 + place f rs) 0 + k))) is
    ∙ ap (λ (n : ℕ). arrival (event_for o ∷ map event_for (filter_map f (take_while (λ q. is_some (f q)) rs))) (if list_all (λ q. is_some (f q)) rs then None else Some n)) at

none_by : (f : Record → Option Operation) (k : ℕ) (r : Record) (rs : List Record) → f r ≡ None → arrival_by f k (r ∷ rs) ≡ record { events = []; bad = Some k }
none_by f k r rs is =
    let at : 0 + k ≡ k = omega arith in
    ap (λ (l : List Record). arrival (map event_for (filter_map f l)) (arrival_by f k (r ∷ rs)).bad) (kept f r rs None is)
    ∙ ap (λ (x : Option Operation). arrival []
    (if is_some x && list_all (λ q. is_some (f q)) rs then None else Some (cond (not (not (is_some x))) (1 + place f rs) 0 + k))) is
    ∙ ap (λ (n : ℕ). arrival [] (Some n)) at

-- the first record is an operation
pub some_first : (k : ℕ) (r : Record) (rs : List Record) (o : Operation) → operation_in r ≡ Some o
    → arrival_from k (r ∷ rs) ≡ behind (event_for o ∷ []) (arrival_from (k + 1) rs)
unfolding arrival_from
some_first k r rs o is = some_by operation_in k r rs o is

-- or it is none
pub none_first : (k : ℕ) (r : Record) (rs : List Record) → operation_in r ≡ None → arrival_from k (r ∷ rs) ≡ record { events = []; bad = Some k }
unfolding arrival_from
none_first k r rs is = none_by operation_in k r rs is

-- no record is left
pub none_left : (k : ℕ) → arrival_from k [] ≡ record { events = []; bad = None }
unfolding arrival_from
none_left k = refl

as_read : (o : Operation) (k : ℕ) (events : List Event) (bad : Option ℕ) → read_with (event_for o ∷ events) bad ≡ events_with k (Some o) (read_with events bad)
as_read o k events None = refl
as_read o k events (Some n) = refl

-- what a file is read as is what its records give as a stream
pub read_as : (k : ℕ) (rs : List Record) → read_of (arrival_from k rs) ≡ events_from k rs
unfolding events_from
read_as k [] = ap read_of (none_left k)
read_as k (r ∷ rs) = by (operation_in r) refl (read_as (k + 1) rs)
  where
    by : (o : Option Operation) → operation_in r ≡ o → read_of (arrival_from (k + 1) rs) ≡ events_from (k + 1) rs → read_of (arrival_from k (r ∷ rs)) ≡ events_with k o (events_from (k + 1) rs)
    by None is rest = ap read_of (none_first k r rs is)
    by (Some o) is rest = ap read_of (some_first k r rs o is) ∙ as_read o k (arrival_from (k + 1) rs).events (arrival_from (k + 1) rs).bad ∙ ap (events_with k (Some o)) rest

pub read_in : (rs : List Record) → read_of (arrival_from 1 rs) ≡ events_in rs
read_in rs = read_as 1 rs ∙ sym (read_whole rs)

-- events behind others

pub behind-one : (before : List Event) (e : Event) (a : Arrival) → behind before (behind (e ∷ []) a) ≡ behind (before ++ e ∷ []) a
behind-one before e a = ap (λ (es : List Event). arrival es a.bad) (sym (append_assoc before (e ∷ []) a.events))

-- an operation joins what was given
pub goes : (before : List Event) (k : ℕ) (all : List Record) (r : Record) (rs : List Record) (o : Operation) → all ≡ r ∷ rs → operation_in r ≡ Some o
    → behind before (arrival_from k all) ≡ behind (before ++ event_for o ∷ []) (arrival_from (k + 1) rs)
goes before k all r rs o cut is = ap (λ l. behind before (arrival_from k l)) cut ∙ ap (behind before) (some_first k r rs o is) ∙ behind-one before (event_for o) (arrival_from (k + 1) rs)

-- a record that is none ends it
pub stops : (before : List Event) (k : ℕ) (all : List Record) (r : Record) (rs : List Record) → all ≡ r ∷ rs → operation_in r ≡ None
    → behind before (arrival_from k all) ≡ record { events = before; bad = Some k }
stops before k all r rs cut is = ap (λ l. behind before (arrival_from k l)) cut ∙ ap (behind before) (none_first k r rs is) ∙ ap (λ (es : List Event). arrival es (Some k)) (append-nil before)

pub ends : (before : List Event) (k : ℕ) (all : List Record) → all ≡ [] → behind before (arrival_from k all) ≡ record { events = before; bad = None }
ends before k all none = ap (λ l. behind before (arrival_from k l)) none ∙ ap (behind before) (none_left k) ∙ ap (λ (es : List Event). arrival es None) (append-nil before)
