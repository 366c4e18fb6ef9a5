-- How a stream of an event file goes on with the bytes that come.
use Rattle.std.proofs.Common.{add-one, ◌≡◌, ◌≤◌, ◌<◌, ◌+◌, ℕ, true, false, List, [], ◌∷◌, ◌++◌, length, drop, get_or, Option, Some, None, Result, Ok, Err, IfSome, IsSomeAnd, OnOk, refl, sym, ap, subst, ◌∙◌, drop-cons}
use Rattle.std.proofs.lemmas.List.{drop_all}
use Rattle.std.specs.Io.KnownBytes.{Consumes, IsAtEnd, Keeps}
use Rattle.dr_seq.specs.declared.event.Event.{Event}
use Rattle.dr_files.specs.declared.fault.FileFault.{FileFault}
use Rattle.dr_files.specs.declared.fault.FileFault.TheVariants as file
use Rattle.dr_records.specs.Records.{Record}
use Rattle.dr_records.specs.Stream.{records_to_come}
use Rattle.dr_records.specs.declared.stream.Stream.{Stream}
use Rattle.dr_files.specs.Outcome.{FaultCounts}
use Rattle.dr_operations.specs.declared.cause.Cause.{Cause}
use Rattle.dr_operations.specs.declared.event_stream.EventStream.{EventStream}
use Rattle.dr_operations.specs.declared.operation.Operation.{Operation}
use Rattle.dr_operations.specs.Arriving.{Arrival, Feeds, Finishes, Pushes, ReadsOn, Stops, arrival_from, behind, to_come}
use Rattle.dr_operations.specs.EventFile.{operation_in}
use Rattle.dr_operations.specs.Operations.{event_for}
use Rattle.dr_operations.proofs.Arrivals.{ends, goes, stops}

-- where memory ran out before anything was added
pub nothing_added : (e : FileFault Cause) (a : Arrival) (before : List Event) → e ≡ file.Memory → Stops e (behind before a) before
nothing_added file.Memory a before is = (a.events, refl)
nothing_added (file.Input k cause) a before is = cc
nothing_added file.Read a before is = cc
nothing_added file.Write a before is = cc

-- a byte that ends no record
pub unended : (old new : EventStream) (byte : ℕ) (before : List Event) → new.count ≡ old.count
    → ((more : List ℕ) → records_to_come old.records (byte ∷ more) ≡ records_to_come new.records more)
    → (more : List ℕ) → behind before (to_come old (byte ∷ more)) ≡ behind before (to_come new more)
unended old new byte before count same more =
    ap (λ rows. behind before (arrival_from (old.count + 1) rows)) (same more)
    ∙ ap (λ n. behind before (arrival_from (n + 1) (records_to_come new.records more))) (sym count)

-- a record that is whole, as an operation or as none
pushed_as : {A : Type 0} (r : Result A (FileFault Cause)) (o : Option Operation) (k : ℕ) (all rest : List Record) (row : Record) (before given : List Event)
    → operation_in row ≡ o → all ≡ row ∷ rest → Pushes r k row before given
    → ((done : A) → r ≡ Ok done → behind before (arrival_from k all) ≡ behind given (arrival_from (k + 1) rest))
    × ((e : FileFault Cause) → r ≡ Err e → Stops e (behind before (arrival_from k all)) given)
pushed_as (Ok d) (Some o) k all rest row before given is cut pushes =
    let found : given ≡ before ++ event_for o ∷ [] = subst (λ (x : Option Operation). IsSomeAnd x (λ p. given ≡ before ++ event_for p ∷ [])) is pushes in
    (λ done same. rw found (goes before k all row rest o cut is), λ e same. let clash : Ok d ≡ Err e = same in cc)
pushed_as (Ok d) None k all rest row before given is cut pushes =
    let found : ⊥ = subst (λ (x : Option Operation). IsSomeAnd x (λ p. given ≡ before ++ event_for p ∷ [])) is pushes in
    absurd found
pushed_as (Err (file.Input n cause)) o k all rest row before given is cut pushes = (
  λ done same. let clash : Err (file.Input n cause) ≡ Ok done = same in cc,
  λ e same. let which : file.Input n cause ≡ e = cc in
      subst (λ (x : FileFault Cause). Stops x (behind before (arrival_from k all)) given) which
      (pushes.2, rw (pushes.1, pushes.3) (stops before k all row rest cut pushes.0)),
)
pushed_as (Err file.Memory) o k all rest row before given is cut pushes = (
  λ done same. let clash : Err file.Memory ≡ Ok done = same in cc,
  λ e same. let which : e ≡ file.Memory = cc in rw pushes (nothing_added e (arrival_from k all) before which),
)
pushed_as (Err file.Read) o k all rest row before given is cut pushes = absurd pushes
pushed_as (Err file.Write) o k all rest row before given is cut pushes = absurd pushes

pub pushed : {A : Type 0} (r : Result A (FileFault Cause)) (old new : EventStream) (mid : Stream) (byte : ℕ) (before given : List Event) (row : Record)
    → OnOk r (new.count ≡ old.count + 1) → new.records ≡ mid → ((more : List ℕ) → records_to_come old.records (byte ∷ more) ≡ row ∷ records_to_come mid more)
    → Pushes r (old.count + 1) row before given → Feeds r old new (byte ∷ []) before given
pushed (Ok d) old new mid byte before given row count same cut pushes = λ more.
    (pushed_as (Ok d) (operation_in row) (old.count + 1) (records_to_come old.records (byte ∷ more)) (records_to_come mid more) row before given refl (cut more) pushes).0 d refl
    ∙ ap (λ n. behind given (arrival_from (n + 1) (records_to_come mid more))) (sym count)
    ∙ ap (λ s. behind given (arrival_from (new.count + 1) (records_to_come s more))) (sym same)
pushed {A} (Err e) old new mid byte before given row count same cut pushes = λ more.
    (pushed_as {A = A} (Err e) (operation_in row) (old.count + 1) (records_to_come old.records (byte ∷ more)) (records_to_come mid more) row before given refl (cut more) pushes).1 e refl

-- the last record of all
pub pushed_last : {A : Type 0} (r : Result A (FileFault Cause)) (old : EventStream) (before given : List Event) (row : Record)
    → records_to_come old.records [] ≡ row ∷ [] → Pushes r (old.count + 1) row before given → Finishes r old before given
pushed_last (Ok d) old before given row cut pushes =
    (pushed_as (Ok d) (operation_in row) (old.count + 1) (records_to_come old.records []) [] row before given refl cut pushes).0 d refl
    ∙ ends given (old.count + 1 + 1) [] refl
pushed_last {A} (Err e) old before given row cut pushes =
    (pushed_as {A = A} (Err e) (operation_in row) (old.count + 1) (records_to_come old.records []) [] row before given refl cut pushes).1 e refl

-- where memory ran out
pub no_memory : {A : Type 0} (r : Result A (FileFault Cause)) (e : FileFault Cause) (old new : EventStream) (bytes : List ℕ) (before : List Event)
    → r ≡ Err e → e ≡ file.Memory → Feeds r old new bytes before before
no_memory (Ok d) e old new bytes before is memory = cc
no_memory (Err x) e old new bytes before is memory = λ more.
    let same : x ≡ e = cc in nothing_added x (to_come old (bytes ++ more)) before (same ∙ memory)

pub no_memory_last : {A : Type 0} (r : Result A (FileFault Cause)) (e : FileFault Cause) (old : EventStream) (before : List Event)
    → r ≡ Err e → e ≡ file.Memory → Finishes r old before before
no_memory_last (Ok d) e old before is memory = cc
no_memory_last (Err x) e old before is memory =
    let same : x ≡ e = cc in nothing_added x (to_come old []) before (same ∙ memory)

-- what is left of a piece after so many of its bytes
abbrev pub Fed : EventStream → EventStream → List ℕ → ℕ → List Event → List Event → Type 0
Fed old now piece i before given = (more : List ℕ) → behind before (to_come old (piece ++ more)) ≡ behind given (to_come now (drop i piece ++ more))

byte_of : (piece : List ℕ) (i : ℕ) (more : List ℕ) → i < length piece → drop i piece ++ more ≡ get_or piece i 0 ∷ drop (i + 1) piece ++ more
byte_of piece i more less = rw add-one (ap (λ l. l ++ more) (drop-cons piece i 0 less))

pub fed_on : (old now new : EventStream) (piece : List ℕ) (i : ℕ) (before between given : List Event) → i < length piece → Fed old now piece i before between
    → ((more : List ℕ) → behind between (to_come now (get_or piece i 0 ∷ more)) ≡ behind given (to_come new more)) → Fed old new piece (i + 1) before given
fed_on old now new piece i before between given less so_far takes = λ more.
    so_far more ∙ ap (λ l. behind between (to_come now l)) (byte_of piece i more less) ∙ takes (drop (i + 1) piece ++ more)

pub fed_stop : (e : FileFault Cause) (old now : EventStream) (piece : List ℕ) (i : ℕ) (before between given : List Event) → i < length piece → Fed old now piece i before between
    → ((more : List ℕ) → Stops e (behind between (to_come now (get_or piece i 0 ∷ more))) given) → (more : List ℕ) → Stops e (behind before (to_come old (piece ++ more))) given
fed_stop e old now piece i before between given less so_far takes more =
    let same = so_far more ∙ ap (λ l. behind between (to_come now l)) (byte_of piece i more less) in
    subst (λ (a : Arrival). Stops e a given) (sym same) (takes (drop (i + 1) piece ++ more))

pub fed_all : (old now : EventStream) (piece : List ℕ) (i : ℕ) (before given : List Event) → length piece ≤ i → Fed old now piece i before given
    → (more : List ℕ) → behind before (to_come old (piece ++ more)) ≡ behind given (to_come now more)
fed_all old now piece i before given end so_far more = so_far more ∙ ap (λ l. behind given (to_come now (l ++ more))) (drop_all i piece end)

-- reads from a reader

pub read_on : (old new : EventStream) (bytes left : Option (List ℕ)) (piece : List ℕ) (before given : List Event) → Consumes bytes left piece
    → ((more : List ℕ) → behind before (to_come old (piece ++ more)) ≡ behind given (to_come new more)) → ReadsOn (Ok true) old new bytes left before given
read_on old new None left piece before given took fed = tt
read_on old new (Some bytes) None piece before given took fed = absurd took
read_on old new (Some bytes) (Some left) piece before given took fed = ap (λ l. behind before (to_come old l)) took ∙ fed left

pub read_stop : (e : FileFault Cause) (old new : EventStream) (bytes left : Option (List ℕ)) (piece : List ℕ) (before given : List Event) → Consumes bytes left piece
    → ((more : List ℕ) → Stops e (behind before (to_come old (piece ++ more))) given) → ReadsOn (Err e) old new bytes left before given
read_stop e old new None left piece before given took stop = tt
read_stop e old new (Some bytes) None piece before given took stop = absurd took
read_stop (file.Input k cause) old new (Some bytes) (Some left) piece before given took stop = subst (λ l. Stops (file.Input k cause) (behind before (to_come old l)) given) (sym took) (stop left)
read_stop file.Memory old new (Some bytes) (Some left) piece before given took stop = subst (λ l. Stops file.Memory (behind before (to_come old l)) given) (sym took) (stop left)
read_stop file.Read old new (Some bytes) (Some left) piece before given took stop = absurd (stop left)
read_stop file.Write old new (Some bytes) (Some left) piece before given took stop = absurd (stop left)

-- at the reader's end
nothing_left : (bytes left : Option (List ℕ)) → Consumes bytes left [] → IsAtEnd left → IfSome bytes (λ xs. xs ≡ [])
nothing_left None left took end = tt
nothing_left (Some xs) None took end = absurd took
nothing_left (Some xs) (Some ys) took end = took ∙ end

pub read_end : (old new : EventStream) (bytes left : Option (List ℕ)) (before given : List Event) → Consumes bytes left [] → IsAtEnd left
    → behind before (to_come old []) ≡ record { events = given; bad = None } → ReadsOn (Ok false) old new bytes left before given
read_end old new None left before given took end finished = tt
read_end old new (Some xs) left before given took end finished = ap (λ l. behind before (to_come old l)) (nothing_left (Some xs) left took end) ∙ finished

pub read_end_stop : (e : FileFault Cause) (old new : EventStream) (bytes left : Option (List ℕ)) (before given : List Event) → Consumes bytes left [] → IsAtEnd left
    → Stops e (behind before (to_come old [])) given → ReadsOn (Err e) old new bytes left before given
read_end_stop e old new None left before given took end stop = tt
read_end_stop (file.Input k cause) old new (Some xs) left before given took end stop =
    subst (λ l. Stops (file.Input k cause) (behind before (to_come old l)) given) (sym (nothing_left (Some xs) left took end)) stop
read_end_stop file.Memory old new (Some xs) left before given took end stop =
    subst (λ l. Stops file.Memory (behind before (to_come old l)) given) (sym (nothing_left (Some xs) left took end)) stop
read_end_stop file.Read old new (Some xs) left before given took end stop = absurd stop
read_end_stop file.Write old new (Some xs) left before given took end stop = absurd stop

pub read_failed : (old new : EventStream) (bytes left : Option (List ℕ)) (before given : List Event) → new ≡ old → Keeps bytes left → given ≡ before
    → ReadsOn (Err file.Read) old new bytes left before given
read_failed old new None left before given same keeps none = tt
read_failed old new (Some bytes) None before given same keeps none = absurd keeps
read_failed old new (Some bytes) (Some left) before given same keeps none = (same, ap Some keeps, none)

-- a fault of the input, or of memory, is no failed read
pub no_failed_read : (e : FileFault Cause) (a : Arrival) (given : List Event) (reads : ℕ) → Stops e a given → FaultCounts e reads reads 0 0
no_failed_read (file.Input k cause) a given reads stop = (refl, refl)
no_failed_read file.Memory a given reads stop = (refl, refl)
no_failed_read file.Read a given reads stop = absurd stop
no_failed_read file.Write a given reads stop = absurd stop
