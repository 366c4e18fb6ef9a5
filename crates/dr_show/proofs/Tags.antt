-- No byte of the page's data is `<`.
use Rattle.std.proofs.Common.{◌≡◌, ℕ, zero, suc, ◌+◌, ◌-◌, ◌/◌, ◌%◌, ◌<◌, Bool, true, false, not, List, [], ◌∷◌, ◌++◌, Option, Some, None, Result, Ok, Err, arith, refl, ap, ◌∙◌, length, flat_map, codes, decimal, slice_index, min}
use Rattle.std.specs.Prelude.{◌==◌, nat_lt, is_some, if◌then◌else◌, slice_index_or}
use Rattle.std.specs.Fmt.{digits, digits_onto, digit_glyph}
use Rattle.std.specs.List.{range_with_len}
use Rattle.std.proofs.lemmas.Bool.{and_from, cond_both, ltb-true, ne_eqb}
use Rattle.std.proofs.lemmas.List.Folds.{list_all-append}
use Rattle.dr_seq.specs.declared.event.Event.{Event}
use Rattle.dr_graph.specs.Calls.Fault.{fault_name}
use Rattle.dr_graph.specs.Meaning.Graph.{upstreams_of}
use Rattle.dr_graph.specs.declared.fault.GraphFault.{GraphFault}
use Rattle.dr_graph.specs.declared.fault.GraphFault.TheVariants as graph
use Rattle.dr_meaning.specs.Meaning.Machine.{Setup, State, front, handlers, is_single, next, producers}
use Rattle.dr_records.specs.Records.{Field, Record, field, records_of}
use Rattle.dr_drive.specs.declared.fault.Cause.{Cause}
use Rattle.dr_drive.specs.declared.fault.Cause.TheVariants as cause
use Rattle.dr_drive.specs.Meaning.Causes.{cause_name}
use Rattle.dr_drive.specs.Meaning.DriveText.{Phase, Preparing, Running, Taken, taken}
use Rattle.dr_drive.specs.Meaning.Lines.{event_text}
use Rattle.dr_drive.specs.Meaning.Setup.{Empty, missing}
use Rattle.dr_drive.specs.Meaning.StateLine.{room}
use Rattle.dr_files.specs.Lines.{Line}
use Rattle.dr_show.specs.declared.handlers.HandlerState.{HandlerState}
use Rattle.dr_show.specs.declared.handlers.PollAnswer.{PollAnswer}
use Rattle.dr_show.specs.declared.handlers.PollAnswer.TheVariants as poll
use Rattle.dr_show.specs.declared.sequences.Sequence.{Sequence}
use Rattle.dr_show.specs.declared.tool.Window.{Window}
use Rattle.dr_show.specs.Meaning.Texts.{bool_text, byte_text, bytes_text, comma_before, field_text, fields_text, hex_digit, is_printable, opens_no_tag}
use Rattle.dr_show.specs.Meaning.StateText.{answer_word, begins, exchange_text, handler_object, handler_of, most_drawn, named_object, round, round_from, round_text, sequence_of, stage_word, state_text, stretch_text, upstream_text, written_text}
use Rattle.dr_show.specs.Meaning.PageText.{data_text, fault_text, faulty_text, last_text, object_of, objects_after, objects_from, record_text, shows, told_after}

abbrev Free : List ℕ → Type 0
Free text = opens_no_tag text ≡ true

join : (a b : List ℕ) → Free a → Free b → Free (a ++ b)
join a b x y = list_all-append (λ c. not (c == 60)) a b ∙ and_from (opens_no_tag a) (opens_no_tag b) x y

-- texts one after another, each of which opens none
record Part : Type 0 where
  text : List ℕ
  free : Free text

abbrev part : (text : List ℕ) → Free text → Part
part text free = record { text = text; free = free }

abbrev in_order : List ℕ → List Part → List ℕ
in_order text [] = text
in_order text (it ∷ parts) = in_order (text ++ it.text) parts

all_free : (text : List ℕ) → Free text → (parts : List Part) → Free (in_order text parts)
all_free text first [] = first
all_free text first (it ∷ parts) = all_free (text ++ it.text) (join text it.text first it.free) parts

flat_free : {A : Type 0} (f : A → List ℕ) → ((x : A) → Free (f x)) → (xs : List A) → Free (flat_map f xs)
flat_free f each [] = refl
flat_free f each (x ∷ xs) = join (f x) (flat_map f xs) (each x) (flat_free f each xs)

abbrev flat : {A : Type 0} (f : A → List ℕ) → ((x : A) → Free (f x)) → List A → Part
flat f each xs = part (flat_map f xs) (flat_free f each xs)

if_free : (b : Bool) (x y : List ℕ) → Free x → Free y → Free (if b then x else y)
if_free true x y first second = first
if_free false x y first second = second

one_more : (x : ℕ) (xs : List ℕ) → (x == 60) ≡ false → Free xs → Free (x ∷ xs)
one_more x xs other rest = and_from (not (x == 60)) (opens_no_tag xs) (ap not other) rest

-- digits
digit_free : (base d : ℕ) → 60 < base → ((if nat_lt d 10 then 48 + d else base + d) == 60) ≡ false
digit_free base d high =
    cond_both (nat_lt d 10) (48 + d) (base + d) (λ x. (x == 60) ≡ false) (λ low. ne_eqb (48 + d) 60 (λ e. absurd (omega (arith, ltb-true d 10 low, e))))
    (λ n. ne_eqb (base + d) 60 (λ e. absurd (omega arith)))

digits_free : (k n : ℕ) (acc : List ℕ) → Free acc → Free (digits_onto k 10 false n acc)
digits_free zero n acc rest = rest
digits_free (suc k) n acc rest =
    let more : Free (digit_glyph false (n % 10) ∷ acc) = one_more (digit_glyph false (n % 10)) acc (digit_free 87 (n % 10) (omega arith)) rest in
    if_free (n / 10 == 0) (digit_glyph false (n % 10) ∷ acc) (digits_onto k 10 false (n / 10) (digit_glyph false (n % 10) ∷ acc)) more
    (digits_free k (n / 10) (digit_glyph false (n % 10) ∷ acc) more)

decimal_free : (n : ℕ) → Free (decimal n)
unfolding digits
decimal_free n = digits_free 64 n [] refl

abbrev number : ℕ → Part
number n = part (decimal n) (decimal_free n)

-- the file's own texts
code_free : (x y : ℕ) → (x == 60) ≡ false → (y == 60) ≡ false → Free (codes "\\\\x" ++ x ∷ y ∷ [])
code_free x y first second = join (codes "\\\\x") (x ∷ y ∷ []) refl (one_more x (y ∷ []) first (one_more y [] second refl))

byte_free : (b : ℕ) → Free (byte_text b)
byte_free b =
    let code : Free (codes "\\\\x" ++ hex_digit (b / 16) ∷ hex_digit (b % 16) ∷ []) =
    code_free (hex_digit (b / 16)) (hex_digit (b % 16)) (digit_free 87 (b / 16) (omega arith)) (digit_free 87 (b % 16) (omega arith)) in
    cond_both (b == 34) _ _ Free (λ q. refl) (λ q. cond_both (b == 92) _ _ Free (λ s. refl)
    (λ s. cond_both (b == 60) _ _ Free (λ t. refl) (λ other. cond_both (b == 10) _ _ Free (λ l. refl)
    (λ l. cond_both (is_printable b) _ _ Free (λ p. one_more b [] other refl) (λ p. code)))))

bytes_free : (bytes : List ℕ) → Free (bytes_text bytes)
bytes_free bytes = flat_free byte_text byte_free bytes

comma_free : (place : ℕ) → Free (comma_before place)
comma_free place = if_free (place == 0) [] (codes ",") refl refl

fields_free : (r : Record) → Free (fields_text r)
fields_free r =
    flat_free (field_text r) (λ place. join (comma_before place) (bytes_text (field r place)) (comma_free place) (bytes_free (field r place)))
    (range_with_len 0 (length r))

-- words
bool_free : (b : Bool) → Free (bool_text b)
bool_free b = if_free b (codes "true") (codes "false") refl refl

abbrev truth : Bool → Part
truth b = part (bool_text b) (bool_free b)

answer_free : (it : PollAnswer) → Free (answer_word it)
answer_free poll.Retired = refl
answer_free poll.Batch = refl
answer_free poll.Drained = refl
answer_free poll.Gating = refl
answer_free poll.Idle = refl

stage_free : (it : Sequence) → Free (stage_word it)
stage_free it = if_free it.is_published _ _ refl (if_free (is_some it.event) (codes "written") (codes "claimed") refl refl)

graph_free : (fault : GraphFault) → Free (fault_name fault)
graph_free graph.BadName = refl
graph_free graph.Duplicate = refl
graph_free graph.Stranger = refl
graph_free graph.Cycle = refl
graph_free graph.TooMany = refl
graph_free graph.NoHandlers = refl
graph_free graph.EmptyGroup = refl
graph_free graph.NoMemory = refl

cause_free : (why : Cause) → Free (cause_name why)
cause_free cause.NoRing = refl
cause_free cause.BadRecord = refl
cause_free cause.BadSize = refl
cause_free cause.BadProducers = refl
cause_free cause.BadLimit = refl
cause_free cause.NoGroup = refl
cause_free (cause.Graph fault) = graph_free fault
cause_free cause.NoStart = refl

-- a state
handler_free : (h : ℕ) (it : HandlerState) → Free (handler_object h it)
handler_free h it =
    all_free (comma_before h) (comma_free h) (part (codes "{\"taken\":") refl ∷ number it.taken ∷ part (codes ",\"completed\":") refl ∷ number it.completed
    ∷ part (codes ",\"ready\":") refl ∷ number it.ready ∷ part (codes ",\"poll\":\"") refl ∷ part (answer_word it.poll) (answer_free it.poll)
    ∷ part (codes "\",\"retired\":") refl ∷ truth it.is_retired ∷ part (codes ",\"gates\":") refl ∷ truth it.gates ∷ part (codes ",\"holds\":") refl ∷ truth it.holds
    ∷ part (codes "}") refl ∷ [])

stretch_free : (sequence : ℕ → Sequence) (from s : ℕ) → Free (stretch_text sequence from s)
stretch_free sequence from s =
    if_free (begins sequence from s) _ [] (all_free (comma_before (s - from)) (comma_free (s - from)) (part (codes "[") refl ∷ number s ∷ part (codes ",") refl
    ∷ number (sequence s).producer ∷ part (codes ",\"") refl ∷ part (stage_word (sequence s)) (stage_free (sequence s)) ∷ part (codes "\"]") refl ∷ [])) refl

event_free : (e : Event) → Free (event_text e)
event_free e =
    if_free (e.second == 0) (decimal e.first) _ (decimal_free e.first)
    (all_free (decimal e.first) (decimal_free e.first) (part (codes ":") refl ∷ number e.second ∷ []))

written_free : (s : ℕ) (event : Option Event) → Free (written_text s event)
written_free s None = refl
written_free s (Some event) = all_free (codes " ") refl (number s ∷ part (codes "=") refl ∷ part (event_text event) (event_free event) ∷ [])

round_free : (sequence : ℕ → Sequence) (size claimed : ℕ) → Free (round_text sequence size claimed)
round_free sequence size claimed =
    let from : ℕ = round_from size claimed in
    all_free (codes ",\"round\":[") refl (flat (stretch_text sequence from) (stretch_free sequence from) (round size claimed) ∷ part (codes "],\"events\":\"") refl
    ∷ flat (λ s. written_text s (sequence s).event) (λ s. written_free s (sequence s).event) (round (min size most_drawn) claimed) ∷ part (codes "\"") refl ∷ [])

state_free : (c : Setup) (m : State Event) → Free (state_text c m)
state_free c m =
    all_free (codes ",\"next\":") refl (number (next m) ∷ part (codes ",\"front\":") refl ∷ number (front m) ∷ part (codes ",\"room\":") refl ∷ number (room c m)
    ∷ part (codes ",\"halted\":") refl ∷ truth m.halted ∷ part (codes ",\"handlers\":[") refl
    ∷ flat (λ h. handler_object h (handler_of c m h)) (λ h. handler_free h (handler_of c m h)) (range_with_len 0 (handlers c)) ∷ part (codes "]") refl
    ∷ part (round_text (sequence_of m) c.size (next m)) (round_free (sequence_of m) c.size (next m)) ∷ [])

-- an exchange
upstream_free : (ups : List ℕ) (place : ℕ) → Free (upstream_text ups place)
upstream_free ups place = all_free (comma_before place) (comma_free place) (number (slice_index ups place) ∷ [])

named_free : (names : List Field) (graph : List (List ℕ)) (h : ℕ) → Free (named_object names graph h)
named_free names graph h =
    all_free (comma_before h) (comma_free h) (part (codes "{\"name\":\"") refl ∷ part (bytes_text (slice_index_or names h [])) (bytes_free (slice_index_or names h []))
    ∷ part (codes "\",\"upstreams\":[") refl
    ∷ flat (upstream_text (upstreams_of graph h)) (upstream_free (upstreams_of graph h)) (range_with_len 0 (length (upstreams_of graph h))) ∷ part (codes "]}") refl ∷ [])

exchange_free : (names : List Field) (c : Setup) → Free (exchange_text names c)
exchange_free names c =
    all_free (codes ",\"exchange\":{\"size\":") refl (number c.size ∷ part (codes ",\"producers\":") refl ∷ number (producers c.mode) ∷ part (codes ",\"single\":") refl
    ∷ truth (is_single c.mode) ∷ part (codes ",\"limit\":\"") refl ∷ number c.limit ∷ part (codes "\",\"handlers\":[") refl
    ∷ flat (named_object names c.upstreams) (named_free names c.upstreams) (range_with_len 0 (handlers c)) ∷ part (codes "]}") refl ∷ [])

-- the objects
record_free : (k : ℕ) (r : Record) → Free (record_text k r)
record_free k r = all_free (codes "{\"record\":") refl (number k ∷ part (codes ",\"text\":\"") refl ∷ part (fields_text r) (fields_free r) ∷ part (codes "\"") refl ∷ [])

told_free : (phase : Phase) (line : Option Line) → Free (told_after phase line)
told_free (Preparing stage) line = refl
told_free (Running names c m) None = join (exchange_text names c) (state_text c m) (exchange_free names c) (state_free c m)
told_free (Running names c m) (Some line) =
    all_free (codes ",\"reply\":\"") refl (part (bytes_text line) (bytes_free line) ∷ part (codes "\"") refl ∷ part (state_text c m) (state_free c m) ∷ [])

object_free : (k : ℕ) (r : Record) (t : Taken) → Free (object_of k r t)
object_free k r t = all_free (record_text k r) (record_free k r) (part (told_after t.phase t.line) (told_free t.phase t.line) ∷ part (codes "},\n") refl ∷ [])

fault_free : (k : ℕ) (why : Cause) → Free (fault_text k why)
fault_free k why =
    let line : Free (codes "record " ++ decimal k ++ codes ": " ++ cause_name why) =
    all_free (codes "record ") refl (number k ∷ part (codes ": ") refl ∷ part (cause_name why) (cause_free why) ∷ []) in
    all_free (codes ",\"fault\":\"") refl (part (codes "record " ++ decimal k ++ codes ": " ++ cause_name why) line ∷ part (codes "\"}") refl ∷ [])

last_free : (k : ℕ) (phase : Phase) → Free (last_text k phase)
last_free k (Preparing stage) = all_free (codes "{\"last\":") refl (number (k - 1) ∷ part (fault_text k (missing stage)) (fault_free k (missing stage)) ∷ [])
last_free k (Running names c m) = all_free (codes "{\"last\":") refl (number (k - 1) ∷ part (codes "}") refl ∷ [])

faulty_free : (k : ℕ) (r : Record) (why : Cause) → Free (faulty_text k r why)
faulty_free k r why =
    all_free (record_text k r) (record_free k r) (part (fault_text k why) (fault_free k why) ∷ part (codes ",\n{\"last\":") refl ∷ number k ∷ part (codes "}") refl ∷ [])

after_free : (w : Window) (k : ℕ) (r : Record) (t : Result Taken Cause) (rest : Phase → List ℕ) → ((phase : Phase) → Free (rest phase)) → Free (objects_after w k r t rest)
after_free w k r (Ok t) rest each =
    join (if shows w k t then object_of k r t else []) (rest t.phase) (if_free (shows w k t) (object_of k r t) [] (object_free k r t) refl) (each t.phase)
after_free w k r (Err why) rest each = faulty_free k r why

objects_free : (w : Window) (k : ℕ) (phase : Phase) (rs : List Record) → Free (objects_from w k phase rs)
unfolding objects_from
objects_free w k phase [] = last_free k phase
objects_free w k phase (r ∷ rs) =
    after_free w k r (taken false phase r) (λ after. objects_from w (k + 1) after rs) (λ after. objects_free w (k + 1) after rs)

pub data_free : (w : Window) (input : List ℕ) → opens_no_tag (data_text w input) ≡ true
data_free w input =
    let objects : Part = part (objects_from w 1 (Preparing Empty) (records_of input)) (objects_free w 1 (Preparing Empty) (records_of input)) in
    all_free (codes "{\"from\":") refl (number w.from ∷ part (codes ",\"steps\":") refl ∷ number w.steps ∷ part (codes ",\"records\":[\n") refl ∷ objects ∷ part (codes "\n]}") refl ∷ [])
