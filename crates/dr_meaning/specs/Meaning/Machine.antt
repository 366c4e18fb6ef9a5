-- The machine: what each call answers and leaves.
-- Its lists, sets and maps go by sequence and have no bound; it has no slots, and uses nothing again.
use Rattle.std.specs.Prelude.{ℕ, zero, suc, ◌+◌, ◌-◌, min, Bool, true, false, not, ◌&&◌, ◌||◌, ◌==◌, nat_lt, nat_le, if◌then◌else◌, Option, None, Some, is_none, List, [], ◌∷◌, ◌++◌, length, map, replicate, slice_index, slice_set}
use Rattle.std.specs.List.{range_with_len, filter_map}
use Rattle.dr_meaning.specs.declared.mode.Mode.{Mode}
use Rattle.dr_meaning.specs.declared.mode.Mode.TheVariants.{Single, Multi}
use Rattle.dr_meaning.specs.declared.command.Command.{Command}
use Rattle.dr_meaning.specs.declared.command.Command.TheVariants.{Claim, Write, Publish, Poll, Complete, Halt, Retire}
use Rattle.dr_meaning.specs.declared.refusal.Refusal.{Refusal}
use Rattle.dr_meaning.specs.Meaning.Refusals.{SequenceTests, claim_causes, write_causes, sequence_causes, publish_causes, poll_causes, complete_causes, retire_causes}
use Rattle.dr_meaning.specs.declared.command.Reply.{Reply}
use Rattle.dr_meaning.specs.declared.command.Reply.TheVariants.{Claimed, Written, Published, Batch, Drained, Gating, Idle, Completed, Halting, Retired, Refused}
use Rattle.dr_graph.specs.Meaning.Graph.{upstreams_of, nobody, is_some_left, is_followed, finals_without, least_of}

-- what an exchange is opened with; the graph is given by each handler's direct upstreams
pub record Setup : Type 0 where
  pub upstreams : List (List ℕ)
  pub size : ℕ
  pub mode : Mode
  pub limit : ℕ

pub record State (E : Type 0) : Type 0 where
  pub owners : List ℕ  -- of each claimed sequence, its producer
  pub written : ℕ → Option E  -- of each sequence, the event last written to it
  pub published : ℕ → Bool  -- which sequences are published
  pub taken : List ℕ  -- of each handler, how many events it took
  pub completed : List ℕ  -- of each handler, how many events it completed
  pub halted : Bool
  pub retired : ℕ → Bool  -- which handlers are retired

-- what a call answers, the events that it hands out, and what it leaves
pub record Outcome (E : Type 0) : Type 0 where
  pub reply : Reply
  pub values : List E
  pub state : State E

abbrev pub handlers : Setup → ℕ
handlers c = length c.upstreams

-- the setup of a graph, a size, a mode and a limit
abbrev pub setup_of : List (List ℕ) → ℕ → Mode → ℕ → Setup
setup_of upstreams size mode limit = record { upstreams = upstreams; size = size; mode = mode; limit = limit }

-- nothing is claimed, written, published, taken or completed, and nobody is retired
abbrev pub opening : {E : Type 0} → Setup → State E
opening c =
    record { owners = []; written = λ s. None; published = λ s. false; taken = replicate (handlers c) 0; completed = replicate (handlers c) 0; halted = false; retired = nobody }

abbrev pub is_single : Mode → Bool
is_single Single = true
is_single (Multi p) = false

abbrev pub producers : Mode → ℕ
producers Single = 1
producers (Multi p) = p

-- the handlers that gate a claim: those that are not retired, and upstream of none that is not
abbrev pub gating : {E : Type 0} → Setup → State E → List ℕ
gating c m = finals_without c.upstreams m.retired

-- the retired handlers with one more
abbrev pub retired_with : {E : Type 0} → State E → ℕ → ℕ → Bool
retired_with m h k = m.retired k || k == h

-- the least completed count of some handlers
abbrev pub least_completed : {E : Type 0} → State E → List ℕ → ℕ
least_completed m hs = least_of (map (λ h. slice_index m.completed h) hs)

-- the count that a claim is gated by
abbrev pub gate : {E : Type 0} → Setup → State E → ℕ
gate c m = least_completed m (gating c m)

-- the least number that is not in a set, or the bound where all below it are
unfoldable pub least_outside : (ℕ → Bool) → ℕ → ℕ
least_outside set zero = 0
least_outside set (suc bound) = if (least_outside set bound == bound) && set bound then suc bound else least_outside set bound

-- how many sequences are claimed
abbrev pub next : {E : Type 0} → State E → ℕ
next m = length m.owners

-- the least sequence that is not published
abbrev pub front : {E : Type 0} → State E → ℕ
front m = least_outside m.published (next m)

-- what the barrier of a handler with these upstreams lets through: what is published, or what all of them completed
abbrev pub offered : {E : Type 0} → State E → List ℕ → ℕ
offered m [] = front m
offered m (up ∷ ups) = least_completed m (up ∷ ups)

abbrev pub available : {E : Type 0} → Setup → State E → ℕ → ℕ
available c m h = offered m (upstreams_of c.upstreams h)

-- one producer moves the cursor when it publishes, several when they claim
abbrev pub cursor : {E : Type 0} → Setup → State E → ℕ
cursor c m = if is_single c.mode then front m else next m

-- the tests of one sequence of a publication
abbrev pub sequence_tests : {E : Type 0} → State E → ℕ → ℕ → SequenceTests Bool
sequence_tests m p s =
    record { published = m.published s; not_owned = not (slice_index m.owners s == p); unwritten = is_none (m.written s) }

-- what refuses to publish one sequence, in order
abbrev pub publish_faults : {E : Type 0} → State E → ℕ → ℕ → List (Bool × Refusal)
publish_faults m p s = sequence_causes (sequence_tests m p s)

-- what refuses a command, in order: the first test that holds is answered
abbrev pub refusals : {E : Type 0} → Setup → State E → Command E → List (Bool × Refusal)
refusals c m (Claim p n) = claim_causes (record {
  no_producer = nat_le (producers c.mode) p;
  bad_count = n == 0 || nat_lt c.size n;
  halted = m.halted;
  exhausted = nat_lt c.limit (next m + n);
  no_room = nat_lt (c.size + gate c m) (next m + n);
})
refusals c m (Write p s event) = write_causes (record {
  no_producer = nat_le (producers c.mode) p;
  unclaimed = nat_le (next m) s;
  published = m.published s;
  not_owned = not (slice_index m.owners s == p);
})
refusals c m (Publish p lo hi) = publish_causes lo hi (record {
  no_producer = nat_le (producers c.mode) p;
  bad_count = nat_lt hi lo;
  unclaimed = nat_le (next m) hi;
  of_sequence = sequence_tests m p;
  out_of_order = is_single c.mode && not (lo == front m);
})
refusals c m (Poll h max) = poll_causes (record { no_handler = nat_le (handlers c) h; retired = m.retired h; bad_count = max == 0 })
refusals c m (Complete h upto) = complete_causes (record {
  no_handler = nat_le (handlers c) h;
  retired = m.retired h;
  behind = nat_lt upto (slice_index m.completed h);
  not_taken = nat_lt (slice_index m.taken h) upto;
})
refusals c m Halt = []
refusals c m (Retire h) = retire_causes (record {
  no_handler = nat_le (handlers c) h;
  retired = m.retired h;
  not_final = is_followed c.upstreams m.retired h;
  last_handler = not (is_some_left (handlers c) (retired_with m h));
})

abbrev pub unchanged : {E : Type 0} → Reply → State E → Outcome E
unchanged r m = record { reply = r; values = []; state = m }

-- the next events of a handler, at most `max`
abbrev pub batch : {E : Type 0} → Setup → State E → ℕ → ℕ → Outcome E
batch c m h max =
    let first : ℕ = slice_index m.taken h in
    let count : ℕ = min (available c m h - first) max in
    record {
      reply = Batch first count (first + count == available c m h);
      values = filter_map m.written (range_with_len first count);
      state = record m { taken = slice_set m.taken h (first + count) };
    }

-- what a command answers and leaves where nothing refuses it
abbrev pub accepted : {E : Type 0} → Setup → State E → Command E → Outcome E
accepted c m (Claim p n) =
    record { reply = Claimed (next m) (next m + n - 1); values = []; state = record m { owners = m.owners ++ replicate n p } }
accepted c m (Write p s event) =
    record { reply = Written; values = []; state = record m { written = λ k. if k == s then Some event else m.written k } }
accepted c m (Publish p lo hi) =
    record { reply = Published; values = []; state = record m { published = λ k. m.published k || (nat_le lo k && nat_le k hi) } }
accepted c m (Poll h max) =
    if nat_lt (slice_index m.taken h) (available c m h) then batch c m h max
    else if m.halted && (slice_index m.taken h == next m) then unchanged Drained m
    else if nat_lt (slice_index m.taken h) (cursor c m) then unchanged Gating m
    else unchanged Idle m
accepted c m (Complete h upto) =
    record { reply = Completed; values = []; state = record m { completed = slice_set m.completed h upto } }
accepted c m Halt = record { reply = Halting; values = []; state = record m { halted = true } }
accepted c m (Retire h) = record { reply = Retired; values = []; state = record m { retired = retired_with m h } }

-- the first test that holds refuses, and changes nothing
abbrev pub unless : {E : Type 0} → List (Bool × Refusal) → State E → Outcome E → Outcome E
unless [] m o = o
unless (test ∷ tests) m o = if test.0 then unchanged (Refused test.1) m else unless tests m o

abbrev pub step : {E : Type 0} → Setup → State E → Command E → Outcome E
step c m command = unless (refusals c m command) m (accepted c m command)
