-- The history of an exchange: the calls that it kept, and the events of their batches.
use Rattle.std.specs.Prelude.{◌≡◌, ℕ, ◌^◌, ◌≤◌, Bool, true, false, List, [], ◌∷◌, ◌++◌, drop, length, map, sum_by, if◌then◌else◌}
use Rattle.dr_seq.specs.Size.{IsSize}
use Rattle.dr_meaning.specs.declared.command.Command.{Command}
use Rattle.dr_meaning.specs.declared.command.Command.TheVariants.{Halt, Poll}
use Rattle.dr_meaning.specs.declared.command.Reply.{Reply}
use Rattle.dr_meaning.specs.declared.command.Reply.TheVariants.{Gating, Idle, Refused}
use Rattle.dr_core.specs.Calls.CoreView.{CoreView}
use Rattle.dr_meaning.specs.Meaning.Transcript.{Transcript}
use Rattle.dr_meaning.specs.Meaning.Runs.{transcript_of, counts_of}
use Rattle.dr_core.specs.Calls.Reached.{RunsTo}
use Rattle.dr_lock.specs.declared.entry.Entry.{Entry}

pub record History (E : Type 0) : Type 0 where
  pub core : CoreView E
  pub entries : List (Entry E)
  pub values : List E

-- a history, and how many entries and events its memory holds
pub record RecordedView (E : Type 0) : Type 0 where
  pub history : History E
  pub entry_room : ℕ
  pub value_room : ℕ

-- a refusal changes nothing, nor does a poll that gets no event; of these only `Drained` is kept, since a law speaks of it
abbrev pub is_kept : Reply → Bool
is_kept (Refused refusal) = false
is_kept Gating = false
is_kept Idle = false
is_kept other = true

-- the entries with their events, cut by the counts of the batches
abbrev pub transcript_of_entries : {E : Type 0} → List (Entry E) → List E → Transcript E
transcript_of_entries entries values = transcript_of (map (λ e. e.command) entries) (map (λ e. e.reply) entries) values

abbrev pub transcript : {E : Type 0} → History E → Transcript E
transcript k = transcript_of_entries k.entries k.values

-- the entries after one more call
abbrev pub entries_after : {E : Type 0} → List (Entry E) → Entry E → List (Entry E)
entries_after entries e = if is_kept e.reply then entries ++ e ∷ [] else entries

-- only kept replies
abbrev pub AreKept : {E : Type 0} → List (Entry E) → Type 0
AreKept [] = Unit {0}
AreKept (e ∷ es) = (is_kept e.reply ≡ true) × AreKept es

-- the history has kept replies only, leads to a state that the core shows, has the five laws, and has the events of its batches
pub record IsRecorded {E : Type 0} (k : History E) : Type 0 where
  pub small : k.core.setup.limit ≤ 2 ^ 62
  pub size : IsSize k.core.setup.size
  pub kept : AreKept k.entries
  pub counted : length k.values ≡ counts_of (map (λ e. e.reply) k.entries)
  pub runs : RunsTo k.core.setup (transcript k) k.core

-- the entries that a history has beyond those of its beginning
abbrev pub entries_since : {E : Type 0} → History E → History E → List (Entry E)
entries_since begun k = drop (length begun.entries) k.entries

-- a history of the same exchange, which begins as it was once
pub record GoesOn {E : Type 0} (begun k : History E) : Type 0 where
  pub setup : k.core.setup ≡ begun.core.setup
  pub names : k.core.names ≡ begun.core.names
  pub entries : k.entries ≡ begun.entries ++ entries_since begun k
  pub values : k.values ≡ begun.values ++ drop (length begun.values) k.values

abbrev pub halts_of : {E : Type 0} → Command E → ℕ
halts_of Halt = 1
halts_of other = 0

-- how many of some calls are halts
abbrev pub halts_in : {E : Type 0} → List (Entry E) → ℕ
halts_in entries = sum_by (λ e. halts_of e.command) entries

-- for how many events a command asks
abbrev pub asked : {E : Type 0} → Command E → ℕ
asked (Poll h max) = max
asked other = 0
