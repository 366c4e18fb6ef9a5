-- What an audit finds of a transcript: whether each producer sent its script, and each handler that is left took it all.
use Rattle.std.specs.Prelude.{◌≡◌, ℕ, ◌<◌, Bool, true, false, ◌&&◌, ◌==◌, Option, None, Some, List, [], length, map, filter, take, slice_index_or}
use Rattle.std.specs.List.{range_with_len, filter_map}
use Rattle.std.specs.Borrow.{Bor}
use Rattle.dr_meaning.specs.Meaning.Transcript.{Transcript, next_of, owner_of, is_published, event_of, received_by, taken_by, retired_by}
use Rattle.dr_lock.specs.declared.audit_fault.AuditFault.{AuditFault}
use Rattle.dr_lock.specs.declared.audit_fault.AuditFault.TheVariants.{ScriptDiffers, NotDrained, NoMemory}
use Rattle.dr_workers.specs.Meaning.Merge.{IsMerge}

-- What producers sent.

-- the events of the claimed sequences that pass a test, in rising sequence
abbrev pub events_where : {E : Type 0} → Transcript E → (ℕ → Bool) → List E
events_where t test = filter_map (event_of t) (filter test (range_with_len 0 (next_of t)))

-- the published events
abbrev pub published_by_all : {E : Type 0} → Transcript E → List E
published_by_all t = events_where t (is_published t)

abbrev pub is_owner : Option ℕ → ℕ → Bool
is_owner None p = false
is_owner (Some q) p = q == p

-- a producer's published events
abbrev pub published_by : {E : Type 0} → Transcript E → ℕ → List E
published_by t p = events_where t (λ s. is_published t s && is_owner (owner_of t s) p)

abbrev pub scripts_of : {E : Type 0} → List (Bor (List E)) → List (List E)
scripts_of scripts = map (λ s. s.now) scripts

-- a producer without a script has the empty one
abbrev pub script_of : {E : Type 0} → List (List E) → ℕ → List E
script_of scripts p = slice_index_or scripts p []

abbrev pub SentScript : {E : Type 0} → Transcript E → List (List E) → ℕ → Type 0
SentScript t scripts p = published_by t p ≡ script_of scripts p

-- a handler that is not retired took as many events as were published
abbrev pub TookAll : {E : Type 0} → Transcript E → ℕ → Type 0
TookAll t h = retired_by t h ≡ false → taken_by t h ≡ length (published_by_all t)

-- What an audit answers.

-- the handlers that are not retired received one list, of which a retired one's is a beginning: all published events, which are a merge of the scripts
pub record IsAudited {E : Type 0} (t : Transcript E) (handlers : ℕ) (scripts : List (List E)) (list : List E) : Type 0 where
  pub sent : (p : ℕ) → SentScript t scripts p
  pub received : (h : ℕ) → h < handlers → retired_by t h ≡ false → received_by t h ≡ list
  pub left : (h : ℕ) → h < handlers → retired_by t h ≡ true → received_by t h ≡ take (taken_by t h) list
  pub all : list ≡ published_by_all t
  pub merged : IsMerge scripts list

-- a number is the least that lacks something
abbrev pub FirstLacks : (ℕ → Type 0) → ℕ → Type 0
FirstLacks Has n = (Has n → ⊥) × ((k : ℕ) → k < n → Has k)

-- the least producer that did not send its script; where each did, the least handler that lacks events
abbrev pub Faults : {E : Type 0} → Transcript E → ℕ → List (List E) → AuditFault → Type 0
Faults t handlers scripts (ScriptDiffers p) = FirstLacks (SentScript t scripts) p
Faults t handlers scripts (NotDrained h) = ((p : ℕ) → SentScript t scripts p) × (h < handlers) × FirstLacks (TookAll t) h
Faults t handlers scripts NoMemory = Unit {0}
