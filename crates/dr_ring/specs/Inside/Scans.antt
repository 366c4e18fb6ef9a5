-- What the sender's looks come to, as a claim goes on.
use Rattle.std.specs.Prelude.{◌≡◌, ℕ, ◌+◌, ◌<◌, ◌≤◌, ◌⊎◌, List, [], ◌++◌, length, slice_index, Option, Some, None}
use Rattle.dr_graph.specs.Meaning.Graph.{finals}
use Rattle.dr_ring.specs.Meaning.Shape.{Shape}
use Rattle.dr_runs.specs.OneSender.Words.{count_word}
use Rattle.dr_runs.specs.declared.look.Look.{Look}
use Rattle.dr_ring.specs.declared.record.SenderRecord.{SenderRecord}
use Rattle.dr_runs.specs.Looks.{last_look}
use Rattle.dr_runs.specs.OneSender.Looks.{count_looks}
use Rattle.dr_meaning.specs.Calls.Ends.{with_claimed}
use Rattle.dr_ring.specs.Inside.Fits.{IsSeenLeast}

-- the sender has made these looks more
abbrev pub sender_saw : SenderRecord → List Look → SenderRecord
sender_saw r seen = record r { looks = r.looks ++ seen }

-- and claimed n more
abbrev pub more_claimed : SenderRecord → ℕ → SenderRecord
more_claimed r n = record r { sent = with_claimed r.sent n }

-- the sender made these looks, in which no count fell
pub record LooksAtFinals (r : SenderRecord) (xs : List Look) (r' : SenderRecord) : Type 0 where
  pub is : r' ≡ sender_saw r xs
  pub rises : (f : ℕ) → last_look 0 r.looks (count_word f) ≤ last_look 0 (r.looks ++ xs) (count_word f)

-- every count was at least what was needed, or what was remembered served
pub record IsEnough (r : SenderRecord) (xs : List Look) (needed least : ℕ) : Type 0 where
  pub enough : needed ≤ least
  pub front : least ≤ length r.sent.published
  pub seen : IsSeenLeast (sender_saw r xs) least
  pub counts : List ℕ
  pub are : xs ≡ count_looks (finals r.plan.upstreams) counts
  pub all : (counts ≡ []) ⊎ (length counts ≡ length (finals r.plan.upstreams))
  pub high : (i : ℕ) → i < length counts → needed ≤ slice_index counts i

-- the last count was the first that was less
pub record IsShort (k : Shape) (xs : List Look) (needed : ℕ) : Type 0 where
  pub counts : List ℕ
  pub are : xs ≡ count_looks (finals k.upstreams) counts
  pub before : ℕ
  pub last : length counts ≡ before + 1
  pub among : length counts ≤ length (finals k.upstreams)
  pub high : (i : ℕ) → i < before → needed ≤ slice_index counts i
  pub low : slice_index counts before < needed

abbrev pub Scans : SenderRecord → ℕ → SenderRecord → Option ℕ → Type 0
Scans r need r' (Some least) = (seen : List Look) × LooksAtFinals r seen r' × IsEnough r seen need least
Scans r need r' None = (seen : List Look) × LooksAtFinals r seen r' × IsShort r.plan seen need
