-- What a transcript tells of the state that it leads to.
use Rattle.std.specs.Prelude.{◌≡◌, ℕ, ◌<◌, true, slice_get, slice_index}
use Rattle.dr_meaning.specs.Meaning.Machine.{State, next}
use Rattle.dr_meaning.specs.Meaning.Transcript.{Transcript, next_of, owner_of, is_published, last_written, event_of, received_by, taken_by, completed_by, is_halted, retired_by}

-- each word of transcripts says what the state has; a sequence that is not claimed has no owner
pub record Tells {E : Type 0} (t : Transcript E) (m : State E) : Type 0 where
  pub next : next_of t ≡ next m
  pub owners : (s : ℕ) → owner_of t s ≡ slice_get m.owners s
  pub published : (s : ℕ) → is_published t s ≡ m.published s
  pub written : (s : ℕ) → last_written t s ≡ m.written s
  pub events : (s : ℕ) → m.published s ≡ true → event_of t s ≡ m.written s
  pub taken : (h : ℕ) → taken_by t h ≡ slice_index m.taken h
  pub received : (h k : ℕ) → k < slice_index m.taken h → slice_get (received_by t h) k ≡ m.written k
  pub completed : (h : ℕ) → completed_by t h ≡ slice_index m.completed h
  pub halted : is_halted t ≡ m.halted
  pub retired : (h : ℕ) → retired_by t h ≡ m.retired h
