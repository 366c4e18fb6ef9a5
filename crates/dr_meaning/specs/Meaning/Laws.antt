-- The five laws, which every transcript of the machine has at each of its beginnings.
use Rattle.std.specs.Prelude.{◌≡◌, ℕ, ◌+◌, ◌<◌, ◌≤◌, IsTrue, ◌∷◌, ◌++◌, Contains, slice_get}
use Rattle.dr_meaning.specs.declared.command.Command.TheVariants.{Poll}
use Rattle.dr_meaning.specs.declared.command.Reply.TheVariants.{Claimed, Drained}
use Rattle.dr_graph.specs.Meaning.Graph.{upstreams_of, finals_without}
use Rattle.dr_meaning.specs.Meaning.Machine.{Setup, handlers}
use Rattle.dr_meaning.specs.Meaning.Transcript.{Entry, Transcript, next_of, is_published, event_of, front_of, received_by, taken_by, completed_by, is_halted, retired_by}

-- received in order: what a handler received are the first events, each once, in sequence order, and all of them are published
pub record ReceivedInOrder {E : Type 0} (t : Transcript E) (h : ℕ) : Type 0 where
  pub events : (k : ℕ) → k < taken_by t h → slice_get (received_by t h) k ≡ event_of t k
  pub published : taken_by t h ≤ front_of t

-- after the upstreams: a handler takes only what its upstreams completed, completes only what it took, and takes no completion back
pub record AfterUpstreams {E : Type 0} (c : Setup) (t : Transcript E) (h : ℕ) : Type 0 where
  pub rises : (earlier since : Transcript E) → earlier ++ since ≡ t → completed_by earlier h ≤ completed_by t h
  pub took : completed_by t h ≤ taken_by t h
  pub after : (u : ℕ) → Contains (upstreams_of c.upstreams h) u → taken_by t h ≤ completed_by t u

-- room: a claim uses no slot again before every final handler, of those that are not retired by then, completed the event that lay there
abbrev pub HasRoom : {E : Type 0} → Setup → Transcript E → Entry E → Type 0
HasRoom c t e = (lo hi f : ℕ) → e.reply ≡ Claimed lo hi → Contains (finals_without c.upstreams (retired_by t)) f → hi + 1 ≤ c.size + completed_by t f

-- room, too: a claim is given the next sequences, so that none is claimed twice
abbrev pub GivesNext : {E : Type 0} → Transcript E → Entry E → Type 0
GivesNext t e = (lo hi : ℕ) → e.reply ≡ Claimed lo hi → lo ≡ next_of t

-- no claim after a halt
abbrev pub NoClaimAfterHalt : {E : Type 0} → Transcript E → Entry E → Type 0
NoClaimAfterHalt t e = (lo hi : ℕ) → e.reply ≡ Claimed lo hi → IsTrue (is_halted t) → ⊥

-- drained is complete: a handler that is told `Drained`, after a halt, has taken every claimed sequence, and each is published
pub record IsComplete {E : Type 0} (t : Transcript E) (h : ℕ) : Type 0 where
  pub halted : IsTrue (is_halted t)
  pub taken : taken_by t h ≡ next_of t
  pub published : (s : ℕ) → s < next_of t → IsTrue (is_published t s)

abbrev pub DrainedIsComplete : {E : Type 0} → Transcript E → Entry E → Type 0
DrainedIsComplete t e = (h max : ℕ) → e.command ≡ Poll h max → e.reply ≡ Drained → IsComplete t h

-- the five laws, at each beginning of a transcript and at each entry after one
pub record Laws {E : Type 0} (c : Setup) (t : Transcript E) : Type 0 where
  pub received_in_order : (start rest : Transcript E) → start ++ rest ≡ t → (h : ℕ) → h < handlers c → ReceivedInOrder start h
  pub after_upstreams : (start rest : Transcript E) → start ++ rest ≡ t → (h : ℕ) → h < handlers c → AfterUpstreams c start h
  pub has_room : (start rest : Transcript E) (e : Entry E) → start ++ e ∷ rest ≡ t → HasRoom c start e
  pub gives_next : (start rest : Transcript E) (e : Entry E) → start ++ e ∷ rest ≡ t → GivesNext start e
  pub no_claim_after_halt : (start rest : Transcript E) (e : Entry E) → start ++ e ∷ rest ≡ t → NoClaimAfterHalt start e
  pub drained_is_complete : (start rest : Transcript E) (e : Entry E) → start ++ e ∷ rest ≡ t → DrainedIsComplete start e
