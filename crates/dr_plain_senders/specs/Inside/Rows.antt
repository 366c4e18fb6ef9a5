-- The slots of a sequence in all lanes, as its sender has them in hand, and what it has of the cell.
use Rattle.std.specs.Prelude.{◌≡◌, ◌≢◌, ℕ, zero, suc, ◌+◌, ◌-◌, ◌<◌, ◌≤◌, List, [], ◌∷◌, ◌++◌, length, replicate, drop, Option, None}
use mathlib.Core.Option.{some}
use lib.ListN.{get_elem?}
use Rattle.dr_cells.specs.declared.token.Token.{Token}
use Rattle.dr_cells.specs.Hold.{whole, held}
use Rattle.dr_cells.specs.Tokens.{token_at}
use Rattle.dr_runs.specs.Stretches.{stretch}
use Rattle.dr_plain_senders.specs.Meaning.Shape.{Shape, handlers_of}
use Rattle.dr_plain_senders.specs.Meaning.Words.{cell_of, lanes_of}
use Rattle.dr_plain_senders.specs.Meaning.Lying.{Laid, placed}
use Rattle.dr_plain_senders.specs.Inside.Hands.{nothings, blank_slot}
use Rattle.dr_plain_senders.specs.Inside.Seats.{Hand}

module _ {T : Type 0} where
  -- the slots of a sequence in every lane, with what lies in its cell, and with nothing
  abbrev pub row : Shape T → ℕ → Laid T → Hand T
  row k s a = stretch (λ lane b. placed k lane s b) 0 (replicate (lanes_of k) a)

  abbrev pub blank_row : Shape T → ℕ → Hand T
  blank_row k s = stretch (λ lane (u : Unit {0}). blank_slot k lane s) 0 (nothings (lanes_of k))

  -- and those in the handlers' lanes
  abbrev pub parts_row : Shape T → ℕ → Laid T → Hand T
  parts_row k s a = stretch (λ lane b. placed k lane s b) 1 (replicate (handlers_of k) a)

  abbrev pub blank_parts : Shape T → ℕ → Hand T
  blank_parts k s = stretch (λ lane (u : Unit {0}). blank_slot k lane s) 1 (nothings (handlers_of k))

  -- a token is all of the cell of a sequence
  abbrev pub IsWholeOf : Shape T → ℕ → Token T → Type 0
  IsWholeOf k s t = (x : T) × (t ≡ token_at k.strip (cell_of k s) (whole x))

  -- the rows of n sequences from s on, with nothing in them
  abbrev pub blank_rows : Shape T → ℕ → ℕ → Hand T
  blank_rows k s zero = []
  blank_rows k s (suc n) = blank_row k s ++ blank_rows k (s + 1) n

  -- the cells of some sequences are whole, each in its place, and all other places are as before
  pub record AreCollected (k : Shape T) (first upto : ℕ) (tokens tokens' : List (Token T)) : Type 0 where
    pub count : length tokens' ≡ length tokens
    pub whole : (s : ℕ) (t : Token T) → first ≤ s → s < upto → get_elem? tokens' (cell_of k s) ≡ some t → IsWholeOf k s t
    pub others : (i : ℕ) → ((s : ℕ) → first ≤ s → s < upto → cell_of k s ≢ i) → get_elem? tokens' i ≡ get_elem? tokens i

  -- the event in the slot that is first in hand
  abbrev pub first_in : Hand T → Option T
  first_in [] = None
  first_in (slot ∷ hand) = held slot.1.hold

  -- the events of the first n rows in hand
  abbrev pub events_in : ℕ → ℕ → Hand T → List (Option T)
  events_in lanes zero hand = []
  events_in lanes (suc n) hand = first_in hand ∷ events_in lanes n (drop lanes hand)

  -- the cells of some sequences, each in its place, have the events of the rows that were in hand
  abbrev pub HaveThoseOf : Shape T → Hand T → ℕ → ℕ → List (Token T) → Type 0
  HaveThoseOf k hand first upto tokens = (s : ℕ) (t : Token T) → first ≤ s → s < upto → get_elem? tokens (cell_of k s) ≡ some t
      → get_elem? (events_in (lanes_of k) (upto - first) hand) (s - first) ≡ some (held t.hold)
