-- How the parts of all lent events come back to the sender's tokens, once all ends are together.
use Rattle.std.specs.Prelude.{◌≡◌, ◌≢◌, ℕ, ◌+◌, ◌-◌, ◌<◌, ◌≤◌, true, if◌then◌else◌, List, [], ◌∷◌, ◌++◌, map, length, drop, Some}
use mathlib.Core.Option.{some}
use lib.ListN.{get_elem?}
use Rattle.dr_cells.specs.declared.token.Token.{Token}
use Rattle.dr_cells.specs.Hold.{whole, kept, joined}
use Rattle.dr_cells.specs.Tokens.{token_at, with_hold}
use Rattle.dr_runs.specs.declared.view.View.{View}
use Rattle.dr_runs.specs.Gathering.{IsInView, ViewRan}
use Rattle.dr_lent.specs.Rows.{cells_of}
use Rattle.dr_lent.specs.declared.lent.Lent.{Lent}
use Rattle.dr_runs.specs.declared.counts.HandlerCounts.{HandlerCounts}
use Rattle.dr_lent.specs.Slots.{is_in_hand}
use Rattle.dr_plain.specs.Meaning.Shape.{Shape, handlers_of}
use Rattle.dr_plain.specs.Meaning.Words.{cell_of}
use Rattle.dr_plain.specs.Meaning.Lying.{part_of, placed}
use Rattle.dr_plain.specs.Meaning.Records.{claimed}
use Rattle.dr_plain.specs.declared.record.SenderRecord.{SenderRecord}
use Rattle.dr_plain.specs.declared.record.EndRecord.{EndRecord}
use Rattle.dr_plain.specs.declared.record.Step.{Step}
use Rattle.dr_plain.specs.Calls.Ends.{SenderEnd, ReceiverEnd, HalterEnd}
use Rattle.dr_plain.specs.Calls.Settling.{AreAllEnds, handler_counts}
use Rattle.dr_plain.specs.Inside.Seats.{Hand, Sitting, ring_ends, exchange}
use Rattle.dr_plain.specs.Inside.Gathering.{sender_known, receiver_known, halter_known}

module _ {T : Type 0} where
  -- the first event that still lies lent in its cell
  abbrev pub first_lent : SenderRecord T → ℕ
  first_lent r = claimed r - r.plan.size

  -- the slots in which a handler's parts of some events lie, from the sequence s on: all but those that it has in hand
  abbrev pub parts_left : Shape → ℕ → HandlerCounts → ℕ → List (Lent T) → Hand T
  parts_left k h c s [] = []
  parts_left k h c s (l ∷ lents) = if is_in_hand c s then parts_left k h c (s + 1) lents else placed k h s (Some l) ∷ parts_left k h c (s + 1) lents

  -- and those of all handlers, from the handler h on
  abbrev pub all_left : Shape → ℕ → List HandlerCounts → ℕ → List (Lent T) → Hand T
  all_left k h [] s lents = []
  all_left k h (c ∷ counts) s lents = parts_left k h c s lents ++ all_left k (h + 1) counts s lents

  abbrev pub left_of : SenderEnd T → List (ReceiverEnd T) → Hand T
  left_of s es =
      all_left s.knows.plan 0 (map (λ (e : ReceiverEnd T). handler_counts e.knows) es) (first_lent s.knows) (drop (first_lent s.knows) s.knows.published)

  -- a view has all ends of a ring
  pub record HasAllEnds (v : View (EndRecord T) (Step T)) (s : SenderEnd T) (es : List (ReceiverEnd T)) (t : HalterEnd T) : Type 0 where
    pub sender : IsInView ring_ends v (sender_known s)
    pub halter : IsInView ring_ends v (halter_known t)
    pub receivers : (h : ℕ) (e : ReceiverEnd T) → get_elem? es h ≡ some e → IsInView ring_ends v (receiver_known e)
    pub all : AreAllEnds s es t

  -- a load by the seat that has them: it stands for none any more, and has in hand what lay in the slots
  pub record TookAll (k : Shape) (me : Sitting T) (n : ℕ) (me' : Sitting T) : Type 0 where
    pub ran : ViewRan (exchange k) me.0
    pub hand : (s : SenderEnd T) (es : List (ReceiverEnd T)) (t : HalterEnd T) → HasAllEnds me.0 s es t → me'.1 ≡ left_of s es ++ me.1

  -- one handler's parts of the events from `first` on are in its slots, which are first in hand, or with it, and m parts of each are out
  pub record IsLane (k : Shape) (h : ℕ) (c : HandlerCounts) (first upto m : ℕ) (lents : List (Lent T)) (hand : Hand T) (parts tokens : List (Token T)) : Type 0 where
    pub count : length lents ≡ upto
    pub near : upto ≤ first + k.size
    pub some_part : 0 < m
    pub places : length parts ≡ k.size
    pub cells : length tokens ≡ k.size
    pub out : (s : ℕ) (l : Lent T) → first ≤ s → get_elem? lents s ≡ some l
        → get_elem? tokens (cell_of k s) ≡ some (token_at k.strip (cell_of k s) (kept l.round m l.event))
    pub held : (s : ℕ) (l : Lent T) → first ≤ s → is_in_hand c s ≡ true → get_elem? lents s ≡ some l
        → get_elem? parts (cell_of k s) ≡ some (part_of k s (Some l))
    pub others : Hand T
    pub in_front : hand ≡ parts_left k h c first (drop first lents) ++ others

  -- these slots have left the front of the hand
  abbrev pub TakesLane : Shape → ℕ → HandlerCounts → ℕ → ℕ → ℕ → Hand T → Hand T → Type 0
  TakesLane k h c first upto s hand hand' =
      (lents : List (Lent T)) (others : Hand T) → length lents ≡ upto → hand ≡ parts_left k h c first (drop first lents) ++ others
      → (behind : Hand T) × (hand' ≡ parts_left k h c s (drop s lents) ++ (others ++ behind))

  -- one part of what lies in the cell of each of these sequences is back, and all else is as it was
  pub record OnePartBack (k : Shape) (first upto : ℕ) (tokens tokens' : List (Token T)) : Type 0 where
    pub count : length tokens' ≡ length tokens
    pub cells : cells_of tokens' ≡ cells_of tokens
    pub back : (s : ℕ) (t : Token T) → first ≤ s → s < upto → get_elem? tokens (cell_of k s) ≡ some t
        → get_elem? tokens' (cell_of k s) ≡ some (with_hold t (joined t.hold))
    pub others : (i : ℕ) → ((s : ℕ) → first ≤ s → s < upto → cell_of k s ≢ i) → get_elem? tokens' i ≡ get_elem? tokens i

  -- m parts of each event from `first` on are out, and all other cells are whole
  pub record AreOut (k : Shape) (first upto m : ℕ) (lents : List (Lent T)) (tokens : List (Token T)) : Type 0 where
    pub count : length lents ≡ upto
    pub near : upto ≤ first + k.size
    pub cells : length tokens ≡ k.size
    pub out : (s : ℕ) (l : Lent T) → first ≤ s → get_elem? lents s ≡ some l
        → get_elem? tokens (cell_of k s) ≡ some (token_at k.strip (cell_of k s) (kept l.round m l.event))
    pub others : (i : ℕ) (t : Token T) → ((s : ℕ) → first ≤ s → s < upto → cell_of k s ≢ i) → get_elem? tokens i ≡ some t
        → (x : T) × (t ≡ token_at k.strip i (whole x))

  -- all handlers' parts of these events are in their slots, which are first in hand, or with them
  pub record AreLanes (k : Shape) (counts : List HandlerCounts) (first upto : ℕ) (lents : List (Lent T)) (hand : Hand T) (hands : List (List (Token T))) (tokens : List (Token T)) : Type 0 where
    pub handlers : length counts ≡ handlers_of k
    pub many : length hands ≡ handlers_of k
    pub out : AreOut k first upto (handlers_of k) lents tokens
    pub places : (h : ℕ) (parts : List (Token T)) → get_elem? hands h ≡ some parts → length parts ≡ k.size
    pub held : (h : ℕ) (c : HandlerCounts) (parts : List (Token T)) → get_elem? counts h ≡ some c → get_elem? hands h ≡ some parts
        → (s : ℕ) (l : Lent T) → first ≤ s
        → is_in_hand c s ≡ true → get_elem? lents s ≡ some l → get_elem? parts (cell_of k s) ≡ some (part_of k s (Some l))
    pub others : Hand T
    pub in_front : hand ≡ all_left k 0 counts first (drop first lents) ++ others
