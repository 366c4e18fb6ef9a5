-- A stretch that is published with what lies in its cells, since its events lie in the caller's own memory.
use Rattle.std.specs.Prelude.{◌≡◌, ◌<◌, ◌≤◌, ◌+◌, ◌-◌, ◌^◌, ◌⊎◌, ℕ, true, false, is_none, List, Option, Result}
use mathlib.Core.Option.{some}
use lib.ListN.{get_elem?}
use Rattle.std.specs.List.{FoldsTo, range_with_len}
use Rattle.dr_seq.specs.declared.event.Event.{Event}
use Rattle.dr_meaning.specs.declared.refusal.Refusal.{Refusal}
use Rattle.dr_plain_senders.specs.declared.record.Own.{Own}
use Rattle.dr_plain_senders.specs.declared.record.Stage.{Stage}
use Rattle.dr_plain_senders.specs.Meaning.Records.{Owns, is_published}
use Rattle.dr_plain_senders.specs.Calls.Ends as several
use Rattle.dr_plain_senders.specs.Calls.Writing as writes_of_several

-- one of several senders writes the event of a sequence as it lies, or that is refused
abbrev pub LeavesOfSeveral : several.SenderEnd Event → ℕ → several.SenderEnd Event → Type 0
LeavesOfSeveral s sequence s' = (answer : Result (Unit {0}) Refusal) × writes_of_several.UpdateCall (λ was now. now ≡ was) s sequence s' answer

-- the sequences from lo on, none beyond hi, are written as they lie, and then there is a publication
abbrev pub PublishesAsLeft : {S : Type 0} → (S → ℕ → S → Type 0) → (S → S → Type 0) → ℕ → ℕ → S → S → Type 0
PublishesAsLeft {S} Leaves Publishes lo hi s s' =
    (count : ℕ) × (between : S) × (count ≤ hi + 1 - lo) × FoldsTo Leaves s (range_with_len lo count) between × Publishes between s'

-- each of these sequences stands once among them, as where each claim gives others
abbrev pub HasEachOnce : List (Own Event) → Type 0
HasEachOnce own = (i j : ℕ) (o p : Own Event) → get_elem? own i ≡ some o → get_elem? own j ≡ some p → o.sequence ≡ p.sequence → i ≡ j

-- each is below a limit, and below 2^62
abbrev pub AreWithin : ℕ → List (Own Event) → Type 0
AreWithin limit own = (i : ℕ) (o : Own Event) → get_elem? own i ≡ some o → (o.sequence < limit) × (o.sequence < 2 ^ 62)

-- what one of several senders has is what claims gave it: each sequence once, within its ring's limit
pub record HasClaimed (s : several.SenderEnd Event) : Type 0 where
  pub once : HasEachOnce s.knows.own
  pub within : AreWithin s.plan.limit s.knows.own

-- what one of several senders has of the sequences from lo on up to before k is written
abbrev pub OwnAreWritten : several.SenderEnd Event → ℕ → ℕ → Type 0
OwnAreWritten s lo k = (q : ℕ) (t : Stage Event) (w : Option Event) → lo ≤ q → q < k → writes_of_several.Holds s q t w → is_none w ≡ false

-- it wrote its own from lo on up to before upto, or to one that is not its own or that it published
abbrev pub WritesOwn : several.SenderEnd Event → ℕ → ℕ → Type 0
WritesOwn s lo upto =
    (k : ℕ) × (lo ≤ k) × OwnAreWritten s lo k
    × ((upto ≤ k) ⊎ ((k < upto) × ((t : Stage Event) → Owns s.knows k t → is_published t ≡ true)))
