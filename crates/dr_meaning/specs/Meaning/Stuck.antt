-- Somebody is stuck: what `NobodyIsStuck` says of each is false of somebody where handlers wait for each other in a circle,
-- which no graph has, where one follows a handler that is retired, or where the producer of a claimed sequence is none of
-- those that there are. The events are numbers here.
use Rattle.std.specs.Prelude.{ℕ, ◌==◌, [], ◌∷◌, ◌++◌}
use Rattle.dr_meaning.specs.declared.mode.Mode.{Mode}
use Rattle.dr_meaning.specs.declared.mode.Mode.TheVariants.{Single, Multi}
use Rattle.dr_meaning.specs.Meaning.Machine.{Setup, State, setup_of, opening}
use Rattle.dr_meaning.specs.Meaning.Transcript.{Transcript, LeadsTo}
use Rattle.dr_meaning.specs.Meaning.TooFar.{two_published, receipt_of, first_receipt, second_receipt, completion_of, retirement_of, halt}

-- a ring of two slots for four events, and five handlers: the first two wait for each other, the fourth follows the third,
-- and the last one the second and the third
abbrev pub circle_of : Mode → Setup
circle_of mode = setup_of ((1 ∷ []) ∷ (0 ∷ []) ∷ [] ∷ (2 ∷ []) ∷ (1 ∷ 2 ∷ []) ∷ []) 2 mode 4

-- it has one producer, or two
abbrev pub circle : Setup
circle = circle_of Single

abbrev pub shared_circle : Setup
shared_circle = circle_of (Multi 2)

-- two events are published there, of which the third and the fourth handler completed the first
abbrev pub one_completed : Transcript ℕ
one_completed =
    two_published ++ first_receipt 2 5 ∷ completion_of 2 1 ∷ receipt_of 3 5 ∷ completion_of 3 1 ∷ []

-- and the second too
abbrev pub two_completed : Transcript ℕ
two_completed = one_completed ++ second_receipt 2 6 ∷ completion_of 2 2 ∷ second_receipt 3 6 ∷ completion_of 3 2 ∷ []

-- or the fourth retires, or the exchange halts
abbrev pub one_retired : Transcript ℕ
one_retired = one_completed ++ retirement_of 3 ∷ []

abbrev pub halted : Transcript ℕ
halted = one_completed ++ halt ∷ []

-- a transcript leads to a state of which something is false
abbrev pub IsFalseAfter : Setup → Transcript ℕ → (State ℕ → Type 0) → Type 0
IsFalseAfter c t holds = (m : State ℕ) × LeadsTo c t m × (holds m → ⊥)

-- three handlers, each of which follows the one before it
abbrev pub line : Setup
line = setup_of ([] ∷ (0 ∷ []) ∷ (1 ∷ []) ∷ []) 2 Single 4

-- no transcript leads to it: an event is published, and the second handler is retired, though the third follows it
abbrev pub left_behind : State ℕ
left_behind = record (opening line) { owners = 0 ∷ []; published = λ s. s == 0; retired = λ h. h == 1 }

-- nor to this one: the second of two producers claimed a sequence, and there is one
abbrev pub claimed_by_nobody : State ℕ
claimed_by_nobody = record (opening circle) { owners = 1 ∷ [] }
