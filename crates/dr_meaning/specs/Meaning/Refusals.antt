-- The tests of each command, by name, and the causes that they are answered with, in their order.
-- A test's verdict is a truth value for the machine, which knows its state, and may be unknown for an end.
use Rattle.std.specs.Prelude.{◌≡◌, ◌⊎◌, ℕ, ◌+◌, ◌-◌, List, [], ◌∷◌, ◌++◌, flat_map}
use Rattle.std.specs.List.{range_with_len}
use Rattle.dr_meaning.specs.declared.refusal.Refusal.{Refusal}
use Rattle.dr_meaning.specs.declared.refusal.Refusal.TheVariants.{NoRoom, Halted, BadCount, Exhausted, NotClaimed, AlreadyPublished, NotWritten, OutOfOrder, NotTaken, Behind, NoProducer, NoHandler, NotFinal, LastHandler}
use Rattle.dr_meaning.specs.declared.refusal.Refusal.TheVariants.{Retired as AlreadyRetired}

pub record ClaimTests (A : Type 0) : Type 0 where
  pub no_producer : A
  pub bad_count : A
  pub halted : A
  pub exhausted : A
  pub no_room : A

abbrev pub claim_causes : {A : Type 0} → ClaimTests A → List (A × Refusal)
claim_causes tests =
    (tests.no_producer, NoProducer)
    ∷ (tests.bad_count, BadCount)
    ∷ (tests.halted, Halted)
    ∷ (tests.exhausted, Exhausted)
    ∷ (tests.no_room, NoRoom)
    ∷ []

pub record WriteTests (A : Type 0) : Type 0 where
  pub no_producer : A
  pub unclaimed : A  -- the sequence is nobody's
  pub published : A
  pub not_owned : A  -- it is another producer's

abbrev pub write_causes : {A : Type 0} → WriteTests A → List (A × Refusal)
write_causes tests =
    (tests.no_producer, NoProducer)
    ∷ (tests.unclaimed, NotClaimed)
    ∷ (tests.published, AlreadyPublished)
    ∷ (tests.not_owned, NotClaimed)
    ∷ []

-- the tests of one sequence of a publication
pub record SequenceTests (A : Type 0) : Type 0 where
  pub published : A
  pub not_owned : A
  pub unwritten : A

abbrev pub sequence_causes : {A : Type 0} → SequenceTests A → List (A × Refusal)
sequence_causes tests =
    (tests.published, AlreadyPublished)
    ∷ (tests.not_owned, NotClaimed)
    ∷ (tests.unwritten, NotWritten)
    ∷ []

pub record PublishTests (A : Type 0) : Type 0 where
  pub no_producer : A
  pub bad_count : A
  pub unclaimed : A  -- the last of the stretch is nobody's
  pub of_sequence : ℕ → SequenceTests A
  pub out_of_order : A

-- the causes of a publication from lo to hi, in which each sequence of the stretch has its tests before the next one
abbrev pub publish_causes : {A : Type 0} → ℕ → ℕ → PublishTests A → List (A × Refusal)
publish_causes lo hi tests =
    (tests.no_producer, NoProducer)
    ∷ (tests.bad_count, BadCount)
    ∷ (tests.unclaimed, NotClaimed)
    ∷ (flat_map (λ s. sequence_causes (tests.of_sequence s)) (range_with_len lo (hi + 1 - lo)) ++ (tests.out_of_order, OutOfOrder) ∷ [])

pub record PollTests (A : Type 0) : Type 0 where
  pub no_handler : A
  pub retired : A
  pub bad_count : A

abbrev pub poll_causes : {A : Type 0} → PollTests A → List (A × Refusal)
poll_causes tests = (tests.no_handler, NoHandler) ∷ (tests.retired, AlreadyRetired) ∷ (tests.bad_count, BadCount) ∷ []

pub record CompleteTests (A : Type 0) : Type 0 where
  pub no_handler : A
  pub retired : A
  pub behind : A
  pub not_taken : A

abbrev pub complete_causes : {A : Type 0} → CompleteTests A → List (A × Refusal)
complete_causes tests =
    (tests.no_handler, NoHandler)
    ∷ (tests.retired, AlreadyRetired)
    ∷ (tests.behind, Behind)
    ∷ (tests.not_taken, NotTaken)
    ∷ []

pub record RetireTests (A : Type 0) : Type 0 where
  pub no_handler : A
  pub retired : A
  pub not_final : A  -- a handler that is not retired has it as a direct upstream
  pub last_handler : A  -- no other handler is left

abbrev pub retire_causes : {A : Type 0} → RetireTests A → List (A × Refusal)
retire_causes tests =
    (tests.no_handler, NoHandler)
    ∷ (tests.retired, AlreadyRetired)
    ∷ (tests.not_final, NotFinal)
    ∷ (tests.last_handler, LastHandler)
    ∷ []

-- no test holds, where `Fails` says of a verdict that its test fails
abbrev pub NoneHolds : {A : Type 0} → (A → Type 0) → List (A × Refusal) → Type 0
NoneHolds Fails [] = Unit {0}
NoneHolds Fails (test ∷ tests) = Fails test.0 × NoneHolds Fails tests

-- the refusal is the first test's that holds
abbrev pub IsFirst : {A : Type 0} → (A → Type 0) → (A → Type 0) → Refusal → List (A × Refusal) → Type 0
IsFirst Holds Fails refusal [] = ⊥
IsFirst Holds Fails refusal (test ∷ tests) = (Holds test.0 × (test.1 ≡ refusal)) ⊎ (Fails test.0 × IsFirst Holds Fails refusal tests)
