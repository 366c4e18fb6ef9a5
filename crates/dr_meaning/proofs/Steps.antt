-- What one step of the machine does.
use Rattle.std.proofs.Common.{◌≡◌, ℕ, ◌+◌, ◌<◌, inl, inr, Bool, true, false, List, [], ◌∷◌, ◌++◌, refl, ap, ◌∙◌}
use Rattle.std.specs.Prelude.{flat_map}
use Rattle.std.specs.List.{range_with_len}
use Rattle.std.proofs.lemmas.Bool.{cond_both, cond-true, cond-false}
use Rattle.dr_meaning.specs.declared.refusal.Refusal.{Refusal}
use Rattle.dr_meaning.specs.declared.command.Reply.TheVariants.{Refused}
use Rattle.dr_meaning.specs.Meaning.Refusals.{NoneHolds, IsFirst}
use Rattle.dr_meaning.specs.Meaning.Machine.{State, Outcome, unless, unchanged}
use Rattle.dr_meaning.proofs.Causes.{none_join, none_of_stretch}

-- the machine knows of each test whether it holds
abbrev pub IsHolding : Bool → Type 0
IsHolding b = b ≡ true

abbrev pub IsFailing : Bool → Type 0
IsFailing b = b ≡ false

-- no test holds
abbrev pub NoneHold : List (Bool × Refusal) → Type 0
NoneHold tests = NoneHolds IsFailing tests

-- the first test that holds has this refusal
abbrev pub Refuses : Refusal → List (Bool × Refusal) → Type 0
Refuses r tests = IsFirst IsHolding IsFailing r tests

pub NoneHold-append : (xs ys : List (Bool × Refusal)) → NoneHold (xs ++ ys) → NoneHold xs × NoneHold ys
NoneHold-append [] ys h = (tt, h)
NoneHold-append (x ∷ xs) ys h = let r : NoneHold xs × NoneHold ys = NoneHold-append xs ys h.1 in ((h.0, r.0), r.1)

pub NoneHold-join : (xs ys : List (Bool × Refusal)) → NoneHold xs → NoneHold ys → NoneHold (xs ++ ys)
NoneHold-join xs ys = none_join IsHolding IsFailing xs ys

-- no sequence of a stretch is at fault
pub NoneHold-stretch : (causes : ℕ → List (Bool × Refusal)) (lo n : ℕ) → ((k : ℕ) → k < n → NoneHold (causes (lo + k)))
    → NoneHold (flat_map causes (range_with_len lo n))
NoneHold-stretch causes lo n = none_of_stretch IsHolding IsFailing causes lo n

-- where no test holds, the outcome is the accepted one
pub unless-none : {E : Type 0} (tests : List (Bool × Refusal)) (m : State E) (o : Outcome E) → NoneHold tests → unless tests m o ≡ o
unless-none [] m o h = refl
unless-none (test ∷ tests) m o h = cond-false test.0 _ _ h.0 ∙ unless-none tests m o h.1

-- and where one does, the first refuses
pub unless-refused : {E : Type 0} (r : Refusal) (tests : List (Bool × Refusal)) (m : State E) (o : Outcome E) → Refuses r tests → unless tests m o ≡ unchanged (Refused r) m
unless-refused r [] m o h = absurd h
unless-refused r (test ∷ tests) m o (inl h) = cond-true test.0 _ _ h.0 ∙ ap (λ x. unchanged (Refused x) m) h.1
unless-refused r (test ∷ tests) m o (inr h) = cond-false test.0 _ _ h.0 ∙ unless-refused r tests m o h.1

-- either a test refuses, or none holds
pub unless-cases : {E : Type 0} (P : Outcome E → Type 0) (tests : List (Bool × Refusal)) (m : State E) (o : Outcome E) → ((r : Refusal) → P (unchanged (Refused r) m))
    → (NoneHold tests → P o) → P (unless tests m o)
unless-cases P [] m o refuses accepts = accepts tt
unless-cases P (test ∷ tests) m o refuses accepts =
    cond_both test.0 (unchanged (Refused test.1) m) (unless tests m o) P (λ h. refuses test.1) (λ h. unless-cases P tests m o refuses (λ n. accepts (h, n)))
