-- What a call answers, from its fault, and what follows of that.
use Rattle.std.proofs.Common.{◌≡◌, inl, inr, refl, ap, Option, None, Some, Result, Ok, Err}
use Rattle.std.specs.Prelude.{◌⊎◌, IfErr}
use Rattle.dr_graph.specs.Calls.Answer.{Answers}

-- there is no fault
pub answers_none : {A F : Type 0} (lack : F) (known : Option F) (result : Result A F) → known ≡ None → IfErr result (λ fault. fault ≡ lack)
    → Answers lack known result
unfolding Answers
answers_none lack known result none memory = rw none memory

-- there is one, and it is answered
pub answers_some : {A F : Type 0} (lack : F) (known : Option F) (result : Result A F) (fault : F) → known ≡ Some fault → result ≡ Err fault
    → Answers lack known result
unfolding Answers
answers_some lack known result fault some is = rw some is

pub ruleset answering = (answers_none, answers_some)

-- an accepted call has no fault
pub none_of_ok : {A F : Type 0} (lack : F) (known : Option F) (made : A) → Answers lack known (Ok made) → known ≡ None
unfolding Answers
none_of_ok lack None made answer = refl
none_of_ok lack (Some fault) made answer = cc

-- a refused one has the fault that it answers, or lacks memory
pub cause_of_err : (A : Type 0) {F : Type 0} (lack : F) (known : Option F) (fault : F) → Answers {A = A} lack known (Err fault)
    → (fault ≡ lack) ⊎ (known ≡ Some fault)
unfolding Answers
cause_of_err A lack None fault answer = inl answer
cause_of_err A lack (Some other) fault answer = inr (let same : other ≡ fault = cc in ap (λ f. Some f) same)

-- a refusal that is passed on
pub answers_again : (A : Type 0) {B F : Type 0} (lack : F) (known : Option F) (fault : F) (result : Result B F) → result ≡ Err fault
    → Answers {A = A} lack known (Err fault) → Answers lack known result
unfolding Answers
answers_again A lack None fault result is answer = rw is answer
answers_again A lack (Some other) fault result is answer = let same : other ≡ fault = cc in cc
