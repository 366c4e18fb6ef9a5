-- What an end shows, along several calls.
use Rattle.std.proofs.Common.{◌≡◌, Option, None, Some, refl, ap}
use Rattle.dr_meaning.specs.Calls.Ends.{WhereShown}

-- calls that change nothing of it
pub shown_same : {A : Type 0} (o p : Option A) → WhereShown (λ (a b : A). b ≡ a) o p → p ≡ o
shown_same None None h = refl
shown_same None (Some b) h = absurd h
shown_same (Some a) None h = absurd h
shown_same (Some a) (Some b) h = ap (λ x. Some x) h

-- a weaker relation
pub shown_as : {A : Type 0} (R T : A → A → Type 0) → ((a b : A) → R a b → T a b) → (o p : Option A) → WhereShown R o p → WhereShown T o p
shown_as R T f None None h = tt
shown_as R T f None (Some b) h = absurd h
shown_as R T f (Some a) None h = absurd h
shown_as R T f (Some a) (Some b) h = f a b h

-- one call after another
pub shown_through : {A : Type 0} (R S T : A → A → Type 0) → ((a b c : A) → R a b → S b c → T a c) → (o p q : Option A) → WhereShown R o p
    → WhereShown S p q → WhereShown T o q
shown_through R S T f None None None h k = tt
shown_through R S T f None None (Some c) h k = absurd k
shown_through R S T f None (Some b) q h k = absurd h
shown_through R S T f (Some a) None q h k = absurd h
shown_through R S T f (Some a) (Some b) None h k = absurd k
shown_through R S T f (Some a) (Some b) (Some c) h k = f a b c h k

-- no call
pub shown_none : {A : Type 0} (R : A → A → Type 0) → ((a : A) → R a a) → (o : Option A) → WhereShown R o o
shown_none R f None = tt
shown_none R f (Some a) = f a
