-- Many events, written one after another.
use Rattle.std.proofs.Common.{◌≡◌, ◌<◌, ◌+◌, ℕ, List, [], ◌∷◌, ◌++◌, length, take, get_or, Option}
use Rattle.std.proofs.Common.{None, Some, Result, Ok, inl, inr, subst, refl, sym, ap, ◌∙◌, arith}
use Rattle.std.proofs.lemmas.Bool.{cases_lt}
use Rattle.std.proofs.lemmas.List.{length-set, length-take-le, take_more}
use Rattle.dr_meaning.specs.declared.ends.Trouble.{Trouble}
use Rattle.dr_meaning.specs.Meaning.Refusals.{write_causes}
use Rattle.dr_meaning.specs.Calls.Ends.{IsAnswerOf, Sent, WhereShown, WriteAnswers, Writes, WritesAll, with_event, with_events, write_tests}

-- what holds below a number and there holds up to it
pub below_more : (P : ℕ → Type 0) (k : ℕ) → ((j : ℕ) → j < k → P j) → P k → (j : ℕ) → j < k + 1 → P j
below_more P k before here j less =
    elim (cases_lt j k) [ inl l ↦ before j l | inr g ↦ (let e : k ≡ j = omega arith in subst P e here) ]

pub with_events-append : {E : Type 0} (lo : ℕ) (xs ys : List E) (e : Sent E)
    → with_events lo (xs ++ ys) e ≡ with_events (lo + length xs) ys (with_events lo xs e)
with_events-append lo [] ys e = (let at : lo ≡ lo + 0 = omega arith in ap (λ n. with_events n ys e) at)
with_events-append lo (x ∷ xs) ys e =
    let at : lo + 1 + length xs ≡ lo + length (x ∷ xs) = omega arith in
    with_events-append (lo + 1) xs ys (with_event e lo x) ∙ ap (λ n. with_events n ys (with_events (lo + 1) xs (with_event e lo x))) at

same_published : {E : Type 0} (lo : ℕ) (xs : List E) (e : Sent E) → (with_events lo xs e).published ≡ e.published
same_published lo [] e = refl
same_published lo (x ∷ xs) e = same_published (lo + 1) xs (with_event e lo x)

same_pending : {E : Type 0} (lo : ℕ) (xs : List E) (e : Sent E) → length (with_events lo xs e).pending ≡ length e.pending
same_pending lo [] e = refl
same_pending lo (x ∷ xs) e = same_pending (lo + 1) xs (with_event e lo x) ∙ length-set e.pending _ (Some x)

-- one event more

wrote_more : {E : Type 0} (lo k s : ℕ) (events : List E) (d event : E) → k < length events → s ≡ lo + k → get_or events k d ≡ event
    → (a b c : Sent E) → WritesAll lo (take k events) a b → Writes s event (Ok tt) b c → WritesAll lo (take (k + 1) events) a c
wrote_more {E} lo k s events d event less at is a b c h put =
    let many : length (take k events) ≡ k = length-take-le k events (omega arith) in
    let place : lo + length (take k events) ≡ s = omega arith in
    let before : Sent E = with_events lo (take k events) a in
    let one : with_events lo (take k events ++ get_or events k d ∷ []) a
    ≡ with_event before (lo + length (take k events)) (get_or events k d) = with_events-append lo (take k events) (get_or events k d ∷ []) a in
    let front : with_events lo (take (k + 1) events) a ≡ with_event before s event = ap (λ l. with_events lo l a) (take_more events k d less)
    ∙ one
    ∙ ap (λ n. with_event before n (get_or events k d)) place ∙ ap (λ x. with_event before s x) is in
    put ∙ ap (λ x. with_event x s event) h ∙ sym front

pub written_more : {E : Type 0} (lo k s : ℕ) (events : List E) (d event : E) → k < length events → s ≡ lo + k → get_or events k d ≡ event
    → (o p q : Option (Sent E)) → WhereShown (WritesAll lo (take k events)) o p → WhereShown (Writes s event (Ok tt)) p q
    → WhereShown (WritesAll lo (take (k + 1) events)) o q
written_more lo k s events d event less at is None None None h put = tt
written_more lo k s events d event less at is None None (Some c) h put = absurd put
written_more lo k s events d event less at is None (Some b) q h put = absurd h
written_more lo k s events d event less at is (Some a) None q h put = absurd h
written_more lo k s events d event less at is (Some a) (Some b) None h put = absurd put
written_more lo k s events d event less at is (Some a) (Some b) (Some c) h put = wrote_more lo k s events d event less at is a b c h put

-- in trouble no event more
pub written_same : {E : Type 0} (lo : ℕ) (events : List E) → (o p q : Option (Sent E))
    → WhereShown (WritesAll lo events) o p → WhereShown (λ (a b : Sent E). b ≡ a) p q
    → WhereShown (WritesAll lo events) o q
written_same lo events None None None h same = tt
written_same lo events None None (Some c) h same = absurd same
written_same lo events None (Some b) q h same = absurd h
written_same lo events (Some a) None q h same = absurd h
written_same lo events (Some a) (Some b) None h same = absurd same
written_same lo events (Some a) (Some b) (Some c) h same = same ∙ h

pub written_none : {E : Type 0} (lo : ℕ) (o : Option (Sent E)) → WhereShown (WritesAll lo []) o o
written_none lo None = tt
written_none lo (Some a) = refl

-- writes change no test of a write

answered_before : {E : Type 0} (lo s : ℕ) (events : List E) (r : Result (Unit {0}) Trouble) → (a b : Sent E)
    → WritesAll lo events a b → WriteAnswers (Some b) s r → WriteAnswers (Some a) s r
answered_before lo s events r a b h answer =
    let published : length b.published ≡ length a.published = ap (λ x. length x.published) h ∙ ap length (same_published lo events a) in
    let pending : length b.pending ≡ length a.pending = ap (λ x. length x.pending) h ∙ same_pending lo events a in
    let tests : write_tests (Some b) s ≡ write_tests (Some a) s = rw (published, pending) refl in
    subst (λ t. IsAnswerOf (write_causes t) r) tests answer

pub answer_before : {E : Type 0} (lo s : ℕ) (events : List E) (r : Result (Unit {0}) Trouble) → (o p : Option (Sent E))
    → WhereShown (WritesAll lo events) o p → WriteAnswers p s r → WriteAnswers o s r
answer_before lo s events r None None h answer = answer
answer_before lo s events r None (Some b) h answer = absurd h
answer_before lo s events r (Some a) None h answer = absurd h
answer_before lo s events r (Some a) (Some b) h answer = answered_before lo s events r a b h answer
