-- A handler's meaning along the events of a batch.
use Rattle.std.proofs.Common.{◌≡◌, ℕ, zero, suc, inl, inr, ◌+◌, ◌<◌, Bool, true, false, ◌&&◌, List, []}
use Rattle.std.proofs.Common.{◌∷◌, ◌++◌, arith, refl, ap, sym, ◌∙◌, length, get_or, take, add-zero, subst}
use Rattle.std.specs.Prelude.{◌==◌}
use Rattle.std.proofs.lemmas.Bool.{and_right, ne_eqb, eq-eqb, cases_eq}
use Rattle.std.proofs.lemmas.List.{take_more, append-nil}
use Rattle.dr_meaning.specs.Calls.Handling.{Showing, showings, Relation, GoesThrough}

-- one more call
pub GoesThrough-push : {E A : Type 0} (goes : Relation E A) (before : A) (shown : List (Showing E)) (between : A) (s : Showing E) (after : A)
    → GoesThrough goes before shown between → goes between s.event s.sequence s.end after → GoesThrough goes before (shown ++ s ∷ []) after
GoesThrough-push goes before [] between s after is one = (after, rw is one, refl)
GoesThrough-push goes before (t ∷ ts) between s after is one = (is.0, is.1, GoesThrough-push goes is.0 ts between s after is.2 one)

-- of what a handler keeps, where each call takes that on by a relation of its own
pub GoesThrough-within : {E A B : Type 0} (goes : Relation E A) (inside : Relation E B) (kept : A → B)
    → ((a b : A) (event : E) (s : ℕ) (end : Bool) → goes a event s end b → inside (kept a) event s end (kept b))
    → (before : A) (shown : List (Showing E)) (after : A) → GoesThrough goes before shown after → GoesThrough inside (kept before) shown (kept after)
GoesThrough-within goes inside kept each before [] after is = ap kept is
GoesThrough-within goes inside kept each before (s ∷ shown) after is =
    (kept is.0, each before is.0 s.event s.sequence s.end is.1, GoesThrough-within goes inside kept each is.0 shown after is.2)

-- what no call changes
pub GoesThrough-keeps : {E A K : Type 0} (goes : Relation E A) (kept : A → K)
    → ((a b : A) (event : E) (s : ℕ) (end : Bool) → goes a event s end b → kept b ≡ kept a)
    → (before : A) (shown : List (Showing E)) (after : A) → GoesThrough goes before shown after → kept after ≡ kept before
GoesThrough-keeps goes kept each before [] after is = ap kept (sym is)
GoesThrough-keeps goes kept each before (s ∷ shown) after is =
    GoesThrough-keeps goes kept each is.0 shown after is.2 ∙ each before is.0 s.event s.sequence s.end is.1

-- to the same end
pub GoesThrough-to : {E A : Type 0} (goes : Relation E A) (before : A) (shown : List (Showing E)) (now after : A) → GoesThrough goes before shown now → after ≡ now
    → GoesThrough goes before shown after
GoesThrough-to goes before shown now after is same = subst (λ a. GoesThrough goes before shown a) (sym same) is

and-true : (b : Bool) → (b && true) ≡ b
and-true true = refl
and-true false = refl

-- two tests that hold together are one
same_test : (a b x y : ℕ) → (a ≡ b → x ≡ y) → (x ≡ y → a ≡ b) → (a == b) ≡ (x == y)
same_test a b x y to back = elim (cases_eq a b) [
  | inl e ↦ eq-eqb a b e ∙ sym (eq-eqb x y (to e))
  | inr ne ↦ ne_eqb a b ne ∙ sym (ne_eqb x y (λ e. ne (back e)))
]

pub length-showings : {E : Type 0} (events : List E) (first : ℕ) (end : Bool) → length (showings events first end) ≡ length events
length-showings [] first end = refl
length-showings (e ∷ []) first end = refl
length-showings (e ∷ e' ∷ es) first end = ap suc (length-showings (e' ∷ es) (first + 1) end)

-- the call for each event: only the last may be marked
pub showing-at : {E : Type 0} (events : List E) (first k : ℕ) (end : Bool) (d : E) (z : Showing E) → k < length events
    → get_or (showings events first end) k z ≡ record { event = get_or events k d; sequence = first + k; end = end && (k + 1 == length events) }
showing-at [] first k end d z l = absurd (omega arith)
showing-at (e ∷ []) first zero end d z l = rw (add-zero, and-true)
showing-at (e ∷ []) first (suc k) end d z l = absurd (omega arith)
showing-at (e ∷ e' ∷ es) first zero end d z l = rw (add-zero) (ap (λ b. record { event = e; sequence = first; end = b }) (sym (and_right end _ (ne_eqb _ _ (λ same. absurd (omega arith))))))
showing-at (e ∷ e' ∷ es) first (suc k) end d z l =
    let rest : get_or (showings (e' ∷ es) (first + 1) end) k z ≡ record { event = get_or (e' ∷ es) k d; sequence = (first + 1) + k; end = end && (k + 1 == length (e' ∷ es)) } = showing-at (e' ∷ es) (first + 1) k end d z (omega arith) in
    let at : (first + 1) + k ≡ first + suc k = omega arith in
    let last : (k + 1 == length (e' ∷ es)) ≡ (suc k + 1 == length (e ∷ e' ∷ es)) = same_test (k + 1) (length (e' ∷ es)) (suc k + 1) (length (e ∷ e' ∷ es)) (λ is. (let next : suc k + 1 ≡ suc (suc (length es)) = omega arith in next)) (λ is. (let before : k + 1 ≡ suc (length es) = omega arith in before)) in
    rw (← at, ← last) rest

-- a batch is shown one event further
pub shows_more : {E A : Type 0} (goes : Relation E A) (before between after : A) (events : List E) (first k : ℕ) (end mark : Bool) (event : E)
    → k < length events → event ≡ get_or events k event → mark ≡ (end && (k + 1 == length events))
    → GoesThrough goes before (take k (showings events first end)) between → goes between event (first + k) mark after → GoesThrough goes before (take (k + 1) (showings events first end)) after
shows_more {E} goes before between after events first k end mark event l same is so_far one =
    let here : Showing E = record { event = event; sequence = first + k; end = end && (k + 1 == length events) } in
    let at : get_or (showings events first end) k here ≡ here = showing-at events first k end event here l ∙ ap (λ x. record { event = x; sequence = first + k; end = end && (k + 1 == length events) }) (sym same) in
    let more : take (k + 1) (showings events first end) ≡ take k (showings events first end) ++ get_or (showings events first end) k here ∷ [] = take_more (showings events first end) k here (rw length-showings l) in
    rw (more, at) (GoesThrough-push goes before (take k (showings events first end)) between here after so_far (rw is at one))

-- the calls for two lists of events, one after another
showings-append : {E : Type 0} (xs ys : List E) (y : E) (first : ℕ) (end : Bool)
    → showings (xs ++ y ∷ ys) first end ≡ showings xs first false ++ showings (y ∷ ys) (first + length xs) end
showings-append [] ys y first end = ap (λ n. showings (y ∷ ys) n end) (sym (add-zero first))
showings-append {E} (x ∷ []) ys y first end = refl
showings-append (x ∷ x' ∷ xs) ys y first end =
    let at : (first + 1) + length (x' ∷ xs) ≡ first + length (x ∷ x' ∷ xs) = omega arith in
    ap (λ rest. record { event = x; sequence = first; end = false } ∷ rest)
    (showings-append (x' ∷ xs) ys y (first + 1) end ∙ ap (λ n. showings (x' ∷ xs) (first + 1) false ++ showings (y ∷ ys) n end) at)

GoesThrough-append : {E A : Type 0} (goes : Relation E A) (before : A) (shown since : List (Showing E)) (between after : A)
    → GoesThrough goes before shown between → GoesThrough goes between since after → GoesThrough goes before (shown ++ since) after
GoesThrough-append {E} goes before [] since between after is then = subst (λ a. GoesThrough goes a since after) (sym is) then
GoesThrough-append goes before (s ∷ shown) since between after is then = (is.0, is.1, GoesThrough-append goes is.0 shown since between after is.2 then)

-- two pieces are shown, of which the first ends the batch where the second is empty
pub shows_pieces : {E A : Type 0} (goes : Relation E A) (before between after : A) (xs ys : List E) (first : ℕ) (mark : Bool) → mark ≡ (length ys == 0)
    → GoesThrough goes before (showings xs first mark) between → GoesThrough goes between (showings ys (first + length xs) true) after
    → GoesThrough goes before (showings (xs ++ ys) first true) after
shows_pieces goes before between after xs [] first mark is one two =
    subst (λ a. GoesThrough goes before (showings (xs ++ []) first true) a) two (rw (append-nil xs) (rw is at one))
shows_pieces goes before between after xs (y ∷ ys) first mark is one two =
    let marked : mark ≡ false = is ∙ ne_eqb (length (y ∷ ys)) 0 (λ e. absurd (omega arith)) in
    rw (showings-append xs ys y first true)
    (GoesThrough-append goes before (showings xs first false) (showings (y ∷ ys) (first + length xs) true) between after (rw marked at one) two)
