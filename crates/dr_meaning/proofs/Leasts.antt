-- Laws of the least number outside a set, and of the least of some numbers.
use Rattle.std.proofs.Common.{◌≡◌, ℕ, zero, suc, ◌+◌, ◌<◌, ◌≤◌, inl, inr, min, Bool, true, false, ◌&&◌}
use Rattle.std.proofs.Common.{List, [], ◌∷◌, ◌++◌, arith, refl, ap, sym, ◌∙◌, map, take, filter, not}
use Rattle.std.proofs.lemmas.Bool.Decides.{nat_tests}
use Rattle.std.proofs.lemmas.List.{map_more, map_push, length_push, length-map, length-take-le, get_or-map}
use Rattle.std.proofs.lemmas.Bool.{cond_both, and_parts, and_cases, eqb-true, eqb-false, false≢true, cases_order, cases_lt, ne_eqb}
use Rattle.std.specs.Prelude.{◌==◌, if◌then◌else◌, get_or, length, Contains}
use Rattle.std.specs.List.{range_with_len}
use Rattle.dr_graph.specs.Meaning.Graph.{least_of}
use Rattle.dr_graph.proofs.Gating.{filter_push, filter_skip}
use Rattle.dr_meaning.specs.Meaning.Machine.{least_outside}

-- what the answer is: all below it are in the set, and it is not, unless it is the bound
pub record IsLeast (set : ℕ → Bool) (bound n : ℕ) : Type 0 where
  pub within : n ≤ bound
  pub below : (k : ℕ) → k < n → set k ≡ true
  pub here : n < bound → set n ≡ false

pub least_is : (set : ℕ → Bool) (bound : ℕ) → IsLeast set bound (least_outside set bound)
unfolding least_outside
least_is set zero = record { within = omega arith; below = λ k h. absurd (omega arith); here = λ h. absurd (omega arith) }
least_is set (suc b) =
    let old : IsLeast set b (least_outside set b) = least_is set b in
    cond_both ((least_outside set b == b) && set b) (suc b) (least_outside set b) (IsLeast set (suc b))
    (λ both.
    let parts : ((least_outside set b == b) ≡ true) × (set b ≡ true) = and_parts _ _ both in
    let same : least_outside set b ≡ b = eqb-true _ _ parts.0 in
    record {
      within = omega arith;
      below = λ k h. elim (cases_lt k b) [ inl l ↦ old.below k (omega arith) | inr g ↦ (let e : k ≡ b = omega arith in rw e parts.1) ];
      here = λ h. absurd (omega arith);
    })
    (λ not_both. record {
      within = (let w : least_outside set b ≤ b = old.within in omega arith);
      below = old.below;
      here = λ h. elim (cases_lt (least_outside set b) b) [
        | inl l ↦ old.here l
        | inr g ↦ elim (and_cases (least_outside set b == b) (set b) not_both) [
          | inl ne ↦ absurd (eqb-false (least_outside set b) b ne (let w : least_outside set b ≤ b = old.within in omega arith))
          | inr out ↦ (let e : least_outside set b ≡ b = (let w : least_outside set b ≤ b = old.within in omega arith) in rw e out)
        ]
      ];
    })

-- there is one answer
pub least_one : (set : ℕ → Bool) (bound m n : ℕ) → IsLeast set bound m → IsLeast set bound n → m ≡ n
least_one set bound m n p q =
    elim (cases_order m n) [
      | inl e ↦ e
      | inr o ↦ elim o [
        | inl l ↦ absurd (false≢true (sym (p.here (let w : n ≤ bound = q.within in omega arith)) ∙ q.below m l))
        | inr g ↦ absurd (false≢true (sym (q.here (let w : m ≤ bound = p.within in omega arith)) ∙ p.below n g))
      ]
    ]

-- two sets that agree have one answer
pub least_agree : (set other : ℕ → Bool) (bound : ℕ) → ((k : ℕ) → set k ≡ other k) → least_outside set bound ≡ least_outside other bound
least_agree set other bound same =
    let p : IsLeast set bound (least_outside set bound) = least_is set bound in
    least_one other bound _ _
    (record { within = p.within; below = λ k h. sym (same k) ∙ p.below k h; here = λ h. sym (same _) ∙ p.here h })
    (least_is other bound)

-- a larger set with a larger bound has no smaller answer
pub least_grows : (set other : ℕ → Bool) (bound more : ℕ) → bound ≤ more → ((k : ℕ) → set k ≡ true → other k ≡ true)
    → least_outside set bound ≤ least_outside other more
least_grows set other bound more le sub =
    let p : IsLeast set bound (least_outside set bound) = least_is set bound in
    let q : IsLeast other more (least_outside other more) = least_is other more in
    elim (cases_lt (least_outside other more) (least_outside set bound)) [
      | inl l ↦ absurd (false≢true (sym (q.here (let w : least_outside set bound ≤ bound = p.within in omega arith)) ∙ sub _ (p.below _ l)))
      | inr g ↦ g
    ]

pub least_of-le : (ns : List ℕ) (k : ℕ) → k < length ns → least_of ns ≤ get_or ns k 0
least_of-le [] k h = absurd (omega arith)
least_of-le (n ∷ []) zero h = omega arith
least_of-le (n ∷ []) (suc k) h = absurd (omega arith)
least_of-le (n ∷ m ∷ ms) zero h = omega arith
least_of-le (n ∷ m ∷ ms) (suc k) h = (let e : least_of (m ∷ ms) ≤ get_or (m ∷ ms) k 0 = least_of-le (m ∷ ms) k (omega arith) in omega arith)

least_of-push_cons : (x : ℕ) (xs : List ℕ) (n : ℕ) → least_of ((x ∷ xs) ++ n ∷ []) ≡ min (least_of (x ∷ xs)) n
least_of-push_cons x [] n = refl
least_of-push_cons x (y ∷ ys) n = ap (λ k. min x k) (least_of-push_cons y ys n) ∙ omega arith

-- one more number is the least where it is below the least of the others, or the first
pub least_of-push : (xs : List ℕ) (n : ℕ) → least_of (xs ++ n ∷ []) ≡ (if length xs == 0 then n else min (least_of xs) n)
least_of-push [] n = refl
least_of-push (x ∷ xs) n = cond_both (length (x ∷ xs) == 0) n (min (least_of (x ∷ xs)) n) (λ r. least_of ((x ∷ xs) ++ n ∷ []) ≡ r) (λ y. absurd (grind (arith, nat_tests, y))) (λ f. least_of-push_cons x xs n)

-- the least of the first counts of a list, with one more
pub least_of-more : (f : ℕ → ℕ) (xs : List ℕ) (i : ℕ) → i < length xs
    → least_of (map f (take (i + 1) xs)) ≡ (if i == 0 then f (get_or xs i 0) else min (least_of (map f (take i xs))) (f (get_or xs i 0)))
least_of-more f xs i l =
    ap least_of (map_more f xs i 0 l) ∙ least_of-push (map f (take i xs)) (f (get_or xs i 0))
    ∙ ap (λ n. if n == 0 then f (get_or xs i 0) else min (least_of (map f (take i xs))) (f (get_or xs i 0))) (length-map (take i xs) f ∙ length-take-le i xs (omega arith))

-- the least of some handlers' counts is no more than any of theirs
pub least_of-member : (counts : ℕ → ℕ) (hs : List ℕ) (h : ℕ) → Contains hs h → least_of (map counts hs) ≤ counts h
least_of-member counts hs h has =
    let a : least_of (map counts hs) ≤ get_or (map counts hs) has.0 0 = least_of-le (map counts hs) has.0 (rw length-map (has.1)) in
    let b : get_or (map counts hs) has.0 0 ≡ counts (get_or hs has.0 h) = get_or-map counts hs has.0 h 0 has.1 in
    let d : get_or hs has.0 h ≡ h = has.2 in
    rw d at (rw b at a)

-- and is one of theirs
pub least_of-one : (counts : ℕ → ℕ) (x : ℕ) (xs : List ℕ) → (h : ℕ) × Contains (x ∷ xs) h × (least_of (map counts (x ∷ xs)) ≡ counts h)
least_of-one counts x [] = (x, (0, omega arith, refl), refl)
least_of-one counts x (y ∷ ys) =
    let rest : (h : ℕ) × Contains (y ∷ ys) h × (least_of (map counts (y ∷ ys)) ≡ counts h) = least_of-one counts y ys in
    let has : Contains (y ∷ ys) rest.0 = rest.1 in
    let least : least_of (map counts (y ∷ ys)) ≡ counts rest.0 = rest.2 in
    elim (cases_lt (counts x) (least_of (map counts (y ∷ ys)))) [
      | inl l ↦ (x, (0, omega arith, refl), omega arith)
      | inr g ↦ (rest.0, (suc has.0, (let l : has.0 < length (y ∷ ys) = has.1 in omega arith), has.2), omega arith)
    ]

-- the least count of those handlers below a bound that pass a test, and whether there is one
pub record IsLeastOf (p : ℕ → Bool) (counts : ℕ → ℕ) (bound : ℕ) (found : Bool) (least : ℕ) : Type 0 where
  pub some : found ≡ not (length (filter p (range_with_len 0 bound)) == 0)
  pub lowest : least ≡ least_of (map counts (filter p (range_with_len 0 bound)))

not_first : (none : Bool) (a b : ℕ) → (if not none then b else a) ≡ (if none then a else b)
not_first true a b = refl
not_first false a b = refl

-- one handler more
pub least_turn : (p : ℕ → Bool) (counts : ℕ → ℕ) (bound : ℕ) (found : Bool) (least new : ℕ) → IsLeastOf p counts bound found least → p bound ≡ true
    → new ≡ (if found then min least (counts bound) else counts bound) → IsLeastOf p counts (bound + 1) true new
least_turn p counts bound found least new old passed is =
    let fs : List ℕ = filter p (range_with_len 0 bound) in
    let more : fs ++ bound ∷ [] ≡ filter p (range_with_len 0 (bound + 1)) = filter_push p bound fs (fs ++ bound ∷ []) refl passed refl in
    let some : true ≡ not (length (fs ++ bound ∷ []) == 0) = sym (ap not (ne_eqb (length (fs ++ bound ∷ [])) 0 (let l : length (fs ++ bound ∷ []) ≡ length fs + 1 = length_push fs bound in omega arith))) in
    let lower : least_of (map counts (fs ++ bound ∷ [])) ≡ (if length (map counts fs) == 0 then counts bound else min (least_of (map counts fs)) (counts bound)) = ap least_of (map_push counts fs bound) ∙ least_of-push (map counts fs) (counts bound) in
    let here : new ≡ least_of (map counts (fs ++ bound ∷ [])) = rw (lower, length-map fs counts, is, old.some, old.lowest) (not_first (length fs == 0) (counts bound) (min (least_of (map counts fs)) (counts bound))) in
    record { some = rw more at some; lowest = rw more at here }

pub least_skip : (p : ℕ → Bool) (counts : ℕ → ℕ) (bound : ℕ) (found : Bool) (least : ℕ) → IsLeastOf p counts bound found least → p bound ≡ false
    → IsLeastOf p counts (bound + 1) found least
least_skip p counts bound found least old failed =
    let fs : List ℕ = filter p (range_with_len 0 bound) in
    let same : fs ≡ filter p (range_with_len 0 (bound + 1)) = filter_skip p bound fs fs refl failed refl in
    record { some = rw same at old.some; lowest = rw same at old.lowest }
