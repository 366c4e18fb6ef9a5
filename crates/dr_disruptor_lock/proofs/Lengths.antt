-- A merge has as many events as the lists that it merges, together.
use Rattle.std.proofs.Common.{◌≡◌, ℕ, zero, suc, ◌+◌, ◌<◌, ◌≤◌, inl, inr, true, false, List, [], ◌∷◌, length, take, get_or, refl, sym, ap, ◌∙◌, arith}
use Rattle.std.specs.Prelude.{◌==◌, if◌then◌else◌, All, filter, is_none, min, slice_get, sum_by}
use Rattle.std.specs.List.{range_with_len}
use Rattle.std.proofs.lemmas.Bool.{cases_Bool, cases_lt, eq-eqb, eqb-true}
use Rattle.std.proofs.lemmas.List.{length-take, take_all}
use Rattle.std.proofs.lemmas.List.Elements.{All-filter}
use Rattle.std.proofs.lemmas.List.FromFn.{get_or-range_with_len, length-range_with_len}
use Rattle.std.proofs.lemmas.List.Sums.{sum_by-cons, sum_by_more}
use Rattle.dr_seq.specs.declared.event.Event.{Event}
use Rattle.dr_workers.specs.declared.producer.Produced.{Produced}
use Rattle.dr_workers.specs.Meaning.Merge.{IsMerge}
use Rattle.dr_workers.proofs.Picks.{length-picked, there}
use Rattle.dr_disruptor_lock.specs.Running.{fronts}

-- Of numbers at places.

-- the sum of the numbers at the places below one
abbrev total : (ℕ → ℕ) → ℕ → ℕ
total f zero = 0
total f (suc n) = total f n + f n

total_same : (f g : ℕ → ℕ) (n : ℕ) → ((i : ℕ) → i < n → f i ≡ g i) → total f n ≡ total g n
total_same f g zero same = refl
total_same f g (suc n) same =
    let rest = total_same f g n (λ i below. same i (omega arith)) in
    let here = same n (omega arith) in
    omega arith

total_both : (f g : ℕ → ℕ) (n : ℕ) → total (λ i. f i + g i) n ≡ total f n + total g n
total_both f g zero = refl
total_both f g (suc n) = let rest = total_both f g n in omega arith

-- 1 at the place k, and 0 at any other
abbrev mark : ℕ → ℕ → ℕ
mark k i = if k == i then 1 else 0

mark_here : (k i : ℕ) → k ≡ i → mark k i ≡ 1
mark_here k i same = rw (eq-eqb k i same) refl

mark_there : (k i : ℕ) → (k ≡ i → ⊥) → mark k i ≡ 0
mark_there k i other = elim (cases_Bool (k == i)) [
  | inl y ↦ absurd (other (eqb-true k i y))
  | inr n ↦ rw n refl
]

unmarked : (k n : ℕ) → n ≤ k → total (mark k) n ≡ 0
unmarked k zero past = refl
unmarked k (suc n) past =
    let rest = unmarked k n (omega arith) in
    let here = mark_there k n (λ same. absurd (omega arith)) in
    omega arith

marked_once : (k n : ℕ) → k < n → total (mark k) n ≡ 1
marked_once k zero below = absurd (omega arith)
marked_once k (suc n) below =
    elim (cases_lt k n) [
      | inl low ↦ (let rest = marked_once k n low in let here = mark_there k n (λ same. absurd (omega arith)) in omega arith)
      | inr past ↦ (let rest = unmarked k n past in let here = mark_here k n (omega arith) in omega arith)
    ]

-- Of parts.

-- how many of some places are in a part
abbrev many_in : (ℕ → ℕ) → List ℕ → ℕ → ℕ
many_in part places i = length (filter (λ s. part s == i) places)

-- each of them is in a part below one
abbrev ArePartedBelow : (ℕ → ℕ) → ℕ → List ℕ → Type 0
ArePartedBelow part n [] = Unit {0}
ArePartedBelow part n (s ∷ places) = (part s < n) × ArePartedBelow part n places

one_more : (part : ℕ → ℕ) (s : ℕ) (places : List ℕ) (i : ℕ) → many_in part (s ∷ places) i ≡ mark (part s) i + many_in part places i
one_more part s places i = elim (cases_Bool (part s == i)) [
  | inl y ↦ rw y (omega arith)
  | inr n ↦ rw n (omega arith)
]

none_in : (part : ℕ → ℕ) (n : ℕ) → total (many_in part []) n ≡ 0
none_in part zero = refl
none_in part (suc n) = let rest = none_in part n in omega arith

all_parted : (part : ℕ → ℕ) (n : ℕ) (places : List ℕ) → ArePartedBelow part n places → total (many_in part places) n ≡ length places
all_parted part n [] below = none_in part n
all_parted part n (s ∷ places) below =
    let first = total_same (many_in part (s ∷ places)) (λ i. mark (part s) i + many_in part places i) n (λ i low. one_more part s places i) in
    let both = total_both (mark (part s)) (many_in part places) n in
    let one = marked_once (part s) n below.0 in
    let rest = all_parted part n places below.1 in
    omega arith

parted_below : (part : ℕ → ℕ) (n a k : ℕ) → ((s : ℕ) → a ≤ s → s < a + k → part s < n) → ArePartedBelow part n (range_with_len a k)
parted_below part n a zero within = tt
parted_below part n a (suc k) within =
    (within a (omega arith) (omega arith), parted_below part n (a + 1) k (λ s low high. within s (omega arith) (omega arith)))

-- Of lists.

sum_so_far : {X : Type 0} (f : X → ℕ) (d : X) (xs : List X) (n : ℕ) → n ≤ length xs → sum_by f (take n xs) ≡ total (λ i. f (get_or xs i d)) n
sum_so_far f d xs zero within = refl
sum_so_far f d xs (suc n) within =
    let rest = sum_so_far f d xs n (omega arith) in
    let more = sum_by_more f xs n d (omega arith) in
    let same : n + 1 ≡ suc n = omega arith in
    let here = ap (λ (k : ℕ). sum_by f (take k xs)) same in
    omega arith

pub merged_length : {E : Type 0} (lists : List (List E)) (m : List E) → IsMerge lists m → length m ≡ sum_by (λ (l : List E). length l) lists
merged_length {E} lists m is =
    let n : ℕ = length lists in
    let places = range_with_len 0 (length m) in
    let has_event : All (λ (s : ℕ). is_none (slice_get m s) ≡ false) places =
    λ i d below.
    let long = length-range_with_len 0 (length m) in
    let at = get_or-range_with_len 0 (length m) i d (omega arith) in
    let same : get_or places i d ≡ i = omega arith in
    ap (λ (s : ℕ). is_none (slice_get m s)) same ∙ ap is_none (there m i (omega arith)).1
    in
    let each : (i : ℕ) → i < n → length (get_or lists i []) ≡ many_in is.part places i =
    λ i below.
    let test = λ (s : ℕ). is.part s == i in
    ap (λ (l : List E). length l) (is.each i below)
    ∙ length-picked (slice_get m) (filter test places) (λ j low. All-filter test (λ (s : ℕ). is_none (slice_get m s) ≡ false) places has_event j 0 low)
    in
    let parts = total_same (λ i. length (get_or lists i [])) (many_in is.part places) n each in
    let all = all_parted is.part n places (parted_below is.part n 0 (length m) (λ s low high. is.within s (omega arith))) in
    let sums = sum_so_far (λ (l : List E). length l) [] lists n (omega arith) in
    let whole = ap (λ (ls : List (List E)). sum_by (λ (l : List E). length l) ls) (take_all n lists (omega arith)) in
    let long = length-range_with_len 0 (length m) in
    omega arith

-- what is sent of some scripts has no more events than they have
pub fronts_length : (scripts : List (List Event)) (produced : List Produced)
    → sum_by (λ (l : List Event). length l) (fronts scripts produced) ≤ sum_by (λ (l : List Event). length l) scripts
fronts_length [] produced = omega arith
fronts_length (script ∷ scripts) [] = omega arith
fronts_length (script ∷ scripts) (back ∷ produced) =
    let len = λ (l : List Event). length l in
    let rest = fronts_length scripts produced in
    let front = length-take back.sent script in
    let fewer = sum_by-cons len (take back.sent script) (fronts scripts produced) in
    let all = sum_by-cons len script scripts in
    omega arith
