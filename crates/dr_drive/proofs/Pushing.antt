-- Texts put one after another.
use Rattle.std.proofs.Common.{◌≡◌, ℕ, ◌+◌, Result, Ok, Err, OnOk, is_ok, List, [], ◌∷◌, ◌++◌, sym, ap, ◌∙◌, append-nil, append_assoc, flat_map, add-one}
use Rattle.std.proofs.lemmas.Grind.{flat_map-append}
use Rattle.std.specs.Prelude.{if◌then◌else◌}
use Rattle.std.specs.List.{range_with_len}
use Rattle.dr_graph.proofs.Following.{range_more}

one_more : (f : ℕ → List ℕ) (from n : ℕ) → flat_map f (range_with_len from (n + 1)) ≡ flat_map f (range_with_len from n) ++ f (from + n)
one_more f from n =
    ap (λ k. flat_map f (range_with_len from k)) (add-one n)
    ∙ ap (λ ks. flat_map f ks) (range_more from n)
    ∙ flat_map-append f (range_with_len from n) ((from + n) ∷ [])
    ∙ ap (λ (t : List ℕ). flat_map f (range_with_len from n) ++ t) (append-nil (f (from + n)))

-- one text more
pub pushed : (f : ℕ → List ℕ) (from n k : ℕ) (base old new : List ℕ) → k ≡ from + n → old ≡ base ++ flat_map f (range_with_len from n) → new ≡ old ++ f k
    → new ≡ base ++ flat_map f (range_with_len from (n + 1))
pushed f from n k base old new at so_far is =
    is ∙ ap (λ j. old ++ f j) at ∙ ap (λ t. t ++ f (from + n)) so_far ∙ append_assoc base (flat_map f (range_with_len from n)) (f (from + n)) ∙ ap (λ t. base ++ t) (sym (one_more f from n))

-- all texts
pub all_pushed : (f : ℕ → List ℕ) (from n m : ℕ) (base now : List ℕ) → now ≡ base ++ flat_map f (range_with_len from n) → n ≡ m
    → now ≡ base ++ flat_map f (range_with_len from m)
all_pushed f from n m base now so_far same = so_far ∙ ap (λ k. base ++ flat_map f (range_with_len from k)) same

-- a text put after another
pub then_put : (old a b mid new : List ℕ) → mid ≡ old ++ a → new ≡ mid ++ b → new ≡ old ++ (a ++ b)
then_put old a b mid new first put = put ∙ ap (λ t. t ++ b) first ∙ append_assoc old a b

-- the same of the last text, which a call puts whose answer is the function's
pub last_put : {A E : Type 0} (result : Result A E) (old a b mid new : List ℕ) → mid ≡ old ++ a → OnOk result (new ≡ mid ++ b) → OnOk result (new ≡ old ++ (a ++ b))
last_put (Ok done) old a b mid new first put = then_put old a b mid new first put
last_put (Err e) old a b mid new first put = tt

-- and where that call is one of `String`
pub last_text : {A E : Type 0} (result : Result A E) (old a b mid new : List ℕ) → mid ≡ old ++ a → new ≡ (if is_ok result then mid ++ b else mid) → OnOk result (new ≡ old ++ (a ++ b))
last_text (Ok done) old a b mid new first put = then_put old a b mid new first put
last_text (Err e) old a b mid new first put = tt
