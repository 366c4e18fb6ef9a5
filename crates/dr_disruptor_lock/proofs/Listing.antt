-- Lists that are made one element after another.
use Rattle.std.proofs.Common.{◌≡◌, ℕ, ◌+◌, ◌<◌, List, [], ◌∷◌, ◌++◌, sym, ap, subst, refl, ◌∙◌, append_assoc, arith, map, length, get_or, below_more}
use Rattle.std.proofs.lemmas.List.{append-nil, get_or_append_left, get_or_push, length_push, map_push}

-- what was taken of one list stands at the end of the other
pub moved : {X Y : Type 0} (f : X → Y) (old new : List X) (x : X) (y : Y) (rest left all : List Y) → map f old ++ rest ≡ all → new ≡ old ++ x ∷ []
    → f x ≡ y → rest ≡ y ∷ left → map f new ++ left ≡ all
moved f old new x y rest left all before pushed is taken =
    ap (λ l. map f l ++ left) pushed ∙ ap (λ l. l ++ left) (map_push f old x) ∙ append_assoc (map f old) (f x ∷ []) left
    ∙ ap (λ z. map f old ++ z ∷ left) is ∙ ap (λ l. map f old ++ l) (sym taken) ∙ before

-- and all is taken in the end
pub all_moved : {X Y : Type 0} (f : X → Y) (xs : List X) (rest all : List Y) → map f xs ++ rest ≡ all → length rest ≡ 0 → map f xs ≡ all
all_moved f xs [] all is none = sym (append-nil (map f xs)) ∙ is
all_moved f xs (y ∷ rest) all is none = absurd (omega arith)

-- all that were made so far are right, and one more is
pub each_more : {X : Type 0} (P : ℕ → X → Type 0) (old new : List X) (x : X) → new ≡ old ++ x ∷ []
    → ((k : ℕ) (d : X) → k < length old → P k (get_or old k d)) → P (length old) x → (k : ℕ) (d : X) → k < length new → P k (get_or new k d)
each_more P old new x pushed before last k d below =
    let long : length new ≡ length old + 1 = ap length pushed ∙ length_push old x in
    below_more (λ i. P i (get_or new i d)) (length old)
    (λ i low. subst (P i) (sym (ap (λ l. get_or l i d) pushed ∙ get_or_append_left old (x ∷ []) d i low)) (before i d low))
    (subst (P (length old)) (sym (ap (λ l. get_or l (length old) d) pushed ∙ get_or_push old x d (length old) refl)) last)
    k (omega arith)

pub map_map : {X Y Z : Type 0} (f : Y → Z) (h : X → Y) (xs : List X) → map f (map h xs) ≡ map (λ x. f (h x)) xs
map_map f h [] = refl
map_map f h (x ∷ xs) = ap (λ l. f (h x) ∷ l) (map_map f h xs)
