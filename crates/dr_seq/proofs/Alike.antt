-- Lists that have the same values.
use Rattle.std.proofs.Common.{◌≡◌, ℕ, suc, ◌<◌, List, [], ◌∷◌, refl, ap, ◌∙◌, length, arith}
use Rattle.std.specs.Prelude.{slice_get}
use Rattle.std.proofs.lemmas.Option.{same_Some}

pub same_lists : {A : Type 0} (a b : List A) → length a ≡ length b → ((k : ℕ) → k < length a → slice_get a k ≡ slice_get b k) → a ≡ b
same_lists [] [] long same = refl
same_lists [] (y ∷ ys) long same = absurd (omega arith)
same_lists (x ∷ xs) [] long same = absurd (omega arith)
same_lists (x ∷ xs) (y ∷ ys) long same =
    let first : x ≡ y = same_Some x y (same 0 (omega arith)) in
    let rest : xs ≡ ys = same_lists xs ys (omega arith) (λ k l. same (suc k) (omega arith)) in
    ap (λ v. v ∷ xs) first ∙ ap (λ vs. y ∷ vs) rest
