-- Cells side by side, as a row of tokens. Assumes `Logic`.
use Rattle.std.proofs.Common.{◌≡◌, ℕ, suc, ◌+◌, ◌*◌, ◌^◌, ◌<◌, List, [], ◌∷◌, ◌++◌, length, sym, refl, subst, arith, suc-mul, mul-le-mul_right}
use seplogic.Ra.Ura.{Ura}
use base.Fraction.{full_share}
use base.Logic.{ent, sep, emp, never, id⊢}
use base.Fml.{ftrue}
use types.Logic.{Logic, sem}
use contract.Monad.{fact, fact_i}
use types.Kit.{‵, raw, use0, ◌$◌, ◌∵◌, !, qed, by, move, keep, drop, use1, use2, fsplit, fjoin, rewrite, flt_i, flt_l, done}
use types.SemTy.{cells}
use denote.RattleType.{RattleType}
use denote.Memory.{mem, part_at}
use denote.Steps.{heard}
use denote.RawPtr.{Ptr, block_ptr, null_ptr}
use Rattle.core.specs.Mem.{type_size}
use Rattle.dr_cells.specs.Hold.{whole}
use Rattle.dr_cells.specs.Owned.{token_owns, row_owns}

module _ {M : Type 1} {𝓤 : Ura M} (𝓛 : Logic 𝓤) (R : RattleType) where
  module _ (b o : ℕ) where
    abbrev size : ℕ
    size = type_size R

    pub row_of : (i : ℕ) (xs : List R.Denot) (at : ℕ) → at ≡ i * size + o → (i + length xs) * size < 2 ^ 63
        → ent 𝓤 (sem 𝓛 (cells (mem R) xs b at)) (sem 𝓛 (row_owns R (block_ptr b o) i xs))
    row_of i [] at e fit = id⊢ 𝓤 (emp 𝓤)
    row_of i (x ∷ xs) at e fit =
        let here : (i + 1) * size < 2 ^ 63 = omega (arith, mul-le-mul_right {m = i + 1} {n = i + suc (length xs)} size (omega arith)) in
        let next : at + size ≡ (i + 1) * size + o = omega (arith, suc-mul i size) in
        let rest : (i + 1 + length xs) * size < 2 ^ 63 = subst (λ (n : ℕ). n * size < 2 ^ 63) (omega arith) fit in
        qed 𝓛 (‵ (cells (mem R) (x ∷ xs) b at) ∷ []) ∵ fsplit ! $ rewrite ! 0 (λ (k : ℕ). ‵ (part_at R full_share x b k)) e refl $
        flt_i ! ((i + 1) * size) (2 ^ 63) here $ fjoin ! $
        move ! (1 ∷ []) $ use1 𝓛 (‵ (row_owns R (block_ptr b o) (i + 1) xs)) (row_of (i + 1) xs (at + size) next rest) $ move ! (1 ∷ 0 ∷ []) $ fjoin ! $ done !

    pub of_row : (i : ℕ) (xs : List R.Denot) (at : ℕ) → at ≡ i * size + o → ent 𝓤 (sem 𝓛 (row_owns R (block_ptr b o) i xs)) (sem 𝓛 (cells (mem R) xs b at))
    of_row i [] at e = id⊢ 𝓤 (emp 𝓤)
    of_row i (x ∷ xs) at e =
        let next : at + size ≡ (i + 1) * size + o = omega (arith, suc-mul i size) in
        qed 𝓛 (‵ (row_owns R (block_ptr b o) i (x ∷ xs)) ∷ []) ∵ fsplit ! $ fsplit ! $ drop ! $
        rewrite ! 0 (λ (k : ℕ). ‵ (part_at R full_share x b k)) (sym e) refl $
        move ! (1 ∷ []) $ use1 𝓛 (‵ (cells (mem R) xs b (at + size))) (of_row (i + 1) xs (at + size) next) $ move ! (1 ∷ 0 ∷ []) $ fjoin ! $ done !

  -- a whole cell after the last
  pub row_grows : (s : Ptr) (i j : ℕ) (xs : List R.Denot) (x : R.Denot) → j ≡ i + length xs
      → ent 𝓤 (sep 𝓤 (sem 𝓛 (row_owns R s i xs)) (sem 𝓛 (token_owns R j s (whole x)))) (sem 𝓛 (row_owns R s i (xs ++ x ∷ [])))
  row_grows s i j [] x e = let last : j ≡ i = omega arith in qed 𝓛 (‵ ftrue ∷ ‵ (token_owns R j s (whole x)) ∷ []) ∵ move ! (1 ∷ 0 ∷ []) $
      rewrite ! 0 (λ (k : ℕ). ‵ (token_owns R k s (whole x))) last refl $ fjoin ! $ done !
  row_grows s i j (y ∷ ys) x e = qed 𝓛 (‵ (row_owns R s i (y ∷ ys)) ∷ ‵ (token_owns R j s (whole x)) ∷ []) ∵ fsplit ! $ move ! (1 ∷ 2 ∷ []) $
      use2 𝓛 (‵ (row_owns R s (i + 1) (ys ++ x ∷ []))) (row_grows s (i + 1) j ys x (omega arith)) $ move ! (1 ∷ 0 ∷ []) $ fjoin ! $ done !

  -- a row of some cells lies in a block, and fits there
  pub row_lies : (i : ℕ) (xs : List R.Denot) → 0 < length xs → ent 𝓤 (sem 𝓛 (row_owns R null_ptr i xs)) (never 𝓤)
  row_lies i [] void = absurd (omega arith)
  row_lies i (x ∷ xs) some = qed 𝓛 (‵ (row_owns R null_ptr i (x ∷ xs)) ∷ []) ∵ fsplit ! $ fsplit ! $ keep ! (1 ∷ []) $ by ! (id⊢ 𝓤 (never 𝓤))

  pub row_fits : (s : Ptr) (i : ℕ) (xs : List R.Denot) → 0 < length xs → ent 𝓤 (sem 𝓛 (row_owns R s i xs)) (fact 𝓤 ((i + length xs) * type_size R < 2 ^ 63))
  row_fits s i [] void = absurd (omega arith)
  row_fits s i (x ∷ []) some = let Fits : Type 0 = (i + 1) * type_size R < 2 ^ 63 in
      qed 𝓛 (‵ (row_owns R s i (x ∷ [])) ∷ []) ∵ fsplit ! $ fsplit ! $ flt_l ! (λ fit. keep ! [] $
      use0 𝓛 (raw (fact 𝓤 Fits)) (fact_i 𝓤 Fits (emp 𝓤) fit) $ done !)
  row_fits s i (x ∷ y ∷ ys) some = let Fits : Type 0 = (i + suc (suc (length ys))) * type_size R < 2 ^ 63 in
      let Rest : Type 0 = (i + 1 + suc (length ys)) * type_size R < 2 ^ 63 in
      qed 𝓛 (‵ (row_owns R s i (x ∷ y ∷ ys)) ∷ []) ∵ fsplit ! $ move ! (1 ∷ []) $
      use1 𝓛 (raw (fact 𝓤 Rest)) (row_fits s (i + 1) (y ∷ ys) (omega arith)) $ keep ! (0 ∷ []) $ heard ! Rest (λ fit.
      use0 𝓛 (raw (fact 𝓤 Fits)) (fact_i 𝓤 Fits (emp 𝓤) (subst (λ (n : ℕ). n * type_size R < 2 ^ 63) (omega arith) fit)) $ done !)

pub some_of : {X : Type 0} (xs : List X) → 0 < length xs → (x : X) × (ys : List X) × (xs ≡ x ∷ ys)
some_of [] void = absurd (omega arith)
some_of (x ∷ xs) some = (x, xs, refl)
