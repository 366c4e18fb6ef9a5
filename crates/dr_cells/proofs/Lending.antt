-- The ghost steps of a lending: it begins, a part goes out, one comes back, and it ends. Assumes `Logic`.
use Rattle.std.proofs.Common.{◌≡◌, ℕ, ◌+◌, ◌-◌, ◌*◌, ◌^◌, ◌<◌, [], ◌∷◌, refl, arith}
use seplogic.Ra.Ura.{Ura}
use base.Fraction.{full_share}
use base.Logic.{ent, sep}
use base.Fml.{Lft, Incl, Share, Fml, fex, flft}
use types.Logic.{Logic, sem}
use types.Kit.{‵, ◌⊛◌, later, ◌$◌, ◌∵◌, !, qed, move, keep, drop, use1, use2, split, fsplit, fjoin, fpick, fpack, rewrite, flt_i, flt_l, updating, await}
use types.Kit.{now, done}
use Rattle.core.specs.Mem.{type_size}
use denote.RattleType.{RattleType}
use denote.Param.Laws.{Laws}
use denote.RawPtr.{Ptr, lies_at}
use denote.SharingLaws.{contraction}
use denote.Struct.Lending.{Lends-lies, lent_at, lent_at_shr_laws}
use Rattle.left_right.specs.Parted.{tokens}
use Rattle.left_right.proofs.PartSteps.{tokens_cut, tokens_glue, freezes, thaws, Frozen}
use Rattle.dr_cells.specs.Hold.{Hold, whole, part, kept}
use Rattle.dr_cells.specs.Owned.{hold_owns}

module _ {M : Type 1} {𝓤 : Ura M} (𝓛 : Logic 𝓤) (R : RattleType) (L : Laws R) (i : ℕ) (p : Ptr) (x : R.Denot) where
  open 𝓛 use {H}

  abbrev Owns : Hold R.Denot → Fml
  Owns = hold_owns R i p

  abbrev Value : Fml
  Value = lies_at R full_share p x

  -- μ is a lifetime that goes on
  pub lending_begins : (μ : Lft) (q : Share) → Incl μ R.lives
      → ent 𝓤 (sep 𝓤 (sem 𝓛 (Owns (whole x))) (sem 𝓛 (flft μ q))) (H.⇛ (sep 𝓤 (sem 𝓛 (fex ℕ (λ r. Owns (kept r 0 x)))) (sem 𝓛 (flft μ q))))
  lending_begins μ q inc = let laws = lent_at_shr_laws R L.shr_laws p x in qed 𝓛 (‵ (Owns (whole x)) ∷ ‵ (flft μ q) ∷ []) ∵ updating ! $ fsplit ! $
      move ! (1 ∷ 2 ∷ []) $
      use2 𝓛 (later (‵ (fex ℕ (Frozen (lent_at R p x) laws 𝓛 Value)) ⊛ ‵ (flft μ q))) (freezes (lent_at R p x) laws 𝓛 Value R.lives μ q (Lends-lies 𝓛 R R.lives p x (L.shares 𝓛 x)) inc) $ await ! tt $ split ! $
      fpick ! (λ r. fsplit ! $ move ! (1 ∷ []) $ flt_i ! 0 (2 ^ 63) (omega arith) $ fjoin ! $ fjoin ! $ move ! (2 ∷ 0 ∷ []) $ fjoin ! $
      fpack ! ℕ (λ s. Owns (kept s 0 x)) r $ now ! $ done !)

  pub part_goes : (r k : ℕ) → k + 1 < 2 ^ 63 → ent 𝓤 (sem 𝓛 (Owns (kept r k x))) (sep 𝓤 (sem 𝓛 (Owns (kept r (k + 1) x))) (sem 𝓛 (Owns (part r x))))
  part_goes r k few = let seen = lent_at R p x (r ∷ []) in let out = 2 ^ 63 - (k + 1) in qed 𝓛 (‵ (Owns (kept r k x)) ∷ []) ∵
      fsplit ! $ flt_l ! (λ fit. fsplit ! $ fsplit ! $ drop ! $ fsplit ! $
      use1 𝓛 (‵ (tokens r 1) ⊛ ‵ (tokens r out)) (tokens_cut 𝓛 r (2 ^ 63 - k) 1 out (omega arith) (omega arith) (omega arith) (omega arith)) $ split ! $
      move ! (2 ∷ []) $
      use1 𝓛 (‵ seen ⊛ ‵ seen) (contraction 𝓛 (lent_at R p x) (lent_at_shr_laws R L.shr_laws p x) (r ∷ [])) $ split ! $
      -- [the value, twice; the token of what goes, and of what stays; the value's way back]
      move ! (2 ∷ 0 ∷ []) $ fjoin ! $ flt_i ! ((i + 1) * type_size R) (2 ^ 63) fit $ fjoin ! $
      move ! (2 ∷ 1 ∷ []) $ fjoin ! $ flt_i ! (k + 1) (2 ^ 63) few $ fjoin ! $ move ! (0 ∷ 2 ∷ []) $ fjoin ! $
      flt_i ! ((i + 1) * type_size R) (2 ^ 63) fit $ fjoin ! $ done !)

  -- whichever cell the part is of: its token is one of the lending's
  pub part_comes : (j : ℕ) (s : Ptr) (y : R.Denot) (r k : ℕ) → 0 < k
      → ent 𝓤 (sep 𝓤 (sem 𝓛 (Owns (kept r k x))) (sem 𝓛 (hold_owns R j s (part r y)))) (sem 𝓛 (Owns (kept r (k - 1) x)))
  part_comes j s y r k some = qed 𝓛 (‵ (Owns (kept r k x)) ∷ ‵ (hold_owns R j s (part r y)) ∷ []) ∵
      fsplit ! $ flt_l ! (λ fit. fsplit ! $ fsplit ! $ flt_l ! (λ few. fsplit ! $ move ! (3 ∷ []) $ fsplit ! $ drop ! $ fsplit ! $
      let sum : 2 ^ 63 - k + 1 ≡ 2 ^ 63 - (k - 1) = omega arith in
      move ! (2 ∷ 0 ∷ []) $ use2 𝓛 (‵ (tokens r (2 ^ 63 - k + 1))) (tokens_glue 𝓛 r (2 ^ 63 - k) 1 (omega arith) (omega arith)) $
      rewrite ! 0 (λ (n : ℕ). ‵ (tokens r n)) sum refl $ move ! (1 ∷ []) $ drop ! $
      fjoin ! $ flt_i ! (k - 1) (2 ^ 63) (omega arith) $ fjoin ! $ fjoin ! $ flt_i ! ((i + 1) * type_size R) (2 ^ 63) fit $ fjoin ! $ done !))

  pub lending_ends : (r : ℕ) → ent 𝓤 (sem 𝓛 (Owns (kept r 0 x))) (H.⇛ (sem 𝓛 (Owns (whole x))))
  lending_ends r = qed 𝓛 (‵ (Owns (kept r 0 x)) ∷ []) ∵ updating ! $
      fsplit ! $ move ! (1 ∷ []) $ fsplit ! $ fsplit ! $ drop ! $ fsplit ! $ move ! (2 ∷ 0 ∷ []) $
      use2 𝓛 (later (‵ Value)) (thaws (lent_at R p x) (lent_at_shr_laws R L.shr_laws p x) 𝓛 Value r) $ await ! tt $ move ! (2 ∷ 0 ∷ []) $ fjoin ! $
      now ! $ keep ! (0 ∷ []) $ done !
