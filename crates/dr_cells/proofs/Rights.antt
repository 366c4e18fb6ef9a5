-- What a `&` to a token shows, and how it is made. Assumes `Logic`.
use Rattle.std.specs.Prelude.{◌≡◌, ℕ, ◌-◌, ◌^◌, Some}
use mathlib.Core.Path.{refl}
use seplogic.Ra.Ura.{Ura}
use base.Fraction.{full_share}
use base.Logic.{ent, sep}
use base.Fml.{Lft, Incl, ftrue, fsep, flent, flt}
use mathlib.Core.List.{[], ◌∷◌}
use types.Logic.{Logic, sem}
use types.Kit.{‵, ◌$◌, ◌∵◌, !, qed, move, keep, use1, fsplit, done}
use denote.RattleType.{RattleType, RowLaws}
use denote.Param.Laws.{Laws}
use denote.RawPtr.{Ptr, lies_at}
use denote.Sharing.{ShrLaws, said, nothing, beside}
use denote.SharingLaws.{beside_shr_laws, nothing_shr_laws, said_shr_laws}
use denote.Shares.{Shares-less}
use denote.Struct.Lending.{Lends, Lends-both, Lends-nothing, Lends-said, Lends-lies, lent_at, lent_at_shr_laws}
use Rattle.left_right.specs.Parted.{part_owns, part_shares}
use Rattle.left_right.proofs.PartSteps.{lent_laws, Lends-part, part_sees}
use Rattle.dr_cells.specs.Hold.{Hold, blank, whole, part, kept, held, IsHeld}
use Rattle.dr_cells.specs.Owned.{fits, hold_owns, hold_shares}

module _ (R : RattleType) (i : ℕ) (p : Ptr) where
  module _ (L : RowLaws R) where
    lent_part : (r : ℕ) (x : R.Denot) → ShrLaws (part_shares R p x r)
    lent_part r x = lent_laws (lent_at R p x) (lent_at_shr_laws R L p x) r

    pub hold_laws : (h : Hold R.Denot) → ShrLaws (hold_shares R i p h)
    hold_laws blank = nothing_shr_laws
    hold_laws (whole x) = beside_shr_laws _ _ (said_shr_laws (fits R i) tt) (lent_at_shr_laws R L p x)
    hold_laws (part r x) = beside_shr_laws _ _ (said_shr_laws (fits R i) tt) (lent_part r x)
    hold_laws (kept r k x) = beside_shr_laws _ _ (said_shr_laws (fits R i) tt) (beside_shr_laws _ _ (beside_shr_laws _ _ nothing_shr_laws (lent_part r x)) nothing_shr_laws)

  module _ {M : Type 1} {𝓤 : Ura M} (𝓛 : Logic 𝓤) where
    module _ (L : Laws R) (l : Lft) (inc : Incl l R.lives) where
      abbrev Fits : Lends 𝓛 (fits R i) (said (fits R i)) l
      Fits = Lends-said 𝓛 (fits R i) tt l

      abbrev Part : (r k : ℕ) (x : R.Denot) → Lends 𝓛 (part_owns R p x r k) (part_shares R p x r) l
      Part r k x = Lends-part (lent_at R p x) (lent_at_shr_laws R L.shr_laws p x) 𝓛 r k l

      pub Lends-hold : (h : Hold R.Denot) → Lends 𝓛 (hold_owns R i p h) (hold_shares R i p h) l
      Lends-hold blank = Lends-nothing 𝓛 ftrue l
      Lends-hold (whole x) = Lends-both 𝓛 (fits R i) (lies_at R full_share p x) (said (fits R i)) (lent_at R p x) l Fits
          (Lends-lies 𝓛 R l p x (λ κ ts. Shares-less 𝓛 R R.lives l inc (L.shares 𝓛) x κ ts))
      Lends-hold (part r x) = Lends-both 𝓛 (fits R i) (part_owns R p x r 1) (said (fits R i)) (part_shares R p x r) l Fits (Part r 1 x)
      Lends-hold (kept r k x) =
          let few = flt k (2 ^ 63) in let mine = part_owns R p x r (2 ^ 63 - k) in let rest = flent (r ∷ []) (lies_at R full_share p x) in
          let seen = part_shares R p x r in
          Lends-both 𝓛 (fits R i) (fsep (fsep few mine) rest) (said (fits R i)) (beside (beside nothing seen) nothing) l Fits
          (Lends-both 𝓛 (fsep few mine) rest (beside nothing seen) nothing l (Lends-both 𝓛 few mine nothing seen l (Lends-nothing 𝓛 few l) (Part r (2 ^ 63 - k) x)) (Lends-nothing 𝓛 rest l))

    module _ (L : RowLaws R) (κ : Lft) where
      sees : (r : ℕ) (x : R.Denot) → ent 𝓤 (sem 𝓛 (part_shares R p x r κ)) (sem 𝓛 (lent_at R p x κ))
      sees r x = part_sees (lent_at R p x) (lent_at_shr_laws R L p x) 𝓛 r κ

      -- whatever a token holds that is not blank, a `&` to it is a `&` to the cell's value
      pub shown : (h : Hold R.Denot) → IsHeld h
          → (x : R.Denot) × (held h ≡ Some x) × ent 𝓤 (sem 𝓛 (hold_shares R i p h κ)) (sep 𝓤 (sem 𝓛 (fits R i)) (sem 𝓛 (lent_at R p x κ)))
      shown blank void = absurd void
      shown (whole x) is = (x, refl, qed 𝓛 (‵ (hold_shares R i p (whole x) κ) ∷ []) ∵ fsplit ! $ done !)
      shown (part r x) is = (
        x,
        refl,
        qed 𝓛 (‵ (hold_shares R i p (part r x) κ) ∷ []) ∵ fsplit ! $ move ! (1 ∷ []) $
            use1 𝓛 (‵ (lent_at R p x κ)) (sees r x) $ move ! (1 ∷ []) $ done !,
      )
      shown (kept r k x) is = (
        x,
        refl,
        qed 𝓛 (‵ (hold_shares R i p (kept r k x) κ) ∷ []) ∵ fsplit ! $ move ! (1 ∷ []) $ fsplit ! $ fsplit ! $
            move ! (1 ∷ []) $ use1 𝓛 (‵ (lent_at R p x κ)) (sees r x) $ keep ! (3 ∷ 0 ∷ []) $ done !,
      )
