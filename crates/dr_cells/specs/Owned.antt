-- What a token owns, and what a `&` to one holds. A lending r is a lifetime of its own, which ends once each part is back: a part owns a share of it, and the value for as long as it goes on.
use Rattle.std.specs.Prelude.{ℕ, ◌+◌, ◌-◌, ◌*◌, ◌^◌, List, [], ◌∷◌}
use Rattle.core.specs.Mem.{type_size}
use Rattle.core.specs.Ptr.{ptr_add}
use base.Fraction.{full_share}
use base.Fml.{Lft, Fml, ftrue, fsep, flent, flt}
use denote.RattleType.{RattleType}
use denote.RawPtr.{Ptr, lies_at}
use denote.Sharing.{nothing, said, beside}
use denote.Struct.Lending.{lent_at}
use Rattle.left_right.specs.Parted.{part_owns, part_shares}
use Rattle.dr_cells.specs.Hold.{Hold, blank, whole, part, kept}

module _ (R : RattleType) (i : ℕ) where
  -- the first i + 1 cells of a strip take fewer than 2 ^ 63 bytes
  abbrev pub fits : Fml
  fits = flt ((i + 1) * type_size R) (2 ^ 63)

  module _ (p : Ptr) where
    abbrev pub hold_owns : Hold R.Denot → Fml
    hold_owns blank = ftrue
    hold_owns (whole x) = fsep fits (lies_at R full_share p x)
    hold_owns (part r x) = fsep fits (part_owns R p x r 1)
    hold_owns (kept r k x) = fsep fits (fsep (fsep (flt k (2 ^ 63)) (part_owns R p x r (2 ^ 63 - k))) (flent (r ∷ []) (lies_at R full_share p x)))

    abbrev pub hold_shares : Hold R.Denot → Lft → Fml
    hold_shares blank = nothing
    hold_shares (whole x) = beside (said fits) (lent_at R p x)
    hold_shares (part r x) = beside (said fits) (part_shares R p x r)
    hold_shares (kept r k x) = beside (said fits) (beside (beside nothing (part_shares R p x r)) nothing)

  abbrev pub token_owns : Ptr → Hold R.Denot → Fml
  token_owns s = hold_owns (ptr_add R i s)

  abbrev pub token_shares : Ptr → Hold R.Denot → Lft → Fml
  token_shares s = hold_shares (ptr_add R i s)

-- the cells from i on, each whole
abbrev pub row_owns : (R : RattleType) → Ptr → ℕ → List R.Denot → Fml
row_owns R s i [] = ftrue
row_owns R s i (x ∷ xs) = fsep (token_owns R i s (whole x)) (row_owns R s (i + 1) xs)
