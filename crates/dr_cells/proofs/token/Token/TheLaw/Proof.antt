-- A `&` to a token shows the cell's value. Assumes `Logic`.
use mathlib.Core.List.{[], ◌++◌}
use base.Fml.{Incl-trans}
use contract.BorrowLft.{meet_⊑_left}
use denote.RattleType.{RattleType}
use denote.RawPtr.{RawPtr}
use denote.Param.Laws.{Laws}
use denote.Param.Shared.{copy_shared}
use denote.Struct.Laws.{field_copy}
use denote.Struct.Lending.{of_Lends}
use Rattle.core.specs.Ptr.{ptr_add}
use Rattle.core.specs.contracts.marker.PhantomData as marker
use Rattle.dr_cells.specs.contracts.token.Token as C
use Rattle.dr_cells.proofs.token.Token.TheLaw.Statement.{statement}
use Rattle.dr_cells.proofs.Rights.{hold_laws, Lends-hold}

pub shares : (R : RattleType) (L : Laws R) → statement R L
shares R L = of_Lends (C.struct R) (C.the_codes R.Denot R.coded (marker.the_row RawPtr).coded) (C.the_heap R) (C.the_lent R)
    (λ d p. hold_laws R d.cell (ptr_add R d.cell d.strip) L.shr_laws d.hold) (copy_shared (marker.the_field RawPtr) (field_copy (marker.the_type RawPtr) tt), tt)
    (λ M 𝓤 𝓛 d p. Lends-hold R d.cell (ptr_add R d.cell d.strip) 𝓛 L (C.the_row R).lives (Incl-trans (meet_⊑_left (R.lives ++ []) _) (meet_⊑_left R.lives [])) d.hold)
