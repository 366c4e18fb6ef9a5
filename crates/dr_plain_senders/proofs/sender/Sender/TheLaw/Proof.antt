-- A `&` to a sender holds a `&` to each of its parts.
use denote.RattleType.{RattleType}
use denote.Param.Laws.{Laws}
use denote.Param.Shared.{copy_shared}
use denote.SharingLaws.{nothing_shr_laws}
use denote.Struct.Field.{u64-field}
use denote.Struct.Laws.{u64-copy}
use denote.Struct.Lending.{of_Lends, Lends-nothing}
use Rattle.std.proofs.alloc.Global.TheLaws as heap_laws
use Rattle.std.specs.contracts.alloc.Global as heap
use Rattle.std.specs.contracts.impls.GlobalAllocator.TheImpl.{ghosts}
use Rattle.std.proofs.vec.Vec.TheLaws as vec_laws
use Rattle.dr_cells.specs.contracts.token.Token as token
use Rattle.dr_cells.proofs.token.Token.TheLaws as token_laws
use Rattle.dr_plain_senders.proofs.laws.sender.SenderStation.TheLaws as station_laws
use Rattle.dr_plain_senders.proofs.owned.Owned.TheLaws as owned_laws
use Rattle.dr_plain_senders.specs.contracts.sender.Sender.TheInside as C
use Rattle.dr_plain_senders.proofs.sender.Sender.TheLaw.Statement.{statement}

pub shares : (R : RattleType) (L : Laws R) → statement R L
shares R L =
    of_Lends (C.struct R) (C.the_codes R.Denot R.coded) (C.the_heap R) (C.the_lent R) (λ d p. nothing_shr_laws) (
      station_laws.the_field_shared R L,
      (
        owned_laws.the_field_shared,
        (
          copy_shared u64-field u64-copy,
          (vec_laws.the_field_shared (token.the_row R) heap.the_row ghosts (token_laws.the_row_laws R L) heap_laws.the_row_laws, tt),
        ),
      ),
    )
    (λ M 𝓤 𝓛 d p. Lends-nothing 𝓛 (C.the_heap R d) (C.the_row R).lives)
