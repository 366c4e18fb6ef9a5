-- A `&` to a halter holds a `&` to each of its parts.
use denote.RattleType.{RattleType}
use denote.Param.Laws.{Laws}
use denote.SharingLaws.{nothing_shr_laws}
use denote.Struct.Lending.{of_Lends, Lends-nothing}
use Rattle.std.proofs.alloc.Global.TheLaws as heap_laws
use Rattle.std.specs.contracts.alloc.Global as heap
use Rattle.std.specs.contracts.impls.GlobalAllocator.TheImpl.{ghosts}
use Rattle.std.proofs.sync.Arc.TheLaws as arc_laws
use Rattle.atomic_table.proofs.shared.Seat.TheLaws as seat_laws
use Rattle.dr_cells.specs.contracts.token.Token as token
use Rattle.dr_cells.proofs.token.Token.TheLaws as token_laws
use Rattle.dr_cells.proofs.strip.Strip.TheLaws as strip_laws
use Rattle.dr_runs.specs.contracts.view.View as view
use Rattle.dr_runs.proofs.view.View.TheLaws as view_laws
use Rattle.dr_plain_senders.specs.contracts.record.EndRecord as record_of
use Rattle.dr_plain_senders.proofs.record.EndRecord.TheLaws as record_laws
use Rattle.dr_plain_senders.specs.contracts.record.Step as step
use Rattle.dr_plain_senders.proofs.record.Step.TheLaws as step_laws
use Rattle.dr_plain_senders.specs.contracts.body.RingBody as body
use Rattle.dr_plain_senders.proofs.body.RingBody.TheLaws as body_laws
use Rattle.dr_plain_senders.proofs.brought_together.BroughtTogether.TheLaws as gathered_laws
use Rattle.dr_plain_senders.specs.contracts.laws.halter.Halter.TheInside as C
use Rattle.dr_plain_senders.proofs.laws.halter.Halter.TheLaw.Statement.{statement}

pub shares : (R : RattleType) (L : Laws R) → statement R L
shares R L =
    let records = record_of.the_row R in let steps = step.the_row R in let bodies = body.the_row R in
    let LW = view_laws.the_row_laws records steps (record_laws.the_row_laws R L) (step_laws.the_row_laws R L) in
    of_Lends (C.struct R) (C.the_codes R.Denot R.coded) (C.the_heap R) (C.the_lent R) (λ d p. nothing_shr_laws) (
      arc_laws.the_field_shared bodies heap.the_row ghosts (body_laws.the_row_laws R L) heap_laws.the_row_laws,
      (
        seat_laws.the_field_shared (token.the_row R) (view.the_row records steps) (token_laws.the_row_laws R L) LW,
        (strip_laws.the_field_shared R heap.the_row ghosts L heap_laws.the_row_laws, (gathered_laws.the_field_shared R L, tt)),
      ),
    )
    (λ M 𝓤 𝓛 d p. Lends-nothing 𝓛 (C.the_heap R d) (C.the_row R).lives)
