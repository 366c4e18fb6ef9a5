use Rattle.std.proofs.Common.{◌≡◌, ◌<◌, ◌∙◌, inl, inr, length, arith, false}
use Rattle.std.proofs.lemmas.Bool.{cases_eq}
use Rattle.std.proofs.lemmas.List.{get_or-set_same, get_or-set_other, length-set}
use Rattle.dr_core.proofs.engine.retiring.flag_gating.Goals as goal

pub loop-h-preserved : goal.loop-h-preserved
loop-h-preserved c =
    let len : length c.loop-h.flags ≡ length c.args.graph.now.upstreams = c.loop-h.invariant.0 in
    let inside : c.loop-h.h < length c.loop-h.flags = omega (arith, c.len-h-end.ensures.handlers) in (
      length-set c.loop-h.flags c.loop-h.h c.is_final_without.result ∙ len,
      λ k l. elim (cases_eq k c.loop-h.h) [
        | inl e ↦ rw e (get_or-set_same c.loop-h.flags c.loop-h.h c.is_final_without.result false inside ∙ c.is_final_without.ensures)
        | inr ne ↦ get_or-set_other c.loop-h.flags c.loop-h.h k c.is_final_without.result false ne ∙ c.loop-h.invariant.1 k (omega arith)
      ],
    )

pub returns : goal.returns
returns c = record { complete = c.loop-h.invariant.0; each = λ h lt. c.loop-h.invariant.1 h (omega (arith, c.len-h-end.ensures.handlers)) }
