use Rattle.std.proofs.Common.{◌≡◌, ◌<◌, ◌∙◌, ap, inl, inr, length, arith, false}
use Rattle.std.proofs.lemmas.Bool.{cases_eq}
use Rattle.std.proofs.lemmas.List.{get_or-set_same, get_or-set_other, length-set}
use Rattle.dr_drive.proofs.standing.retired_flags.Goals as goal

pub loop-h-preserved : goal.loop-h-preserved
loop-h-preserved c =
    let inv = c.loop-h.invariant in
    let inside : c.loop-h.h < length c.loop-h.flags = omega (arith, inv.long, c.len-h-end.ensures.lawful.few) in
    record {
      long = length-set c.loop-h.flags c.loop-h.h c.is_retired.result ∙ inv.long;
      told = λ k l. elim (cases_eq k c.loop-h.h) [
        | inl e ↦ rw e (get_or-set_same c.loop-h.flags c.loop-h.h c.is_retired.result false inside ∙ c.is_retired.ensures)
        | inr ne ↦ get_or-set_other c.loop-h.flags c.loop-h.h k c.is_retired.result false ne ∙ inv.told k (omega arith)
      ];
    }

pub returns : goal.returns
returns c = λ h inside. c.loop-h.invariant.told h (omega (arith, c.len-h-end.ensures.handlers, ap length c.graph.ensures.upstreams))
