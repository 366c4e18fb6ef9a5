use Rattle.std.proofs.Common.{◌∙◌, ap, sym, ℕ, Bool, length, min, slice_index, arith}
use Rattle.std.specs.Prelude.{if◌then◌else◌}
use Rattle.dr_graph.specs.Meaning.Graph.{is_final_without}
use Rattle.dr_meaning.proofs.Leasts.{least_skip, least_turn}
use Rattle.dr_core.specs.Calls.CoreView.{retired_in}
use Rattle.dr_drive.proofs.Finals.{gate_found}
use Rattle.dr_drive.proofs.standing.least_completed.Goals as goal
use Rattle.dr_drive.proofs.standing.least_completed.Goals.{then-is_final_now, else-is_final_now}

pub loop-h-preserved : goal.loop-h-preserved
loop-h-preserved c =
    let v = c.args.core.now in
    let p : ℕ → Bool = is_final_without v.setup.upstreams (retired_in v) in
    let counts : ℕ → ℕ = λ h. slice_index v.completed h in
    let at = c.loop-h in
    elim c.if-is_final_now.branch [
      | then-is_final_now w ↦ rw (w.found-is, w.least-is) (least_turn p counts at.h at.found at.least w.lesser-least.result at.invariant (sym c.is_final_now.ensures ∙ w.if-is_final_now.true)
          (w.lesser-least.ensures ∙ ap (λ k. if at.found then min at.least k else k) w.completed.ensures))
      | else-is_final_now w ↦ rw (w.found-is, w.least-is) (least_skip p counts at.h at.found at.least at.invariant (sym c.is_final_now.ensures ∙ w.if-is_final_now.false))
    ]

pub returns : goal.returns
returns c = gate_found c.args.core.now c.loop-h.found c.loop-h.least c.loop-h.h (omega (arith, c.len-h-end.ensures.handlers, ap length c.graph.ensures.upstreams)) c.loop-h.invariant
