use Rattle.std.proofs.Common.{◌∙◌, Some, ap, arith, sym}
use Rattle.dr_drive.proofs.Finding.{here, not_here}
use Rattle.dr_drive.proofs.commands.handler_of.Goals as goal

pub returns-then-eq : goal.returns-then-eq
returns-then-eq c =
    let get = c.name.ensures ∙ ap Some (sym c.as_bytes.ensures.value) in
    let found = here c.args.graph.now.names c.args.name.now c.as_bytes.result.now c.loop-h.h get (sym c.eq.ensures ∙ c.if-eq.true) in
    omega (arith, c.loop-h.invariant)

pub loop-h-preserved : goal.loop-h-preserved
loop-h-preserved c =
    let get = c.name.ensures ∙ ap Some (sym c.as_bytes.ensures.value) in
    let other = not_here c.args.graph.now.names c.args.name.now c.as_bytes.result.now c.loop-h.h get (sym c.eq.ensures ∙ c.if-eq.false) in
    omega (arith, c.loop-h.invariant)
