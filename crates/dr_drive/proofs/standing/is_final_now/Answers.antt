use Rattle.std.proofs.Common.{◌∙◌, ap, ℕ, List}
use Rattle.dr_graph.specs.Meaning.Graph.{flagged, is_final_without}
use Rattle.dr_core.specs.Calls.CoreView.{retired_in}
use Rattle.dr_drive.proofs.Finals.{final_below}
use Rattle.dr_drive.proofs.standing.is_final_now.Goals as goal

pub returns : goal.returns
returns c =
    let v = c.args.core.now in
    let gone = flagged c.args.gone.now in
    c.is_final_without.ensures ∙ ap (λ (g : List (List ℕ)). is_final_without g gone c.args.h) c.graph.ensures.upstreams
    ∙ final_below v.setup.upstreams gone (retired_in v) c.requires.gone c.args.h c.requires.handler
