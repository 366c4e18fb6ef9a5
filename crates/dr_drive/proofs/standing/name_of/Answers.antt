use Rattle.std.proofs.Common.{sym, []}
use Rattle.std.proofs.lemmas.Option.{get_or_from_slice_get}
use Rattle.dr_drive.proofs.standing.name_of.Goals as goal

pub returns : goal.returns
returns c = sym (get_or_from_slice_get c.args.graph.now.names c.args.h c.name.result.now [] c.name.ensures)
