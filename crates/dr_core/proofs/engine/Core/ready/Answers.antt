use Rattle.std.proofs.Common.{◌≡◌, ◌<◌, ◌∙◌, ap, sym, min, false, length, slice_index, arith}
use Rattle.std.proofs.lemmas.List.{get_or_read}
use Rattle.dr_meaning.specs.Meaning.Machine.{handlers}
use Rattle.dr_core.specs.Calls.CoreView.{CoreView, retired_in}
use Rattle.dr_core.specs.Inside.Fields.{view_of}
use Rattle.dr_core.proofs.Polling.{ready_is, poll_counts}
use Rattle.dr_core.proofs.Retiring.{told}
use Rattle.dr_core.proofs.engine.Core.ready.Goals as goal

pub returns-clause-gives : goal.returns-clause-gives
returns-clause-gives g c =
    let v : CoreView g.row.E.Denot = view_of c.self.inside in
    let inside : c.args.h < handlers v.setup = omega (arith, c.len.ensures.handlers) in
    let taken : length v.taken ≡ handlers v.setup = c.self.invariant.whole.taken_len in
    let first : c.index-taken.result.now ≡ slice_index v.taken c.args.h =
    get_or_read v.taken c.args.h c.index-taken.result.now (omega arith) c.index-taken.ensures 0 in
    let left : retired_in v c.args.h ≡ false = told v c.args.h c.index.result.now false c.self.invariant.whole inside c.index.ensures c.if-index.false in
    rw (← c.self.view_is)
    (λ m max shows.
    let count = ready_is v c.args.h c.saturating_sub.result c.available-available.result c.index-taken.result.now c.saturating_sub.ensures
    (rw (← c.self.view_is) at c.available-available.ensures) first m shows in
    poll_counts v m c.args.h max c.self.invariant.whole shows inside left ∙ ap (λ n. min n max) (sym count))
