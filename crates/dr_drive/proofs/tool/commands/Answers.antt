use Rattle.std.proofs.Common.{◌∙◌, ap, length, arith}
use Rattle.std.proofs.lemmas.Result.{err_from_is_err_and}
use Rattle.dr_files.specs.Counting.{inner_of}
use Rattle.dr_drive.proofs.Commanding.{ends, fails, goes-on, wants}
use Rattle.dr_drive.proofs.tool.commands.Goals as goal

pub returns-in_err-row-clause-bytes : goal.returns-in_err-row-clause-bytes
returns-in_err-row-clause-bytes g c = λ phase shown.
    let p = err_from_is_err_and c.from_residual.result c.from_residual.ensures.1 in
    rw (p.1, p.2) (wants c.loop-line.invariant.come phase shown)

pub returns-in_err-command-clause-bytes : goal.returns-in_err-command-clause-bytes
returns-in_err-command-clause-bytes g c = λ phase shown.
    let first = rw (c.in_ok-row.was, c.in-Some.is) at c.next.follows.holds-at-none in
    let p = err_from_is_err_and c.from_residual-in_err-command.result c.from_residual-in_err-command.ensures.1 in
    rw (p.1, p.2) (fails c.in_err-command.field-0.0 (g.W.Write.contents (inner_of c.command.new.writer)) c.loop-line.invariant.come first c.in_err-command.ensures.bytes phase shown)

pub loop-line-preserved : goal.loop-line-preserved
loop-line-preserved g c =
    let inv = c.loop-line.invariant in
    let first = rw (c.in_ok-row.was, c.in-Some.is) at c.next.follows.holds-at-none in
    let less = ap length first in
    record {
      counted = omega (arith, inv.counted, less);
      none = c.in_ok-command.ensures.counted.1 ∙ inv.none;
      come = goes-on inv.come first c.in_ok-command.ensures.bytes;
    }

pub returns-clause-bytes : goal.returns-clause-bytes
returns-clause-bytes g c = λ phase shown.
    let none = rw (c.in_ok-row.was, c.in_default.is) at c.next.follows.holds-at-none in
    ends c.loop-line.invariant.come none phase shown
