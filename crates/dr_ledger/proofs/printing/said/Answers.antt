use Rattle.std.proofs.Common.{◌∙◌, arith, subst}
use Rattle.std.specs.List.{each_same}
use Rattle.dr_journal.specs.Meaning.Format.{IsForeign}
use Rattle.dr_ledger.proofs.Printings.{tells_open}
use Rattle.dr_ledger.proofs.printing.said.Goals as goal

pub returns-clause-told : goal.returns-clause-told
returns-clause-told c =
    let same = c.new-device.ensures ∙ each_same c.args.bytes.items c.in_ok-clone.field-0.items c.in_ok-clone.ensures.cases.0 in
    tells_open c.in-Err.fault c.args.bytes.items (λ is. subst (λ l. IsForeign l) same (c.in-Err.ensures.untouched is).1) c.in-Err.ensures.free (λ is. let less = c.in-Err.ensures.failed is in omega (arith, less)) c.in-Err.ensures.full
