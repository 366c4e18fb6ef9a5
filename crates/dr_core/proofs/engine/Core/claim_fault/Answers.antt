use Rattle.std.proofs.Common.{◌≡◌, ◌+◌, ◌≤◌, min, sym, arith, inl, inr}
use Rattle.std.proofs.lemmas.Bool.{cases_Bool}
use Rattle.dr_core.specs.Calls.CoreView.{CoreView, gate_of}
use Rattle.dr_core.specs.Inside.Fields.{view_of}
use Rattle.dr_core.proofs.Gating.{seen_below, claim_fault-none}
use Rattle.dr_core.proofs.engine.Core.claim_fault.Goals as goal

pub returns-then-wanted-self-clause-fault : goal.returns-then-wanted-self-clause-fault
returns-then-wanted-self-clause-fault g c =
    let v : CoreView g.row.E.Denot = view_of c.self.inside in
    let upto : v.next + c.args.n ≤ c.self.inside.claimable = c.if-wanted-self.true in
    let low : c.self.inside.gate ≤ gate_of v = seen_below v c.self.invariant.whole c.self.inside.gate c.self.invariant.seen in
    elim (cases_Bool v.halted) [
      | inl halted ↦ (let most : c.self.inside.claimable ≡ v.next = rw halted at c.self.invariant.claimable in absurd (c.requires.some (omega arith)))
      | inr going ↦ (
          let most : c.self.inside.claimable ≡ min v.setup.limit (v.setup.size + c.self.inside.gate) = rw going at c.self.invariant.claimable in
          rw (← c.self.view_is) (sym (claim_fault-none v c.args.n going (omega arith) (omega arith)))
          )
    ]
