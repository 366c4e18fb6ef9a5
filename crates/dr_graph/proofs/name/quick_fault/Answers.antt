use Rattle.std.proofs.Common.{◌++◌, ◌∙◌, sym, ap, Bor, List, ℕ, take, arith}
use Rattle.dr_graph.specs.Meaning.Name.{texts, given}
use Rattle.dr_graph.proofs.Adding.{seen_next}
use Rattle.dr_graph.proofs.Naming.{faults_begin, faults_end, goes_after, stops_after}
use Rattle.dr_graph.proofs.name.quick_fault.Goals as goal

pub loop-name-init : goal.loop-name-init
loop-name-init c = record {
  seen = ap texts c.new-seen.ensures.empty;
  so_far = faults_begin (λ (n : Bor (List ℕ)). n.now) (texts c.args.declared.now.keys) c.args.names.now;
}

pub returns-then-is_some : goal.returns-then-is_some
returns-then-is_some c =
    let declared = texts c.args.declared.now.keys in
    let inv = c.loop-name.invariant in
    let here = c.fault_of-fault.ensures _ c.is_in_either.ensures in
    stops_after (λ (n : Bor (List ℕ)). n.now) declared (texts c.loop-name.seen.keys) c.args.names.now c.loop-name.name-index _ _ c.fault_of-fault.result
    inv.seen inv.so_far c.loop-name-test.true here (sym c.is_some.ensures ∙ c.if-is_some.true)

pub loop-name-preserved : goal.loop-name-preserved
loop-name-preserved c =
    let declared = c.args.declared.now.keys in
    let fault = c.fault_of-fault.result in
    let inv = c.loop-name.invariant in
    let none = sym c.is_some.ensures ∙ c.if-is_some.false in
    let here = c.fault_of-fault.ensures _ c.is_in_either.ensures in
    record {
      seen = seen_next (λ (n : Bor (List ℕ)). n.now) declared c.loop-name.seen.keys c.insert.new.self.keys c.args.names.now c.loop-name.name-index _ c.in_ok-from_str.field-0 fault
          inv.seen c.loop-name-test.true here none c.in_ok-from_str.ensures.ok c.in_ok-insert.ensures.keys;
      so_far = goes_after (λ (n : Bor (List ℕ)). n.now) (texts declared) (texts c.loop-name.seen.keys) c.args.names.now c.loop-name.name-index _ _ fault
          inv.seen inv.so_far c.loop-name-test.true here none;
    }

pub returns : goal.returns
returns c =
    sym (c.loop-name.invariant.so_far
    ∙ faults_end (λ (n : Bor (List ℕ)). n.now) (texts c.args.declared.now.keys ++ given (take c.loop-name.name-index c.args.names.now)) c.args.names.now c.loop-name.name-index (omega arith))
