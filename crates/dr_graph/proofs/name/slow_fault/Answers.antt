use Rattle.std.proofs.Common.{◌++◌, sym, ◌∙◌, String, Global, Bor, List, ℕ, map, take, arith}
use Rattle.std.specs.String.{string_bytes}
use Rattle.dr_graph.proofs.Naming.{faults_begin, faults_end, stops_here, goes_past}
use Rattle.dr_graph.proofs.name.slow_fault.Goals as goal

pub loop-i-init : goal.loop-i-init
loop-i-init c = faults_begin (λ (n : Bor (List ℕ)). n.now) (map (λ (n : String Global). string_bytes n) c.args.declared.now.keys) c.args.names.now

pub returns-then-is_some : goal.returns-then-is_some
returns-then-is_some c =
    stops_here (λ (n : Bor (List ℕ)). n.now) (map (λ (n : String Global). string_bytes n) c.args.declared.now.keys) c.args.names.now c.loop-i.i _ _ c.fault_of-fault.result
    c.loop-i.invariant c.loop-i-test.true (c.fault_of-fault.ensures _ c.is_known.ensures) (sym c.is_some.ensures ∙ c.if-is_some.true)

pub loop-i-preserved : goal.loop-i-preserved
loop-i-preserved c =
    goes_past (λ (n : Bor (List ℕ)). n.now) (map (λ (n : String Global). string_bytes n) c.args.declared.now.keys) c.args.names.now c.loop-i.i _ _ c.fault_of-fault.result
    c.loop-i.invariant c.loop-i-test.true (c.fault_of-fault.ensures _ c.is_known.ensures) (sym c.is_some.ensures ∙ c.if-is_some.false)

pub returns : goal.returns
returns c =
    sym (c.loop-i.invariant ∙ faults_end (λ (n : Bor (List ℕ)). n.now) (map (λ (n : String Global). string_bytes n) c.args.declared.now.keys ++ map (λ (n : Bor (List ℕ)). n.now) (take c.loop-i.i c.args.names.now)) c.args.names.now c.loop-i.i (omega arith))
