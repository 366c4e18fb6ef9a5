use Rattle.std.proofs.Common.{◌≡◌, ◌<◌, ◌∷◌, ◌++◌, [], arith, ℕ, List, false, subst}
use Rattle.std.proofs.lemmas.Grind.{common_steps}
use Rattle.dr_graph.specs.Meaning.Order.{IsNext, is_ready}
use Rattle.dr_graph.proofs.Orders.{starts, goes_on, halts_stuck, halts_whole, no_cycle}
use Rattle.dr_graph.proofs.order.place_all.Goals as goal

pub loop-placed-init : goal.loop-placed-init
loop-placed-init c = starts c.args.count c.args.edges.now c.new-placed.result.items c.new-placed.ensures.items

pub loop-placed-preserved : goal.loop-placed-preserved
loop-placed-preserved c =
    let longer : c.push.new.self.items ≡ c.loop-placed.placed.items ++ c.in-Some.h ∷ [] = grind (arith, common_steps) in
    goes_on c.args.count c.args.edges.now c.loop-placed.placed.items c.in-Some.h c.push.new.self.items c.loop-placed.invariant (subst (λ (xs : List ℕ). IsNext c.args.count c.args.edges.now xs c.in-Some.h) c.deref.ensures.value c.in-Some.ensures) longer

pub returns-in-None-clause-cycle : goal.returns-in-None-clause-cycle
returns-in-None-clause-cycle c =
    λ same. halts_stuck c.args.count c.args.edges.now c.loop-placed.placed.items c.requires c.loop-placed.invariant (omega arith) (subst (λ (xs : List ℕ). (j : ℕ) → j < c.args.count → is_ready c.args.edges.now xs j ≡ false) c.deref.ensures.value c.in-None.ensures)

pub returns-clause-built : goal.returns-clause-built
returns-clause-built c = halts_whole c.args.count c.args.edges.now c.loop-placed.placed.items c.loop-placed.invariant (omega arith)

pub returns-clause-acyclic : goal.returns-clause-acyclic
returns-clause-acyclic c =
    λ ok. no_cycle c.args.count c.args.edges.now c.loop-placed.placed.items c.requires (halts_whole c.args.count c.args.edges.now c.loop-placed.placed.items c.loop-placed.invariant (omega arith))
