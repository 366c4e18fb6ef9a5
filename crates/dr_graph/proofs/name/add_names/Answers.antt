use Rattle.std.proofs.Common.{Bor, List, ℕ, arith}
use Rattle.dr_graph.specs.Meaning.Name.{given}
use Rattle.dr_graph.proofs.Adding.{adding_at, adding_done, left_none}
use Rattle.dr_graph.proofs.name.add_names.Goals as goal

pub loop-name-preserved : goal.loop-name-preserved
loop-name-preserved c =
    adding_at (λ (n : Bor (List ℕ)). n.now) c.args.more.now c.loop-name.name-index _ c.args.names.now.keys c.loop-name.names.keys c.insert.new.self.keys (given c.args.more.now) c.in_ok-from_str.field-0
    c.loop-name.invariant c.loop-name-test.true c.in_ok-from_str.ensures.ok c.in_ok-insert.ensures.keys

pub returns-clause-added : goal.returns-clause-added
returns-clause-added c =
    adding_done c.args.names.now.keys c.loop-name.names.keys _ (given c.args.more.now) c.loop-name.invariant
    (left_none (λ (n : Bor (List ℕ)). n.now) c.args.more.now c.loop-name.name-index (omega arith))
