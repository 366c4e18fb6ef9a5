use Rattle.dr_graph.proofs.Gating.{finals_gate, least_gates, least_rises}
use Rattle.dr_graph.proofs.laws.finals_gate.Goals as goal

pub returns : goal.returns
returns c = record { each = finals_gate; least = λ graph lawful. least_gates graph lawful.gate; rises = λ graph lawful. least_rises graph lawful.gate }
