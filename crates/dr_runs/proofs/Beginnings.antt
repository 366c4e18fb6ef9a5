-- What comes before.
use Rattle.std.proofs.Common.{List, [], ◌++◌, sym, ap, ◌∙◌, append_assoc}
use Rattle.std.proofs.lemmas.List.{append-nil}
use Rattle.dr_runs.specs.Runs.{IsBeginning}

pub begins_same : {S : Type 0} (steps : List S) → IsBeginning steps steps
begins_same steps = ([], sym (append-nil steps))

pub begins_on : {S : Type 0} (past between steps : List S) → IsBeginning past between → IsBeginning between steps → IsBeginning past steps
begins_on past between steps A B = (A.0 ++ B.0, B.1 ∙ ap (λ (xs : List _). xs ++ B.0) A.1 ∙ append_assoc past A.0 B.0)
