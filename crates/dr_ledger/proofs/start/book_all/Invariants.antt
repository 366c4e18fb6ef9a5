use Rattle.std.proofs.Common.{◌≡◌, List, ◌++◌}
use Rattle.dr_seq.specs.declared.event.Event.{Event}
use Rattle.dr_ledger.specs.Coming.{IsOnlyRead, role_of}
use Rattle.dr_ledger.specs.Starting.{IsTaken}
use Rattle.dr_ledger.proofs.start.book_all.Given as goal

abbrev pub invariant-loop : goal.invariant-loop
invariant-loop l = record {
  only_read : IsOnlyRead l.initial.coming → IsOnlyRead l.coming;
  role : role_of l.coming ≡ role_of l.initial.coming;
  so_far : (past : List Event) → IsTaken l.initial.coming l.initial.accounts past → (more : List Event) × IsTaken l.coming l.accounts (past ++ more);
}
