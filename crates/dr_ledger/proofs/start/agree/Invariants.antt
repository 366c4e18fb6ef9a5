use Rattle.std.proofs.Common.{List, ◌++◌}
use Rattle.dr_seq.specs.declared.event.Event.{Event}
use Rattle.dr_ledger.specs.Coming.{IsOnlyRead}
use Rattle.dr_ledger.specs.Starting.{AreTaken}
use Rattle.dr_ledger.proofs.start.agree.Given as goal

abbrev pub invariant-loop : goal.invariant-loop
invariant-loop l = record {
  only_read : IsOnlyRead l.initial.journal → IsOnlyRead l.journal;
  copy_only_read : IsOnlyRead l.initial.replica → IsOnlyRead l.replica;
  so_far : (past : List Event) → AreTaken l.initial.journal l.initial.replica l.initial.accounts past
      → (more : List Event) × AreTaken l.journal l.replica l.accounts (past ++ more);
}
