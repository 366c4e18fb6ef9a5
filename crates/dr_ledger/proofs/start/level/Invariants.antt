use Rattle.std.proofs.Common.{◌≡◌, List}
use Rattle.dr_seq.specs.declared.event.Event.{Event}
use Rattle.dr_journal.specs.Calls.Journals.{IsAtRest, faults_of}
use Rattle.dr_ledger.specs.Coming.{IsOnlyRead, role_of}
use Rattle.dr_ledger.specs.Starting.{IsLevel}
use Rattle.dr_ledger.proofs.Levels.{SoFar}
use Rattle.dr_ledger.proofs.start.level.Given as goal

abbrev pub invariant-loop : goal.invariant-loop
invariant-loop g l = record {
  at_rest : IsAtRest g.D.Device.seen g.D.Device.may_leave l.journal;
  disk : faults_of g.D.Device.faults l.journal ≡ faults_of g.D.Device.faults l.initial.journal;
  only_read : IsOnlyRead l.initial.rest → IsOnlyRead l.rest;
  role : role_of l.rest ≡ role_of l.initial.rest;
  so_far : (past : List Event) → IsLevel g.D.Device.seen g.D.Device.may_leave l.initial.journal l.initial.rest l.initial.accounts past
      → SoFar g.D.Device.seen g.D.Device.may_leave g.D.Device.moment g.D.Device.left_since l.initial.journal l.journal l.rest l.accounts past;
}
