use Rattle.std.proofs.Common.{◌≡◌, ◌≤◌, ◌++◌}
use Rattle.dr_journal.specs.Calls.Journals.{IsAtRest, HasBeginning, CrashLeaves, records_of, first_of, faults_of}
use Rattle.dr_journal.proofs.journal.Journal.append_all.Given as goal

abbrev pub invariant-loop-batch : goal.invariant-loop-batch
invariant-loop-batch g l = record {
  at_rest : IsAtRest g.D.Device.seen g.D.Device.may_leave l.self;
  so_far : records_of g.D.Device.seen l.self ≡ records_of g.D.Device.seen l.initial.self ++ first_of l.batches l.batch-index;
  moments : CrashLeaves g.D.Device.moment g.D.Device.left_since l.initial.self l.self (HasBeginning (records_of g.D.Device.seen l.initial.self) l.batches);
  reliable : faults_of g.D.Device.faults l.self ≡ faults_of g.D.Device.faults l.initial.self;
  faults : faults_of g.D.Device.faults l.initial.self ≤ faults_of g.D.Device.faults l.self;
}
