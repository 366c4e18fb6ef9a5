use Rattle.std.proofs.Common.{◌≡◌, List, Ok, true}
use Rattle.dr_seq.specs.declared.event.Event.{Event}
use Rattle.dr_files.specs.Counting.{faults_of, inner_of}
use Rattle.dr_ledger.specs.Batches.{AreAtRest, Turned}
use Rattle.dr_ledger.specs.Standing.{IsAtWork, disk_faults}
use Rattle.dr_ledger.proofs.ledger.Ledger.answer_all.Given as goal

abbrev pub invariant-loop : goal.invariant-loop
invariant-loop g l = record {
  at_rest : AreAtRest g.D.Device.seen g.D.Device.may_leave l.self;
  reads : faults_of l.input ≡ faults_of l.initial.input;
  writes : faults_of l.output ≡ faults_of l.initial.output;
  disks : disk_faults g.D.Device.faults l.self ≡ disk_faults g.D.Device.faults l.initial.self;
  so_far : (past : List Event) → IsAtWork g.D.Device.seen g.D.Device.may_leave l.initial.self past
      → Turned g.D.Device.seen g.D.Device.may_leave g.D.Device.moment g.D.Device.left_since (Ok true) l.initial.self l.self
      (record { before = g.W.Write.contents (inner_of l.initial.output); after = g.W.Write.contents (inner_of l.output) }) l.initial.stream l.stream
      (g.R.Read.remaining (inner_of l.initial.input)) (g.R.Read.remaining (inner_of l.input)) past;
}
