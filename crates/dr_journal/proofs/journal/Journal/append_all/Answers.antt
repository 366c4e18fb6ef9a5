use Rattle.std.proofs.Common.{rules, ◌++◌, ◌<◌, ◌∙◌, length, sym, ap, arith, subst}
use Rattle.std.specs.Prelude.{IsErrOf}
use Rattle.std.specs.List.{Contains}
use Rattle.dr_journal.specs.declared.fault.JournalFault.TheVariants.{Full}
use Rattle.std.proofs.lemmas.List.Elements.{Contains-get_or}
use Rattle.dr_journal.specs.Calls.Journals.{IsBeforeOrAfter, HasBeginning, IsTooLarge, CrashLeaves, bytes_of, file_of, records_of}
use Rattle.dr_journal.proofs.Moments.{and_then}
use Rattle.dr_journal.proofs.Runs.{and_batch, begins}
use Rattle.dr_journal.proofs.journal.Journal.append_all.Goals as goal

pub returns-in_err-append-clause-any_moment : goal.returns-in_err-append-clause-any_moment
returns-in_err-append-clause-any_moment g c =
    let d = g.D.Device in
    let s = c.loop-batch.invariant in
    let was = c.loop-batch.self in
    let first = records_of d.seen c.args.self.now in
    let before = records_of d.seen was in
    let step = subst (λ b. CrashLeaves d.moment d.left_since was c.append.new.self (IsBeforeOrAfter before (bytes_of b))) c.as_slice.ensures.value c.append.ensures.any_moment in
    and_then d.moment d.left_since c.args.self.now.device was.device c.append.new.self.device (HasBeginning first c.args.batches.now) _ s.moments step
    (begins c.args.batches.now c.loop-batch.batch-index c.batch-item.result (omega (arith, c.loop-batch-test.true)) c.batch-item.is first before s.so_far)

pub loop-batch-preserved : goal.loop-batch-preserved
loop-batch-preserved g c =
    let d = g.D.Device in
    let s = c.loop-batch.invariant in
    let was = c.loop-batch.self in
    let first = records_of d.seen c.args.self.now in
    let before = records_of d.seen was in
    let step = subst (λ b. CrashLeaves d.moment d.left_since was c.append.new.self (IsBeforeOrAfter before (bytes_of b))) c.as_slice.ensures.value c.append.ensures.any_moment in
    let within : c.loop-batch.batch-index < length c.args.batches.now = omega (arith, c.loop-batch-test.true) in
    record {
      at_rest = c.in_ok-append.ensures.at_rest;
      so_far = c.in_ok-append.ensures.acknowledged ∙ ap (λ b. before ++ bytes_of b) c.as_slice.ensures.value ∙ and_batch c.args.batches.now c.loop-batch.batch-index c.batch-item.result within c.batch-item.is first before s.so_far;
      moments = and_then d.moment d.left_since c.args.self.now.device was.device c.append.new.self.device (HasBeginning first c.args.batches.now) _ s.moments step (begins c.args.batches.now c.loop-batch.batch-index c.batch-item.result within c.batch-item.is first before s.so_far);
      reliable = c.in_ok-append.ensures.reliable ∙ s.reliable;
      faults = omega (arith, s.faults, c.append.ensures.faults);
    }

pub returns-clause-reliable : goal.returns-clause-reliable
returns-clause-reliable g c = c.loop-batch.invariant.reliable

pub returns-in_err-append-clause-full : goal.returns-in_err-append-clause-full
returns-in_err-append-clause-full g c =
    let d = g.D.Device in
    let xs = c.args.batches.now in
    let within : c.loop-batch.batch-index < length xs = omega (arith, c.loop-batch-test.true) in
    let there = subst (λ b. Contains xs b) (sym c.batch-item.is) (Contains-get_or xs c.loop-batch.batch-index c.batch-item.result within) in
    λ f.
    let told : IsErrOf c.append.result Full = search rules in
    let full = c.append.ensures.full told in
    let large = subst (λ b. IsTooLarge (file_of d.seen c.loop-batch.self) (bytes_of b)) c.as_slice.ensures.value full.1 in
    (c.batch-item.result, there, subst (λ j. IsTooLarge (file_of d.seen j) (bytes_of c.batch-item.result.items)) (sym full.0) large)
