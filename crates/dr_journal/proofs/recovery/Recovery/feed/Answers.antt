use Rattle.std.proofs.Common.{◌<◌, arith, rules, refl, sym, subst, take, length}
use Rattle.std.specs.Prelude.{IsErrOf}
use Rattle.std.proofs.lemmas.List.{take_all}
use Rattle.dr_journal.specs.declared.fault.JournalFault.TheVariants.{NoMemory}
use Rattle.dr_journal.specs.declared.fault.OpenFault.TheVariants.{NotAJournal, Journal}
use Rattle.dr_journal.specs.Calls.Reading.{Reads, ReadsOn}
use Rattle.dr_journal.proofs.Feeding.{next_piece, stopped, stranger, no_stranger_yet, joined, at_error}
use Rattle.dr_journal.proofs.recovery.Recovery.feed.Goals as goal

pub returns-in_err-take-clause-some : goal.returns-in_err-take-clause-some
returns-in_err-take-clause-some c =
    let i = c.loop-byte.byte-index in
    let within : i < length c.args.piece.now = omega (arith, c.loop-byte-test.true) in
    at_error c.from_residual.result _ (subst (λ r. ReadsOn c.args.self.now c.args.piece.now c.args.records.now.items r) (sym c.in_err-take.ensures.stays)
    (stopped c.args.piece.now i _ 0 within refl c.args.self.now c.loop-byte.self c.args.records.now.items c.loop-byte.records.items c.loop-byte.invariant.reads))

pub returns-in_err-take-clause-foreign : goal.returns-in_err-take-clause-foreign
returns-in_err-take-clause-foreign c =
    let i = c.loop-byte.byte-index in
    let within : i < length c.args.piece.now = omega (arith, c.loop-byte-test.true) in
    λ f.
    let told : IsErrOf c.take.result NotAJournal = search rules in
    stranger c.args.piece.now i _ 0 within refl c.args.self.now c.loop-byte.self c.args.records.now.items c.loop-byte.records.items c.loop-byte.invariant.reads (c.take.ensures.foreign told)

pub returns-in_err-take-clause-no_memory : goal.returns-in_err-take-clause-no_memory
returns-in_err-take-clause-no_memory c =
    let i = c.loop-byte.byte-index in
    let within : i < length c.args.piece.now = omega (arith, c.loop-byte-test.true) in
    λ f.
    let told : IsErrOf c.take.result (Journal NoMemory) = search rules in
    no_stranger_yet c.args.piece.now i _ 0 within refl c.args.self.now c.loop-byte.self c.args.records.now.items c.loop-byte.records.items c.loop-byte.invariant.reads (c.take.ensures.no_memory told)

pub loop-byte-preserved : goal.loop-byte-preserved
loop-byte-preserved c =
    let i = c.loop-byte.byte-index in
    let within : i < length c.args.piece.now = omega (arith, c.loop-byte-test.true) in
    record {
      reads = subst (λ p. Reads c.args.self.now c.take.new.self p c.args.records.now.items c.take.new.records.items) (sym (next_piece c.args.piece.now i _ 0 within refl))
          (joined c.args.self.now c.loop-byte.self c.take.new.self (take i c.args.piece.now) _ c.args.records.now.items c.loop-byte.records.items c.take.new.records.items c.loop-byte.invariant.reads c.in_ok-take.ensures.read);
      count = omega (arith, c.loop-byte.invariant.count, c.in_ok-take.ensures.count);
    }

pub returns-clause-read : goal.returns-clause-read
returns-clause-read c =
    let i = c.loop-byte.byte-index in
    subst (λ p. Reads c.args.self.now c.loop-byte.self p c.args.records.now.items c.loop-byte.records.items) (take_all i c.args.piece.now (omega (arith, c.loop-byte-test.false))) c.loop-byte.invariant.reads
