use Rattle.std.proofs.Common.{◌+◌, arith, sym, []}
use Rattle.std.proofs.lemmas.List.{append-nil}
use Rattle.dr_journal.proofs.Feeding.{header_read, header_gives, short_yet, body_reads, no_stranger}
use Rattle.std.proofs.Common.{refl}
use Rattle.dr_journal.proofs.recovery.Recovery.take.Goals as goal

pub returns-then-self-lt-HEADER_LENGTH-clause-read : goal.returns-then-self-lt-HEADER_LENGTH-clause-read
returns-then-self-lt-HEADER_LENGTH-clause-read c = λ file read.
    let was = c.args.self.now in (
      header_read was (record { matched = was.matched + 1; scan = was.scan }) file c.args.byte _ read c.if-self-lt-HEADER_LENGTH.true c.if-byte-self.false refl refl,
      ([], sym (append-nil c.args.records.now.items), header_gives file c.args.byte (short_yet was file read c.if-self-lt-HEADER_LENGTH.true)),
    )

pub returns-in_err-take-clause-no_memory : goal.returns-in_err-take-clause-no_memory
returns-in_err-take-clause-no_memory c = λ told file more read. no_stranger c.args.self.now file read (omega (arith, c.if-self-lt-HEADER_LENGTH.false)) more

pub returns-clause-read : goal.returns-clause-read
returns-clause-read c =
    let was = c.args.self.now in
    body_reads was (record { matched = was.matched; scan = c.take.new.self }) c.args.byte c.args.records.now.items c.take.new.records.items
    (omega (arith, c.if-self-lt-HEADER_LENGTH.false)) refl c.in_ok-take.ensures.takes
