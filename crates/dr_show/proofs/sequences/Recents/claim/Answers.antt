use Rattle.std.proofs.Common.{◌-◌, arith}
use Rattle.dr_show.specs.Inside.Sequences.{claimed_by, claimed_in, said_of, slots_of}
use Rattle.dr_show.proofs.Tracking.{claim_skips, claim_takes, partly_ends, partly_more, partly_starts}
use Rattle.dr_show.proofs.sequences.Recents.claim.Goals as goal

pub loop-s-init : goal.loop-s-init
loop-s-init c =
    let from = c.args.next - c.args.n in
    let old = slots_of c.args.self.now in
    partly_starts c.args.next (claimed_in from c.args.producer) from old (λ s below recent. claim_skips from c.args.producer s (said_of old s) below)

pub loop-s-preserved : goal.loop-s-preserved
loop-s-preserved c =
    let from = c.args.next - c.args.n in
    let now = slots_of c.loop-s.self in
    let size = c.loop-s.invariant.size in
    partly_more c.args.next (claimed_in from c.args.producer) c.loop-s.s (slots_of c.args.self.now) now c.put.new.self (claimed_by c.args.producer) (omega (arith, size)) (omega arith)
    (omega (arith, size)) c.loop-s.invariant (claim_takes from c.args.producer c.loop-s.s (said_of now c.loop-s.s) (omega arith)) c.put.ensures

pub returns : goal.returns
returns c =
    let from = c.args.next - c.args.n in
    partly_ends c.args.next (claimed_in from c.args.producer) c.loop-s.s c.args.next (slots_of c.args.self.now) (slots_of c.loop-s.self) (omega arith) c.loop-s.invariant
    (λ s after within. absurd (omega arith))
