use Rattle.std.proofs.Common.{◌∙◌, ◌+◌, true, ap, arith}
use Rattle.dr_show.specs.declared.sequences.Sequence.{Sequence}
use Rattle.dr_show.specs.Inside.Sequences.{claimed_by, published_in, said_of, slots_of}
use Rattle.dr_show.proofs.Tracking.{partly_ends, partly_more, partly_starts, publication_skips_earlier, publication_skips_later, publication_takes}
use Rattle.dr_show.proofs.sequences.Recents.publish.Goals as goal

pub loop-s-init : goal.loop-s-init
loop-s-init c =
    let old = slots_of c.args.self.now in
    partly_starts c.args.next (published_in c.args.lo c.args.hi) c.max-s.result old
    (λ s below recent. publication_skips_earlier c.args.lo c.args.hi s (said_of old s) (omega (arith, c.max-s.ensures, c.saturating_sub-first.ensures, c.get.ensures.value, c.args.self.now.all)))

pub loop-s-preserved : goal.loop-s-preserved
loop-s-preserved c =
    let now = slots_of c.loop-s.self in
    let size = c.loop-s.invariant.size in
    let s = c.loop-s.s in
    let before = c.get-before.result in
    let after : Sequence = record { producer = before.producer; event = before.event; is_published = true } in
    partly_more c.args.next (published_in c.args.lo c.args.hi) s (slots_of c.args.self.now) now c.put.new.self after
    (omega (arith, size, c.max-s.ensures, c.saturating_sub-first.ensures, c.get.ensures.value, c.args.self.now.all)) (omega arith)
    (omega (arith, size, c.max-s.ensures, c.saturating_sub-first.ensures, c.get.ensures.value, c.args.self.now.all)) c.loop-s.invariant
    (publication_takes c.args.lo c.args.hi s before (omega (arith, c.max-s.ensures)) (omega arith) ∙ ap (published_in c.args.lo c.args.hi s) (c.get-before.ensures (claimed_by 0))) c.put.ensures

pub returns : goal.returns
returns c =
    let old = slots_of c.args.self.now in
    partly_ends c.args.next (published_in c.args.lo c.args.hi) c.loop-s.s (c.args.hi + 1) old (slots_of c.loop-s.self) (omega arith) c.loop-s.invariant
    (λ s after within. publication_skips_later c.args.lo c.args.hi s (said_of old s) (omega arith))
