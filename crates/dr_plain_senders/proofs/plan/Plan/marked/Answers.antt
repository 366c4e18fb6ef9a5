use Rattle.std.proofs.Common.{◌≡◌, ℕ, ◌/◌, ◌%◌, ◌^◌, ◌<◌, ◌==◌, min, sym, subst, ap, ◌∙◌, arith}
use Rattle.std.specs.Int.{trailing_ones, w64}
use Rattle.dr_seq.proofs.Sizes.{size_positive}
use Rattle.dr_plain_senders.specs.Meaning.Words.{in_word}
use Rattle.dr_plain_senders.proofs.Bits.{Shows, counted_run, shows_word}
use Rattle.dr_plain_senders.proofs.plan.Plan.marked.Goals as goal

pub returns-clause-count : goal.returns-clause-count
returns-clause-count g c =
    let k = c.args.self.now in let s = c.args.sequence in let x = c.set_where-there.result in let word_fits = c.ranges.found.fits in
    let some_slot : 0 < k.size = rw (← c.self.view_is) (size_positive _ c.self.invariant.made.size) in
    let even : (c.round.result % 2 == 0) ≡ (s / k.size % 2 == 0) = rw (← c.self.view_is) (ap (λ (round : ℕ). round % 2 == 0) c.round.ensures) in
    let shows : Shows k s c.args.found x =
    subst (Shows k s c.args.found) (sym c.set_where-there.ensures) (shows_word k s c.args.found (c.round.result % 2 == 0) (omega arith) even) in
    let run : c.trailing_ones-run.result ≡ trailing_ones w64 (x / 2 ^ c.mark_bit.result) = c.trailing_ones-run.ensures in
    let count : c.min.result ≡ min c.trailing_ones-run.result c.in_word.result = c.min.ensures in
    count ∙ ap (λ (n : ℕ). min n c.in_word.result) run ∙ ap (min (trailing_ones w64 (x / 2 ^ c.mark_bit.result))) c.in_word.ensures.count
    ∙ ap (λ (bit : ℕ). min (trailing_ones w64 (x / 2 ^ bit)) (in_word k s)) c.mark_bit.ensures.bit
    ∙ counted_run k s c.args.found x some_slot (omega (arith, c.set_where-there.type_inv)) shows
