use Rattle.std.proofs.Common.{ℕ, ◌-◌, ◌*◌, ◌%◌, ◌^◌, ◌≤◌, arith, ap, ◌∙◌}
use Rattle.dr_plain_senders.specs.Meaning.Words.{mark_bit, in_word}
use Rattle.dr_plain_senders.proofs.Bits.{few_in_word, low_mask, ones_at}
use Rattle.dr_plain_senders.proofs.plan.Plan.mark_bits.Goals as goal

pub returns : goal.returns
returns g c =
    let n = c.args.count in let b = mark_bit c.args.self.now c.args.sequence in let most : n ≤ in_word c.args.self.now c.args.sequence = c.requires.1 in
    let few = few_in_word c.args.self.now c.args.sequence in
    ap (λ (ones : ℕ). ones * 2 ^ c.mark_bit.result % 2 ^ 64) (low_mask n (omega arith))
    ∙ ap (λ (at : ℕ). (2 ^ n - 1) * 2 ^ at % 2 ^ 64) c.mark_bit.ensures.bit ∙ ones_at b n (omega arith)
