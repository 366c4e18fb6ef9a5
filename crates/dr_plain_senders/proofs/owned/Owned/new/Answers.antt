use Rattle.std.proofs.Common.{◌≡◌, ℕ, false, replicate, map, sym, ap, ◌∙◌, arith, subst}
use Rattle.dr_seq.specs.Size.{IsSize}
use Rattle.dr_plain_senders.specs.declared.owned.Mark.{Mark}
use Rattle.dr_plain_senders.specs.Inside.Owned.{claimed_by, written_by, published_by}
use Rattle.dr_plain_senders.proofs.Marking.{map_all, plain_is, plain_fits}
use Rattle.dr_plain_senders.proofs.owned.Owned.new.Goals as goal

pub invariant_of-result : goal.invariant_of-result
invariant_of-result c =
    plain_fits _ c.args.size 0 (sym c.in_ok-marks.marks.ok.0 ∙ c.in_ok-marks.ensures.len ∙ c.get.ensures.value)
    (subst IsSize c.get.ensures.value c.get.ensures.size) (omega arith)

pub returns : goal.returns
returns c =
    let none : Mark = record { entry = 0; is_written = false; is_published = false } in
    let all : c.in_ok-marks.marks.items ≡ replicate c.args.size none = c.in_ok-marks.ensures.items_if_clones_equal (λ y e. e)
    ∙ ap (λ (n : ℕ). replicate n none) c.get.ensures.value in
    let row : (f : Mark → ℕ) → map f c.in_ok-marks.marks.items ≡ replicate c.args.size (f none) = λ f. ap (map f) all ∙ map_all f none c.args.size in
    plain_is c.in_ok-marks.marks.items 0 ∙ (λ i. record { claimed = row claimed_by i; written = row written_by i; published = row published_by i })
