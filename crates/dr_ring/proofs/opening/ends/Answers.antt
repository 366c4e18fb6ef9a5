use Rattle.std.proofs.Common.{ℕ, ◌<◌, ap, sym, subst, ◌∙◌, replicate}
use Rattle.dr_seq.proofs.Sizes.{size_positive}
use Rattle.dr_runs.proofs.Cuts.{cuts}
use Rattle.dr_ring.proofs.Making.{ruled_new, some_words}
use Rattle.dr_ring.proofs.opening.ends.Goals as goal

pub of_words-requires : goal.of_words-requires
of_words-requires c =
    ruled_new _ _ (c.as_slice.ensures.value ∙ c.in_ok-words.ensures.items_if_clones_equal (λ y same. same) ∙ ap (λ (n : ℕ). replicate n 0) c.words.ensures)
    (record { graph = c.requires.graph; some_slot = size_positive _ c.requires.size })

pub split_seat-second-requires : goal.split_seat-second-requires
split_seat-second-requires c =
    let same = c.in_ok-ring.ensures.ok in (
      c.in_ok-table.ensures.2 ∙ ap (λ r. r.table.shared.table_id) (sym (c.deref.ensures ∙ same)),
      subst (λ r. 0 < r.table.shared.table_id.words) (sym (c.deref.ensures ∙ same))
          (some_words c.args.plan _ _ c.in_ok-table.ensures.0 (c.as_slice.ensures.value ∙ c.in_ok-words.ensures.items_if_clones_equal (λ y same. same)
          ∙ ap (λ (n : ℕ). replicate n 0) c.words.ensures)),
      cuts _ _ _,
    )

pub split_seat-others-requires : goal.split_seat-others-requires
split_seat-others-requires c =
    let same = c.in_ok-ring.ensures.ok in (
      c.split_seat-second.ensures.3 ∙ c.in_ok-table.ensures.2 ∙ ap (λ r. r.table.shared.table_id) (sym (c.deref-2.ensures ∙ same)),
      subst (λ r. 0 < r.table.shared.table_id.words) (sym (c.deref-2.ensures ∙ same))
          (some_words c.args.plan _ _ c.in_ok-table.ensures.0 (c.as_slice.ensures.value ∙ c.in_ok-words.ensures.items_if_clones_equal (λ y same. same)
          ∙ ap (λ (n : ℕ). replicate n 0) c.words.ensures)),
      cuts _ _ _,
    )
