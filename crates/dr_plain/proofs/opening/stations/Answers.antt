use Rattle.std.proofs.Common.{ℕ, ◌<◌, [], map, ap, sym, subst, ◌∙◌, replicate}
use Rattle.atomic_table.specs.Seated.{TableId}
use Rattle.dr_seq.proofs.Sizes.{size_positive}
use Rattle.dr_cells.specs.Tokens.{no_token}
use Rattle.dr_runs.specs.Seats.{first_view, rest_view}
use Rattle.dr_lent.proofs.Going.{cut_on}
use Rattle.dr_plain.specs.Meaning.Shape.{handlers_of}
use Rattle.dr_plain.specs.Meaning.Moments.{fresh_receivers}
use Rattle.dr_plain.specs.declared.record.ReceiverRecord.{ReceiverRecord}
use Rattle.dr_plain.specs.Calls.Making.{receiver_at_ring}
use Rattle.dr_plain.specs.Inside.Seats.{Sitting}
use Rattle.dr_plain.specs.Inside.Stations.{sender_stand, halter_end}
use Rattle.dr_plain.proofs.Making.{ruled_new, some_words}
use Rattle.dr_plain.proofs.opening.stations.Goals as goal

pub new-requires : goal.new-requires
new-requires g c =
    ruled_new _ _ _ (c.as_slice.ensures.value ∙ c.in_ok-words.ensures.items_if_clones_equal (λ y same. same) ∙ ap (λ (n : ℕ). replicate n 0) c.words.ensures)
    (c.in_ok-slots.ensures ∙ ap (λ (n : ℕ). replicate n no_token) c.slots.ensures) (record { graph = c.requires.graph; some_slot = size_positive _ c.requires.size })

pub split_seat-second-requires : goal.split_seat-second-requires
split_seat-second-requires g c =
    let same = c.in_ok-ring.ensures.0 in let told = c.in-Ok.ensures.ok in
    let at = sym (ap (λ r. r.table.shared.table_id) c.deref.ensures ∙ (λ i. (same i).shared.table_id)) in (
      told.2 ∙ at,
      subst (λ (z : TableId). 0 < z.words) at
          (some_words c.args.plan _ _ told.0
          (c.as_slice.ensures.value ∙ c.in_ok-words.ensures.items_if_clones_equal (λ y same. same) ∙ ap (λ (n : ℕ). replicate n 0) c.words.ensures)),
      cut_on _ _ _,
    )

pub split_seat-others-requires : goal.split_seat-others-requires
split_seat-others-requires g c =
    let same = c.in_ok-ring.ensures.0 in let told = c.in-Ok.ensures.ok in
    let at = sym (ap (λ r. r.table.shared.table_id) c.deref-2.ensures ∙ (λ i. (same i).shared.table_id)) in (
      c.split_seat-second.ensures.3 ∙ told.2 ∙ at,
      subst (λ (z : TableId). 0 < z.words) at
          (some_words c.args.plan _ _ told.0
          (c.as_slice.ensures.value ∙ c.in_ok-words.ensures.items_if_clones_equal (λ y same. same) ∙ ap (λ (n : ℕ). replicate n 0) c.words.ensures)),
      cut_on _ _ _,
    )

pub returns : goal.returns
returns g c =
    let second = c.split_seat-second.ensures in let others = c.split_seat-others.ensures in
    let first = c.in-Ok.ensures.ok.4 in let plan = c.in_ok-ring.ensures.1 in
    let rest = second.4 ∙ ap (λ (m : Sitting g.row.T.Denot). (rest_view m.0, [])) first in
    let halts = others.0 ∙ second.3 ∙ sym second.0 in let receives = others.3 ∙ second.3 ∙ sym second.0 in
    let halter = others.2 ∙ ap (λ (m : Sitting g.row.T.Denot). (first_view m.0, m.1)) rest in record {
      sender = ap (λ (m : Sitting g.row.T.Denot). sender_stand c.split_seat-second.new.seat.table_id m)
          (second.2 ∙ ap (λ (m : Sitting g.row.T.Denot). (first_view m.0, m.1)) first);
      receivers = c.in_ok-receivers.ensures
          ∙ (λ i. map (λ (r : ReceiverRecord g.row.T.Denot). receiver_at_ring (receives i) r) (fresh_receivers (plan i) 0 (handlers_of (plan i))));
      halter = λ i. halter_end (halts i) (halter i);
    }
