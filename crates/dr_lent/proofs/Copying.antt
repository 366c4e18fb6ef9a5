-- Events that are copied one after another, as a poll took them.
use Rattle.std.proofs.Common.{◌≡◌, ℕ, ◌+◌, ◌<◌, List, [], ◌∷◌, ◌++◌, length, map, set, take, drop, sym, ap, ◌∙◌, arith}
use Rattle.std.proofs.lemmas.List.{take_more_set, length-map, map-append}
use mathlib.Core.Option.{some}
use lib.ListN.{get_elem?}
use Rattle.dr_runs.proofs.Lists.{take_whole}
use Rattle.dr_lent.specs.declared.lent.Lent.{Lent}
use Rattle.dr_lent.proofs.Lists.{dropped_at, drop_seam, take_seam, take_more}

pub copied_more : {T : Type 0} (events out : List T) (first i : ℕ) (event : T) → take i out ≡ take i (drop first events) → i < length out
    → get_elem? events (first + i) ≡ some event → take (i + 1) (set out i event) ≡ take (i + 1) (drop first events)
copied_more events out first i event same lt at =
    take_more_set out i event lt ∙ ap (λ (xs : List _). xs ++ event ∷ []) same ∙ take_more (drop first events) i event (dropped_at events first i ∙ at)

module _ {T : Type 0} where
  abbrev pub events_of : List (Lent T) → List T
  events_of lents = map (λ (l : Lent T). l.event) lents

  -- the copies are what was taken
  pub copied_all : (received lents : List (Lent T)) (first count : ℕ) (front rest : List T) → first ≡ length received → length lents ≡ count
      → front ≡ take count (drop first (events_of (received ++ lents))) → events_of (received ++ lents) ≡ events_of received ++ take count (front ++ rest)
  copied_all received lents first count front rest next many copied =
      let event : Lent T → T = λ l. l.event in
      let both : events_of (received ++ lents) ≡ events_of received ++ events_of lents = map-append event received lents in
      let count_of : length (events_of lents) ≡ count = length-map lents event ∙ many in
      let behind : drop first (events_of (received ++ lents)) ≡ events_of lents =
      ap (λ (xs : List T). drop first xs) both ∙ drop_seam (events_of received) (events_of lents) first (length-map received event ∙ sym next) in
      let copies : front ≡ events_of lents = copied ∙ ap (λ (xs : List T). take count xs) behind ∙ take_whole (events_of lents) count (omega arith) in
      let front_is : take count (front ++ rest) ≡ events_of lents =
      ap (λ (xs : List T). take count (xs ++ rest)) copies ∙ take_seam (events_of lents) rest count count_of in
      both ∙ ap (λ (xs : List T). events_of received ++ xs) (sym front_is)
