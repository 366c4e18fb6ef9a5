-- The events of sequences that are all written.
use Rattle.std.proofs.Common.{◌≡◌, ℕ, suc, ◌+◌, ◌-◌, ◌<◌, ◌≤◌, List, [], ◌∷◌, ◌++◌, length, get_or, map, take, drop, Option, Some, None, unwrap_or}
use Rattle.std.proofs.Common.{sym, refl, ap, ◌∙◌, subst, arith}
use Rattle.std.specs.List.{cons_option}
use Rattle.std.proofs.lemmas.List.{length-map, length-take, get_or-map, get_or-take, take-append-drop}
use Rattle.dr_seq.specs.declared.event.Event.{Event}
use Rattle.dr_meaning.specs.Calls.Ends.{written_of}
use Rattle.dr_ring.specs.declared.record.SenderRecord.{SenderRecord}
use Rattle.dr_ring.specs.Meaning.Records.{AreWritten}

-- each of the first n has an event
abbrev pub HaveEvents : List (Option Event) → ℕ → Type 0
HaveEvents os n = (i : ℕ) → i < n → (event : Event) × (get_or os i None ≡ Some event)

back_one : (o : Option Event) (events : List Event) (event : Event) → o ≡ Some event
    → map (λ event. Some event) (cons_option o events) ≡ o ∷ map (λ event. Some event) events
back_one o events event is = subst (λ (x : Option Event). map (λ event. Some event) (cons_option x events) ≡ x ∷ map (λ event. Some event) events) (sym is) refl

back : (os : List (Option Event)) → HaveEvents os (length os) → map (λ event. Some event) (written_of os) ≡ os
back [] all = refl
back (o ∷ os) all =
    let here = all 0 (omega arith) in
    back_one o (written_of os) here.0 here.1 ∙ ap (λ (xs : List (Option Event)). o ∷ xs) (back os (λ i lt. all (suc i) (omega arith)))

module _ (os : List (Option Event)) (n : ℕ) (all : HaveEvents os n) (within : n ≤ length os) where
  pub written_back : map (λ event. Some event) (written_of (take n os)) ≡ take n os
  written_back = back (take n os) (λ i lt. (let below : i < n = omega (arith, length-take n os) in
      let here = all i below in (here.0, get_or-take n os i None below ∙ here.1)))

  pub written_count : length (written_of (take n os)) ≡ n
  written_count = sym (length-map (written_of (take n os)) (λ event. Some event)) ∙ ap length written_back ∙ omega (arith, length-take n os)

  pub written_at : (i : ℕ) (d event : Event) → i < n → get_or os i None ≡ Some event → get_or (written_of (take n os)) i d ≡ event
  written_at i d event lt is =
      let count = written_count in
      let mapped : get_or (map (λ event. Some event) (written_of (take n os))) i None ≡ Some (get_or (written_of (take n os)) i d) =
      get_or-map (λ event. Some event) (written_of (take n os)) i d None (omega arith) in
      let there : Some (get_or (written_of (take n os)) i d) ≡ Some event =
      sym mapped ∙ ap (λ (xs : List (Option Event)). get_or xs i None) written_back ∙ get_or-take n os i None lt ∙ is in
      ap (λ (o : Option Event). unwrap_or o d) there

  -- what is written stays when it is published
  pub published_same : map (λ event. Some event) (written_of (take n os)) ++ drop n os ≡ os
  published_same = ap (λ (xs : List (Option Event)). xs ++ drop n os) written_back ∙ take-append-drop n os

-- the open sequences of a sender below n
pub open_events : (r : SenderRecord) (n : ℕ) → AreWritten r n → HaveEvents r.sent.pending (n - length r.sent.published)
open_events r n all i below =
    let old = length r.sent.published in let here = all (old + i) (omega arith) (omega arith) in
    let same : old + i - old ≡ i = omega arith in (here.0, ap (λ (j : ℕ). get_or r.sent.pending j None) (sym same) ∙ here.1)
