-- The least count of the finals, and what of it is remembered.
use Rattle.std.proofs.Common.{◌≡◌, ℕ, zero, suc, ◌+◌, ◌<◌, ◌≤◌, ◌≢◌, ◌^◌, inl, inr, Bool, false, List, [], ◌∷◌, arith}
use Rattle.std.proofs.Common.{refl, ap, sym, ◌∙◌, length, map, filter, slice_index, Option, Some, None, Vec, Global}
use Rattle.std.specs.Vec.{with_items}
use Rattle.std.proofs.lemmas.List.{with_items_is}
use Rattle.std.specs.List.{range_with_len}
use Rattle.std.specs.Prelude.{Contains, nat_le, nat_lt}
use Rattle.std.proofs.lemmas.Bool.{cases_Bool, lt-leb, le-leb, le-ltb, lt-ltb, leb-true, leb-false, ltb-false, ne_eqb, or_from}
use Rattle.dr_seq.proofs.Sizes.{size_at_most}
use Rattle.dr_graph.specs.Meaning.Graph.{flagged, is_final_without, finals_without, least_of, least_without, IsGated}
use Rattle.dr_graph.proofs.Gating.{filter_more, least_above_some}
use Rattle.dr_core.specs.Calls.CoreView.{CoreView, AreGating, retired_in, gate_of}
use Rattle.dr_meaning.specs.declared.command.Command.TheVariants.{Claim}
use Rattle.dr_meaning.specs.declared.command.Reply.TheVariants.{Refused}
use Rattle.dr_meaning.specs.declared.refusal.Refusal.{Refusal}
use Rattle.dr_meaning.specs.declared.refusal.Refusal.TheVariants.{Halted, Exhausted, NoRoom}
use Rattle.dr_meaning.specs.Meaning.Machine.{State, producers, next, gate, refusals}
use Rattle.dr_core.specs.Calls.Shows.{Shows, IsStep}
use Rattle.dr_core.specs.Inside.Availability.{claim_fault}
use Rattle.dr_core.specs.Inside.Fields.{IsWhole, IsSeen}
use Rattle.dr_meaning.proofs.Steps.{Refuses}
use Rattle.dr_core.proofs.CoreSteps.{refused_step, finals_least, gate_same}
use Rattle.dr_core.proofs.Shown.{same_next, same_halted}
use Rattle.dr_meaning.proofs.Leasts.{least_of-member}

-- two tests that agree on the handlers keep the same ones
filter_within : (p q : ℕ → Bool) (n : ℕ) → ((k : ℕ) → k < n → p k ≡ q k) → filter p (range_with_len 0 n) ≡ filter q (range_with_len 0 n)
filter_within p q zero same = refl
filter_within p q (suc n) same =
    filter_more p n
    ∙ (rw (filter_within p q n (λ k l. same k (omega arith)), same n (omega arith)) refl)
    ∙ sym (filter_more q n)

-- the flags give the least count of the handlers that gate
pub flagged_least : (graph : List (List ℕ)) (gone : ℕ → Bool) (flags : List Bool) (counts : ℕ → ℕ) → AreGating flags graph gone
    → least_of (map counts (filter (flagged flags) (range_with_len 0 (length flags)))) ≡ least_without graph gone counts
flagged_least graph gone flags counts gating =
    ap (λ n. least_of (map counts (filter (flagged flags) (range_with_len 0 n)))) gating.complete
    ∙ ap (λ hs. least_of (map counts hs)) (filter_within (flagged flags) (is_final_without graph gone) (length graph) gating.each)

-- flags that were lent and written stand in their vector
pub written_back : (kept : Vec Bool Global) (flags read gone : List Bool) (graph : List (List ℕ)) → length flags ≡ kept.len → read ≡ gone
    → AreGating flags graph (flagged read) → AreGating (with_items kept flags).items graph (flagged gone)
written_back kept flags read gone graph len same gating = rw (with_items_is kept flags len) (rw same at gating)

module _ {E : Type 0} (v : CoreView E) (whole : IsWhole v) where
  -- a count that no final is below is no more than the least one
  pub seen_below : (count : ℕ) → ((f : ℕ) → Contains (finals_without v.setup.upstreams (retired_in v)) f → count ≤ slice_index v.completed f) → count ≤ gate_of v
  seen_below count all =
      let one : IsGated v.setup.upstreams (retired_in v) (λ h. 0) whole.left.0 = whole.graph.gate (retired_in v) (λ h. 0) (λ h u has. omega arith) whole.left.0 whole.left.1 whole.left.2 in
      least_above_some (λ h. slice_index v.completed h) count one.last (finals_without v.setup.upstreams (retired_in v)) one.final all

  -- no final is below the least one
  pub seen_now : (count : ℕ) → count ≤ gate_of v → IsSeen v.setup (retired_in v) v.completed count
  seen_now count low f has =
      let least : gate_of v ≤ slice_index v.completed f = least_of-member (λ h. slice_index v.completed h) (finals_without v.setup.upstreams (retired_in v)) f has in
      omega arith

  -- the least count is a count of sequences, so no sum with a size wraps
  pub room_fits : v.setup.size + gate_of v < 2 ^ 63
  room_fits =
      let low : gate_of v ≤ slice_index v.completed whole.left.0 = finals_least v whole whole.left.0 whole.left.1 whole.left.2 in
      let took : slice_index v.completed whole.left.0 ≤ slice_index v.taken whole.left.0 = whole.took whole.left.0 in
      let front : slice_index v.taken whole.left.0 ≤ v.front = whole.in_front whole.left.0 in
      let next : v.front ≤ v.next = whole.front in
      let claimed : v.next ≤ v.setup.limit = whole.claimed in
      let limit : v.setup.limit ≤ 2 ^ 62 = whole.limit in
      let bound : v.setup.size ≤ 65536 = size_at_most v.setup.size whole.size in
      omega arith

-- what refuses a claim, where its producer and its count are good
module _ {E : Type 0} (v : CoreView E) (p n : ℕ) (producer : p < producers v.setup.mode) (some : n ≢ 0) (fits : n ≤ v.setup.size) where
  -- the tests before those of the state
  past : (m : State E) → Shows v m → (r : Refusal) → Refuses r ((m.halted, Halted) ∷ (nat_lt v.setup.limit (next m + n), Exhausted) ∷ (nat_lt (v.setup.size + gate v.setup m) (next m + n), NoRoom) ∷ []) → Refuses r (refusals v.setup m (Claim p n))
  past m sh r h = inr (lt-leb _ _ producer, inr (or_from _ _ (ne_eqb n 0 some) (le-ltb _ _ fits), h))

  pub claim_refused : (r : Refusal) → claim_fault v n ≡ Some r → IsStep v (Claim p n) (Refused r) [] v
  claim_refused r e =
      refused_step v (Claim p n) r (λ m sh. let here : next m ≡ v.next = same_next sh in past m sh r (elim (cases_Bool v.halted) [
        | inl halted ↦ inl (same_halted sh ∙ halted, (let is : ◌≡◌ {A = Option Refusal} (Some Halted) (Some r) = rw halted at e in cc))
        | inr going ↦ inr (
          same_halted sh ∙ going,
          elim (cases_Bool (nat_lt v.setup.limit (v.next + n))) [
            | inl past_limit ↦ inl (rw here past_limit, (let is : ◌≡◌ {A = Option Refusal} (Some Exhausted) (Some r) = rw (going, past_limit) at e in cc))
            | inr within ↦ inr (
              rw here within,
              elim (cases_Bool (nat_le (v.next + n) (v.setup.size + gate_of v))) [
                | inl fitting ↦ absurd (let is : ◌≡◌ {A = Option Refusal} None (Some r) = rw (going, within, fitting) at e in cc)
                | inr full ↦ inl (rw (here, gate_same v m sh) (lt-ltb _ _ (leb-false _ _ full)), (let is : ◌≡◌ {A = Option Refusal} (Some NoRoom) (Some r) = rw (going, within, full) at e in cc))
              ],
            )
          ],
        )
      ]))

-- a claim that nothing refuses
pub claim_accepted : {E : Type 0} (v : CoreView E) (n : ℕ) → claim_fault v n ≡ None
    → (v.halted ≡ false) × (v.next + n ≤ v.setup.limit) × (v.next + n ≤ v.setup.size + gate_of v)
claim_accepted v n e = elim (cases_Bool v.halted) [
  | inl halted ↦ absurd (let is : ◌≡◌ {A = Option Refusal} (Some Halted) None = rw halted at e in cc)
  | inr going ↦ elim (cases_Bool (nat_lt v.setup.limit (v.next + n))) [
    | inl past_limit ↦ absurd (let is : ◌≡◌ {A = Option Refusal} (Some Exhausted) None = rw (going, past_limit) at e in cc)
    | inr within ↦ elim (cases_Bool (nat_le (v.next + n) (v.setup.size + gate_of v))) [
      | inl fitting ↦ (going, ltb-false _ _ within, leb-true _ _ fitting)
      | inr full ↦ absurd (let is : ◌≡◌ {A = Option Refusal} (Some NoRoom) None = rw (going, within, full) at e in cc)
    ]
  ]
]

-- where none of the tests refuses it
pub claim_fault-none : {E : Type 0} (v : CoreView E) (n : ℕ) → v.halted ≡ false → v.next + n ≤ v.setup.limit → v.next + n ≤ v.setup.size + gate_of v → claim_fault v n ≡ None
claim_fault-none v n going limit room = rw (going, le-ltb _ _ limit, le-leb _ _ room)
