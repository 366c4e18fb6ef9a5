-- The events of a list, which are sent one after another.
use Rattle.std.proofs.Common.{◌≡◌, ◌<◌, ◌≤◌, ◌+◌, ℕ, zero, suc, List, [], ◌∷◌, ◌++◌, length, sym, ap, subst, ◌∙◌, arith}
use mathlib.Core.Option.{some, some-ne-none}
use lib.ListN.{get_elem?}
use denote.Ref.{MutBor}
use denote.Param.Members.{Shared}
use Rattle.dr_meaning.specs.Calls.Calling.{InPlaceInletCall}
use Rattle.dr_meaning.specs.Calls.Filling.{FillsOne}
use Rattle.dr_meaning.specs.declared.refusal.Refusal.{Refusal}
use Rattle.dr_meaning.specs.Calls.InPlaceInlets.{Sending}
use Rattle.dr_runs.proofs.Lists.{same_lists}
use Rattle.dr_disruptor.specs.Sending.{Fills, IsNth, SendsAll, StopsAfter}

module _ {E : Type 0} (all : List E) where
  -- each event of some that were filled is that of the list at its place
  filled_at : (k : ℕ) (xs : List E) → Fills (IsNth all) k xs → (i : ℕ) (x : E) → get_elem? xs i ≡ some x → get_elem? all (k + i) ≡ some x
  filled_at k [] fills i x at = absurd (some-ne-none x (sym at))
  filled_at k (y ∷ xs) fills zero x at = let here : k ≡ k + 0 = omega arith in subst (λ n. get_elem? all n ≡ some x) here (fills.1 ∙ at)
  filled_at k (y ∷ xs) fills (suc i) x at =
      let next : k + 1 + i ≡ k + suc i = omega arith in subst (λ n. get_elem? all n ≡ some x) next (filled_at (k + 1) xs fills.2 i x at)

  -- as many as it has are the list
  all_of : (xs : List E) → Fills (IsNth all) 0 xs → length xs ≡ length all → all ≡ xs
  all_of xs fills many = same_lists all xs (sym many) (λ i x at.
      let here : 0 + i ≡ i = omega arith in subst (λ n. get_elem? all n ≡ some x) here (filled_at 0 xs fills i x at))

  module _ {F : Type 0} (fn : Shared F (MutBor E × (ℕ × Unit {0})) (Unit {0} × (MutBor E × Unit {0}))) (fill : F)
      (copies : (k : ℕ) (shown left : MutBor E) → fn.post fill (shown, (k, tt)) (tt, (left, tt)) → k < length all → get_elem? all k ≡ some left.now) where
    -- a closure that copies the events of the list fills by them
    fills_as : (k : ℕ) (xs : List E) → k + length xs ≤ length all → Fills (FillsOne fn fill) k xs → Fills (IsNth all) k xs
    fills_as k [] within fills = tt
    fills_as k (x ∷ xs) within fills =
        let one = fills.1 in
        let same : one.left.now ≡ x = one.leaves in (
          fills.0,
          subst (λ event. get_elem? all k ≡ some event) same (copies k one.shown one.left one.met (omega arith)),
          fills_as (k + 1) xs (omega arith) fills.2,
        )

    sends_as : (n : ℕ) (old new : List E) → n ≤ length all → SendsAll (Fills (FillsOne fn fill) 0) n old new → SendsAll (Fills (IsNth all) 0) n old new
    sends_as n old new within h =
        let many = h.many in
        record { events = h.events; many = h.many; fills = fills_as 0 h.events (omega arith) h.fills; published = h.published }

    -- so all of it is sent
    pub sends_list : (n : ℕ) (old new : List E) → n ≡ length all → SendsAll (Fills (FillsOne fn fill) 0) n old new → new ≡ old ++ all
    sends_list n old new is h =
        let s = sends_as n old new (omega arith) h in
        s.published ∙ ap (λ l. old ++ l) (sym (all_of s.events s.fills (s.many ∙ is)))

    -- or the beginning of it, up to a claim that was refused
    pub stops_list : {I K : Type 0} (kept : I → K) (sending : I → Sending E) (does : I → InPlaceInletCall → I → Type 0) (n cut : ℕ) (r : Refusal) (old new : I)
        → n ≡ length all → StopsAfter (FillsOne fn fill) kept sending does n cut r old new → StopsAfter (IsNth all) kept sending does (length all) cut r old new
    stops_list kept sending does n cut r old new is h =
        let some = h.some in
        subst (λ m. StopsAfter (IsNth all) kept sending does m cut r old new) is (record {
          done = h.done;
          between = h.between;
          some = h.some;
          place = h.place;
          sent = sends_as h.done (sending old).published (sending h.between).published (omega arith) h.sent;
          claims = h.claims;
          refused = h.refused;
        })
