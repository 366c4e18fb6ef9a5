-- Sequences that are written as they lie, one after another.
use Rattle.std.proofs.Common.{◌≡◌, ℕ, zero, suc, ◌+◌, List, [], ◌∷◌, ◌++◌, sym, ap, subst, ◌∙◌, arith}
use Rattle.std.specs.Prelude.{Result, Ok, Err}
use Rattle.std.specs.List.{FoldsTo, range_with_len}
use Rattle.std.proofs.lemmas.Fn.{FoldsTo-push}
use Rattle.dr_seq.specs.declared.event.Event.{Event}
use Rattle.dr_meaning.specs.declared.refusal.Refusal.{Refusal}
use Rattle.dr_plain_senders.specs.Calls.Ends.{SenderEnd}
use Rattle.dr_plain_senders.specs.Calls.Writing.{UpdateCall}

range_more : (lo n : ℕ) → range_with_len lo (suc n) ≡ range_with_len lo n ++ (lo + n) ∷ []
range_more lo zero = ap (λ (k : ℕ). k ∷ []) (let e : lo ≡ lo + 0 = omega arith in e)
range_more lo (suc n) =
    ap (λ (ks : List ℕ). lo ∷ ks)
    (range_more (lo + 1) n ∙ ap (λ (k : ℕ). range_with_len (lo + 1) n ++ k ∷ []) (let e : lo + 1 + n ≡ lo + suc n = omega arith in e))

-- some steps for the sequences from lo on up to before k
abbrev pub Upto : {S : Type 0} → (S → ℕ → S → Type 0) → S → ℕ → ℕ → S → Type 0
Upto R s lo k a = (n : ℕ) × (k ≡ lo + n) × FoldsTo R s (range_with_len lo n) a

pub one_more : {S : Type 0} (R : S → ℕ → S → Type 0) (s a b : S) (lo k : ℕ) → Upto R s lo k a → R a k b → Upto R s lo (k + 1) b
one_more R s a b lo k before here =
    let n = before.0 in (
      suc n,
      (let at = before.1 in omega arith),
      subst (λ (ks : List ℕ). FoldsTo R s ks b) (sym (range_more lo n))
          (FoldsTo-push R s (range_with_len lo n) a (lo + n) b before.2 (subst (λ (j : ℕ). R a j b) before.1 here)),
    )

-- a change that leaves what lies there, by one of several senders
pub update_leaves : (C : Event → Event → Type 0) → ((was now : Event) → C was now → now ≡ was) → (e : SenderEnd Event) (s : ℕ) (e' : SenderEnd Event)
    (result : Result (Unit {0}) Refusal) → UpdateCall C e s e' result → UpdateCall (λ was now. now ≡ was) e s e' result
update_leaves C leaves e s e' (Ok done) call = (call.0, call.1, call.2, leaves call.0 call.1 call.3, call.4)
update_leaves C leaves e s e' (Err refusal) call = call
