-- What the calls of a sender of bytes leave in the cells: as many bytes as before.
use Rattle.std.proofs.Common.{◌≡◌, ℕ, zero, suc, ◌%◌, Bool, true, ◌&&◌, List, [], ◌∷◌, length, set, map, refl, sym, ap, ◌∙◌, subst}
use Rattle.std.specs.Prelude.{Option, None, Some, Result, Ok, Err, replicate, slice_index_or, eqb}
use Rattle.std.proofs.lemmas.Bool.{and_parts, eqb-true, eq-eqb}
use Rattle.std.proofs.lemmas.List.{length-replicate}
use Rattle.std.proofs.lemmas.Option.{none-some, same_Some}
use Rattle.dr_meaning.specs.declared.command.Claimed.{Claimed}
use Rattle.dr_meaning.specs.declared.refusal.Refusal.{Refusal}
use Rattle.dr_plain.specs.Calls.Ends.{SenderEnd}
use Rattle.dr_plain.specs.Calls.Sending.{ClaimCall, UpdateCall, PublishCall, CloseCall}
use Rattle.dr_c.specs.Lengths.{all_have}

both_true : (x y : Bool) → x ≡ true → y ≡ true → (x && y) ≡ true
both_true x y is also = ap (λ (b : Bool). b && y) is ∙ also

one_has : (n : ℕ) (bytes : List ℕ) → length bytes ≡ n → eqb (length bytes) n ≡ true
one_has n bytes same = eq-eqb (length bytes) n same

-- one more event of so many bytes lies in its cell
pub all_have_set : (n : ℕ) (cells : List (Option (List ℕ))) (i : ℕ) (bytes : List ℕ) → all_have n cells ≡ true → length bytes ≡ n
    → all_have n (set cells i (Some bytes)) ≡ true
all_have_set n [] i bytes all same = all
all_have_set n (None ∷ cells) zero bytes all same = both_true (eqb (length bytes) n) (all_have n cells) (one_has n bytes same) all
all_have_set n (Some x ∷ cells) zero bytes all same =
    both_true (eqb (length bytes) n) (all_have n cells) (one_has n bytes same) (and_parts (eqb (length x) n) (all_have n cells) all).1
all_have_set n (None ∷ cells) (suc i) bytes all same = all_have_set n cells i bytes all same
all_have_set n (Some x ∷ cells) (suc i) bytes all same =
    let parts = and_parts (eqb (length x) n) (all_have n cells) all in
    both_true (eqb (length x) n) (all_have n (set cells i (Some bytes))) parts.0 (all_have_set n cells i bytes parts.1 same)

-- what lies in a cell has so many bytes
pub has_at : (n : ℕ) (cells : List (Option (List ℕ))) (i : ℕ) (bytes : List ℕ) → all_have n cells ≡ true → slice_index_or cells i None ≡ Some bytes
    → length bytes ≡ n
has_at n [] i bytes all is = absurd (none-some bytes is)
has_at n (None ∷ cells) zero bytes all is = absurd (none-some bytes is)
has_at n (Some x ∷ cells) zero bytes all is =
    ap (λ (ys : List ℕ). length ys) (sym (same_Some x bytes is)) ∙ eqb-true (length x) n (and_parts (eqb (length x) n) (all_have n cells) all).0
has_at n (None ∷ cells) (suc i) bytes all is = has_at n cells i bytes all is
has_at n (Some x ∷ cells) (suc i) bytes all is = has_at n cells i bytes (and_parts (eqb (length x) n) (all_have n cells) all).1 is

-- so have the cells of a new ring
pub all_have_new : (n count : ℕ) (bytes : List ℕ) → length bytes ≡ n → all_have n (map (λ (event : List ℕ). Some event) (replicate count bytes)) ≡ true
all_have_new n zero bytes same = refl
all_have_new n (suc count) bytes same =
    both_true (eqb (length bytes) n) (all_have n (map (λ (event : List ℕ). Some event) (replicate count bytes))) (one_has n bytes same)
    (all_have_new n count bytes same)

pub zeros_fit : (n size : ℕ) (cells : List (Option (List ℕ))) → cells ≡ map (λ (event : List ℕ). Some event) (replicate size (replicate n 0))
    → all_have n cells ≡ true
zeros_fit n size cells new =
    subst (λ (cs : List (Option (List ℕ))). all_have n cs ≡ true) (sym new) (all_have_new n size (replicate n 0) (length-replicate n 0))

same_cells : (n : ℕ) (cells cells' : List (Option (List ℕ))) → cells' ≡ cells → all_have n cells ≡ true → all_have n cells' ≡ true
same_cells n cells cells' same all = subst (λ (cs : List (Option (List ℕ))). all_have n cs ≡ true) (sym same) all

pub claim_keeps : (bytes n : ℕ) (e e' : SenderEnd (List ℕ)) (result : Result Claimed Refusal) → ClaimCall e n e' result → all_have bytes e.cells ≡ true
    → all_have bytes e'.cells ≡ true
claim_keeps bytes n e e' result call all = same_cells bytes e.cells e'.cells call.1.cells all

pub publication_keeps : (bytes lo hi : ℕ) (e e' : SenderEnd (List ℕ)) (result : Result (Unit {0}) Refusal) → PublishCall e lo hi e' result
    → all_have bytes e.cells ≡ true
    → all_have bytes e'.cells ≡ true
publication_keeps bytes lo hi e e' result call all = same_cells bytes e.cells e'.cells call.1.cells all

pub close_keeps : (bytes : ℕ) (e e' : SenderEnd (List ℕ)) (result : Result (Unit {0}) Refusal) → CloseCall e e' result → all_have bytes e.cells ≡ true
    → all_have bytes e'.cells ≡ true
close_keeps bytes e e' result call all = same_cells bytes e.cells e'.cells call.3 all

-- A change that puts bytes in the place of as many, where each cell has so many.
module _ (n : ℕ) (bytes : List ℕ) (C : List ℕ → List ℕ → Type 0) (sets : (was now : List ℕ) → C was now → length was ≡ length bytes → now ≡ bytes)
    (same : length bytes ≡ n)
    (e : SenderEnd (List ℕ)) (s : ℕ) (e' : SenderEnd (List ℕ)) where
  pub update_writes : (result : Result (Unit {0}) Refusal) → all_have n e.cells ≡ true → UpdateCall C e s e' result
      → UpdateCall (λ was now. now ≡ bytes) e s e' result
  update_writes (Ok done) all call =
      (call.0, call.1, call.2, sets call.0 call.1 call.3 (has_at n e.cells (s % length e.cells) call.0 all call.2 ∙ sym same), call.4)
  update_writes (Err refusal) all call = call

  pub update_keeps : (result : Result (Unit {0}) Refusal) → all_have n e.cells ≡ true → UpdateCall C e s e' result → all_have n e'.cells ≡ true
  update_keeps (Ok done) all call =
      let now = call.1 in let i : ℕ = s % length e.cells in
      let written : now ≡ bytes = sets call.0 now call.3 (has_at n e.cells i call.0 all call.2 ∙ sym same) in
      same_cells n (set e.cells i (Some now)) e'.cells call.4.1.cells (all_have_set n e.cells i now all (ap (λ (ys : List ℕ). length ys) written ∙ same))
  update_keeps (Err refusal) all call = same_cells n e.cells e'.cells (ap (λ (E : SenderEnd (List ℕ)). E.cells) call.1) all
