-- The number of a field, a digit at a time.
use Rattle.std.proofs.Common.{◌≡◌, ◌≤◌, ◌<◌, ◌+◌, ◌*◌, ◌-◌, ◌^◌, ◌&&◌, ℕ, Bool, true, false, List, [], ◌∷◌, Option, Some, None, refl}
use Rattle.std.proofs.Common.{sym, ap, ◌∙◌, arith, suc, drop, fold, get_or, if◌then◌else◌, nat_lt, length, drop-cons, inl, inr}
use Rattle.std.specs.List.{list_all}
use Rattle.std.proofs.lemmas.Bool.{cases_Bool, le-ltb, lt-ltb}
use Rattle.std.proofs.lemmas.List.{drop_all}
use Rattle.std.specs.Prelude.{cond}
use Rattle.dr_files.specs.Numbers.{is_digit, number_in}

-- the number that bytes say after digits of value n
abbrev pub number_from : ℕ → List ℕ → Option ℕ
number_from n [] = if nat_lt n (2 ^ 64) then Some n else None
number_from n (byte ∷ bytes) = if is_digit byte then number_from (n * 10 + (byte - 48)) bytes else None

cond_same : {A : Type 0} (b : Bool) (x : A) → cond b x x ≡ x
cond_same true x = refl
cond_same false x = refl

-- what is too large stays too large
pub too_large : (n : ℕ) (bs : List ℕ) → 2 ^ 64 ≤ n → number_from n bs ≡ None
too_large n [] h = rw (le-ltb n (2 ^ 64) h) refl
too_large n (b ∷ bs) h =
    let more : 2 ^ 64 ≤ n * 10 + (b - 48) = omega arith in
    rw (too_large (n * 10 + (b - 48)) bs more) (cond_same (is_digit b) None)

-- a digit at a time, and as a whole
whole : (n : ℕ) (bs : List ℕ) → number_from n bs
    ≡ (if list_all is_digit bs && nat_lt (fold (λ m b. m * 10 + (b - 48)) n bs) (2 ^ 64) then Some (fold (λ m b. m * 10 + (b - 48)) n bs) else None)
whole n [] = refl
whole n (b ∷ bs) = elim (cases_Bool (is_digit b)) [
  | inl digit ↦ rw digit (whole (n * 10 + (b - 48)) bs)
  | inr other ↦ rw other refl
]

digits : (bs : List ℕ) → 0 < length bs → number_in bs ≡ number_from 0 bs
digits [] h = absurd (omega arith)
digits (b ∷ bs) h = sym (whole 0 (b ∷ bs))

-- a digit that passes the bound
pub over : (field : List ℕ) (n i : ℕ) → number_from 0 field ≡ number_from n (drop i field) → i < length field → is_digit (get_or field i 0) ≡ true
    → 2 ^ 64 ≤ n * 10 + (get_or field i 0 - 48) → None ≡ number_in field
over field n i inv lt digit large =
    let some : 0 < length field = omega arith in
    let cut : drop i field ≡ get_or field i 0 ∷ drop (suc i) field = drop-cons field i 0 lt in
    let next : number_from n (get_or field i 0 ∷ drop (suc i) field) ≡ None = rw digit (too_large (n * 10 + (get_or field i 0 - 48)) (drop (suc i) field) large) in
    sym (digits field some ∙ inv ∙ ap (number_from n) cut ∙ next)

-- the end of the digits
pub ended : (field : List ℕ) (n i : ℕ) → number_from 0 field ≡ number_from n (drop i field) → length field ≤ i → 0 < length field → n < 2 ^ 64
    → Some n ≡ number_in field
ended field n i inv end some fits =
    let cut : drop i field ≡ [] = drop_all i field end in
    let last : number_from n [] ≡ Some n = rw (lt-ltb n (2 ^ 64) fits) refl in
    sym (digits field some ∙ inv ∙ ap (number_from n) cut ∙ last)
