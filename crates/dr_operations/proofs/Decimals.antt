-- The number of decimal digits, and that they stand plainly in a record.
use Rattle.std.proofs.Common.{◌&&◌, None, if◌then◌else◌, ◌≡◌, ◌≤◌, ◌<◌, ◌+◌, ◌-◌, ◌*◌, ◌/◌, ◌%◌, ◌^◌, ℕ, Bool, true, List, [], ◌∷◌, ◌++◌, length, fold, Some, nat_lt, decimal, refl, ap, ◌∙◌, arith, length-append}
use Rattle.std.specs.List.{list_all}
use Rattle.std.specs.Prelude.{nat_le}
use Rattle.std.proofs.lemmas.Bool.{and_from, and_parts, le-leb, leb-true, lt-ltb}
use Rattle.std.proofs.lemmas.Fmt.{decimal_by_steps}
use Rattle.dr_files.specs.Numbers.{is_digit, number_in, value_of}

-- each byte is above a comma, and so no quote and no line's end either
abbrev pub IsPlain : List ℕ → Type 0
IsPlain field = (0 < length field) × (list_all (nat_lt 44) field ≡ true)

record IsNumber (n : ℕ) (field : List ℕ) : Type 0 where
  pub some : 0 < length field
  pub digits : list_all is_digit field ≡ true
  pub value : value_of field ≡ n

digit : (d : ℕ) → d < 10 → is_digit (48 + d) ≡ true
digit d less = and_from (nat_le 48 (48 + d)) (nat_le (48 + d) 57) (le-leb 48 (48 + d) (omega arith)) (le-leb (48 + d) 57 (omega arith))

all_push : (test : ℕ → Bool) (xs : List ℕ) (x : ℕ) → list_all test xs ≡ true → test x ≡ true → list_all test (xs ++ x ∷ []) ≡ true
all_push test [] x all one = and_from (test x) true one refl
all_push test (y ∷ xs) x all one =
    let parts = and_parts (test y) (list_all test xs) all in
    and_from (test y) (list_all test (xs ++ x ∷ [])) parts.0 (all_push test xs x parts.1 one)

fold_push : (f : ℕ → ℕ → ℕ) (a : ℕ) (xs : List ℕ) (x : ℕ) → fold f a (xs ++ x ∷ []) ≡ f (fold f a xs) x
fold_push f a [] x = refl
fold_push f a (y ∷ xs) x = fold_push f (f a y) xs x

one_digit : (n : ℕ) → n < 10 → IsNumber n ((48 + n) ∷ [])
one_digit n less = record {
  some = omega arith;
  digits = and_from (is_digit (48 + n)) true (digit n less) refl;
  value = let same : 0 * 10 + ((48 + n) - 48) ≡ n = omega arith in same;
}

digit_more : (n : ℕ) (field : List ℕ) → 10 ≤ n → IsNumber (n / 10) field → IsNumber n (field ++ (48 + n % 10) ∷ [])
digit_more n field many is =
    let less : n % 10 < 10 = omega arith in
    let again : n / 10 * 10 + (48 + n % 10 - 48) ≡ n = omega arith in
    record {
      some = let longer = length-append field ((48 + n % 10) ∷ []) in omega (arith, longer, is.some);
      digits = all_push is_digit field (48 + n % 10) is.digits (digit (n % 10) less);
      value = fold_push (λ m b. m * 10 + (b - 48)) 0 field (48 + n % 10) ∙ ap (λ m. m * 10 + (48 + n % 10 - 48)) is.value ∙ again;
    }

is_number : (n : ℕ) → n < 2 ^ 64 → IsNumber n (decimal n)
is_number n fits = decimal_by_steps IsNumber one_digit digit_more n fits

chosen : (all : Bool) (value n : ℕ) → all ≡ true → value ≡ n → n < 2 ^ 64 → (if all && nat_lt value (2 ^ 64) then Some value else None) ≡ Some n
chosen all value n digits is fits = rw (digits, is, lt-ltb n (2 ^ 64) fits) refl

read_as : (n : ℕ) (field : List ℕ) → n < 2 ^ 64 → IsNumber n field → number_in field ≡ Some n
read_as n [] fits is = absurd (omega (arith, is.some))
read_as n (b ∷ field) fits is = chosen (list_all is_digit (b ∷ field)) (value_of (b ∷ field)) n is.digits is.value fits

-- what is written of a number reads as the number
pub number_back : (n : ℕ) → n < 2 ^ 64 → number_in (decimal n) ≡ Some n
number_back n fits = read_as n (decimal n) fits (is_number n fits)

digits_above : (field : List ℕ) → list_all is_digit field ≡ true → list_all (nat_lt 44) field ≡ true
digits_above [] all = refl
digits_above (b ∷ field) all =
    let parts = and_parts (is_digit b) (list_all is_digit field) all in
    let bounds = and_parts (nat_le 48 b) (nat_le b 57) parts.0 in
    let low = leb-true 48 b bounds.0 in
    and_from (nat_lt 44 b) (list_all (nat_lt 44) field) (lt-ltb 44 b (omega (arith, low))) (digits_above field parts.1)

pub plain_decimal : (n : ℕ) → n < 2 ^ 64 → IsPlain (decimal n)
plain_decimal n fits = let is = is_number n fits in (is.some, digits_above (decimal n) is.digits)

pub decimal_digits : (n : ℕ) → n < 2 ^ 64 → (0 < length (decimal n)) × (list_all is_digit (decimal n) ≡ true)
decimal_digits n fits = let is = is_number n fits in (is.some, is.digits)
