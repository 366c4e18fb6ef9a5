-- A word in 16 hexadecimal digits, two for each of its bytes.
use Rattle.std.proofs.Common.{◌≡◌, ℕ, zero, suc, ◌+◌, ◌-◌, ◌*◌, ◌/◌, ◌%◌, ◌^◌, ◌<◌, ◌==◌, if◌then◌else◌, Bool, true, false, ◌&&◌, inl, inr, List, [], ◌∷◌, ◌++◌, length, replicate, slice_index, append-nil, nat_lt, refl, sym, ap, ◌∙◌, arith}
use Rattle.std.proofs.lemmas.Bool.{and_parts, cases_eq, cases_lt, eqb-true, eq-eqb, ltb-true, ne_eqb}
use Rattle.std.proofs.lemmas.List.Elements.{All-from_get_or}
use Rattle.std.proofs.Math.Nat.{div-div-eq-div-mul}
use native.Mathlib.Numerals.{unary_clauses}
use Rattle.std.proofs.lemmas.Str.{IsUtf8-from_ascii}
use Rattle.std.proofs.lemmas.Str.Ascii.{IsAscii-from_all}
use Rattle.std.specs.Str.{IsAscii, IsUtf8}
use Rattle.std.specs.Fmt.{digit_glyph, digits, digits_onto}
use Rattle.std.specs.Int.{byte_at, bytes_high_first, to_be_bytes, w64}
use Rattle.hex.specs.Hex.{encode_lower, encode_with, lower_digits}
use Rattle.hex.proofs.HexLemmas.{IsAscii-encode_with}
use Rattle.dr_accounts.specs.Report.{hexadecimal}

-- the digits of the table are those of a format: a test of the first n, which computes
abbrev all_alike : ℕ → Bool
all_alike zero = true
all_alike (suc n) = (slice_index lower_digits n == digit_glyph false n) && all_alike n

alike : (n d : ℕ) → all_alike n ≡ true → d < n → slice_index lower_digits d ≡ digit_glyph false d
alike zero d h lt = absurd (omega arith)
alike (suc n) d h lt =
    let parts = and_parts (slice_index lower_digits n == digit_glyph false n) (all_alike n) h in
    elim (cases_lt d n) [
      | inl below ↦ alike n d parts.1 below
      | inr top ↦ let e : d ≡ n = omega arith in rw e (eqb-true (slice_index lower_digits n) (digit_glyph false n) parts.0)
    ]

in_table : (d : ℕ) → d < 16 → slice_index lower_digits d ≡ digit_glyph false d
in_table d lt = alike 16 d refl lt

-- and ASCII
abbrev all_ascii : ℕ → Bool
all_ascii zero = true
all_ascii (suc n) = nat_lt (slice_index lower_digits n) 128 && all_ascii n

ascii_upto : (n d : ℕ) → all_ascii n ≡ true → d < n → slice_index lower_digits d < 128
ascii_upto zero d h lt = absurd (omega arith)
ascii_upto (suc n) d h lt =
    let parts = and_parts (nat_lt (slice_index lower_digits n) 128) (all_ascii n) h in
    elim (cases_lt d n) [
      | inl below ↦ ascii_upto n d parts.1 below
      | inr top ↦ let e : d ≡ n = omega arith in rw e (ltb-true (slice_index lower_digits n) 128 parts.0)
    ]

ascii : IsAscii lower_digits
ascii = IsAscii-from_all lower_digits (All-from_get_or (λ (b : ℕ). b < 128) lower_digits 0 (λ d within. ascii_upto 16 d refl within))

-- the lowest k digits of n, and then acc
abbrev spread : ℕ → ℕ → List ℕ → List ℕ
spread zero n acc = acc
spread (suc k) n acc = spread k (n / 16) (digit_glyph false (n % 16) ∷ acc)

abbrev twice : ℕ → ℕ
twice zero = zero
twice (suc k) = suc (suc (twice k))

-- a byte above the lowest one is a byte of what is left without that
byte_above : (i n : ℕ) → byte_at (suc i) n ≡ byte_at i (n / 256)
byte_above zero n = refl
byte_above (suc i) n =
    let power : 256 ^ suc (suc i) ≡ 256 * 256 ^ suc i = simp unary_clauses (omega arith) in
    ap (λ (p : ℕ). n / p % 256) power ∙ ap (λ (q : ℕ). q % 256) (sym (div-div-eq-div-mul n 256 (256 ^ suc i)))

-- the lowest byte comes last
lowest_last : (k n : ℕ) → bytes_high_first (suc k) n ≡ bytes_high_first k (n / 256) ++ n % 256 ∷ []
lowest_last zero n = refl
lowest_last (suc k) n = rw (byte_above k n, lowest_last k n) refl

-- the last byte's two digits come last
encoded_last : (bytes acc : List ℕ) (b : ℕ)
    → encode_lower (bytes ++ b ∷ []) ++ acc ≡ encode_lower bytes ++ slice_index lower_digits (b / 16) ∷ slice_index lower_digits (b % 16) ∷ acc
unfolding encode_with
encoded_last [] acc b = refl
encoded_last (c ∷ bytes) acc b = rw (encoded_last bytes acc b) refl

-- k bytes have 2 k digits
by_bytes : (k n : ℕ) (acc : List ℕ) → encode_lower (bytes_high_first k n) ++ acc ≡ spread (twice k) n acc
unfolding encode_with
by_bytes zero n acc = refl
by_bytes (suc k) n acc =
    let high : n % 256 / 16 ≡ n / 16 % 16 = omega arith in
    let low : n % 256 % 16 ≡ n % 16 = omega arith in
    let rest : n / 256 ≡ n / 16 / 16 = omega arith in
    ap (λ (bytes : List ℕ). encode_lower bytes ++ acc) (lowest_last k n)
    ∙ encoded_last (bytes_high_first k (n / 256)) acc (n % 256)
    ∙ rw (in_table (n % 256 / 16) (omega arith), in_table (n % 256 % 16) (omega arith), high, low, rest)
    (by_bytes k (n / 16 / 16) (digit_glyph false (n / 16 % 16) ∷ digit_glyph false (n % 16) ∷ acc))

one_more_zero : (k : ℕ) (acc : List ℕ) → replicate k 48 ++ 48 ∷ acc ≡ 48 ∷ replicate k 48 ++ acc
one_more_zero zero acc = refl
one_more_zero (suc k) acc = rw (one_more_zero k acc) refl

zeros : (k : ℕ) (acc : List ℕ) → spread k 0 acc ≡ replicate k 48 ++ acc
zeros zero acc = refl
zeros (suc k) acc = zeros k (48 ∷ acc) ∙ one_more_zero k acc

-- how many digits a format writes
abbrev count : ℕ → ℕ → ℕ
count zero n = 0
count (suc fuel) n = if n / 16 == 0 then 1 else suc (count fuel (n / 16))

length_digits : (fuel n : ℕ) (acc : List ℕ) → length (digits_onto fuel 16 false n acc) ≡ count fuel n + length acc
length_digits zero n acc = omega arith
length_digits (suc fuel) n acc = elim (cases_eq (n / 16) 0) [
  | inl none ↦ rw (eq-eqb (n / 16) 0 none) (omega arith)
  | inr some ↦ rw (ne_eqb (n / 16) 0 some) (let more = length_digits fuel (n / 16) (digit_glyph false (n % 16) ∷ acc) in omega (arith, more))
]

-- what a format writes, behind zeros
padded : (fuel k n : ℕ) (acc : List ℕ) → n < 16 ^ suc k → k < fuel
    → spread (suc k) n acc ≡ replicate (suc k - count fuel n) 48 ++ digits_onto fuel 16 false n acc
padded zero k n acc small fits = absurd (omega arith)
padded (suc fuel) zero n acc small fits = let none : n / 16 ≡ 0 = omega arith in rw (eq-eqb (n / 16) 0 none) refl
padded (suc fuel) (suc k) n acc small fits = elim (cases_eq (n / 16) 0) [
  | inl none ↦ rw (eq-eqb (n / 16) 0 none, none) (simp unary_clauses (zeros (suc k) (digit_glyph false (n % 16) ∷ acc)))
  | inr some ↦ (
      let power : 16 ^ suc (suc k) ≡ 16 * 16 ^ suc k = simp unary_clauses (omega arith) in
      let shorter = padded fuel k (n / 16) (digit_glyph false (n % 16) ∷ acc) (omega (arith, small, power)) (omega (arith, fits)) in
      rw (ne_eqb (n / 16) 0 some) (simp unary_clauses shorter))
]

-- the bytes of a word, the highest first, give its 16 digits
pub of_bytes : (n : ℕ) → n < 2 ^ 64 → encode_lower (to_be_bytes w64 n) ≡ hexadecimal n
unfolding digits
of_bytes n small =
    let length : length (digits_onto 64 16 false n []) ≡ count 64 n = length_digits 64 n [] ∙ omega arith in
    sym (append-nil (encode_lower (to_be_bytes w64 n))) ∙ by_bytes 8 n [] ∙ rw length (padded 64 15 n [] (omega arith) (omega arith))

-- digits are a text
pub is_text : (bytes : List ℕ) → IsUtf8 (encode_lower bytes)
is_text bytes = IsUtf8-from_ascii (encode_lower bytes) (IsAscii-encode_with lower_digits bytes ascii)
