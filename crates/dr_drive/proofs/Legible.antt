-- Fields that are no text. They are read as the empty text, which is no handler's name either: so the builder answers of it what it would of them.
use Rattle.std.proofs.Common.{◌≡◌, ◌<◌, ◌+◌, ℕ, zero, suc, true, false, inl, inr, Option, None, Some}
use Rattle.std.proofs.Common.{List, [], ◌∷◌, ◌++◌, refl, sym, ap, ◌∙◌, arith, map, length}
use Rattle.std.proofs.lemmas.Bool.{and_from, and_parts, cases_Bool, false≢true, eqb-true, leb-true, or_cases}
use Rattle.std.proofs.lemmas.List.{length-map}
use Rattle.std.proofs.lemmas.List.Folds.{list_all-append}
use Rattle.std.proofs.lemmas.Slice.Eq.{bytes_eq-Decides}
use Rattle.std.proofs.lemmas.Str.{IsUtf8-from_ascii, IsUtf8-from_is_utf8, is_utf8-from_IsUtf8}
use Rattle.std.specs.Prelude.{◌⊎◌, ◌&&◌, ◌||◌, ◌==◌, bytes_eq, if◌then◌else◌, nat_le}
use Rattle.std.specs.Char.{is_ascii_alphanumeric}
use Rattle.std.specs.Int.{is_in_range}
use Rattle.std.specs.List.{list_all}
use Rattle.std.specs.Option.{option_or}
use Rattle.std.specs.Str.{IsAscii, IsUtf8, is_utf8}
use Rattle.dr_graph.specs.Meaning.Declaration.{declaring_fault, many_fault, name_fault, name_faults, none_fault, stranger_fault}
use Rattle.dr_graph.specs.declared.fault.GraphFault.TheVariants.{BadName, EmptyGroup, Stranger}
use Rattle.dr_graph.specs.declared.name.TheConstants.{MAX_NAME_LEN}
use Rattle.dr_graph.specs.Meaning.Name.{Name, is_good_name, is_name_byte, is_named}
use Rattle.dr_drive.specs.Calls.Shows.{AreNames, legible}

in_range : (lo hi c : ℕ) → hi < 128 → is_in_range lo hi c ≡ true → c < 128
in_range lo hi c small h = let le = leb-true c hi (and_parts (nat_le lo c) (nat_le c hi) h).1 in omega arith

alphanumeric : (c : ℕ) → is_ascii_alphanumeric c ≡ true → c < 128
alphanumeric c h = elim (or_cases (is_in_range 48 57 c || is_in_range 65 90 c) (is_in_range 97 122 c) h) [
  | inl more ↦ elim (or_cases (is_in_range 48 57 c) (is_in_range 65 90 c) more) [
    | inl digit ↦ in_range 48 57 c (omega arith) digit
    | inr upper ↦ in_range 65 90 c (omega arith) upper
  ]
  | inr lower ↦ in_range 97 122 c (omega arith) lower
]

small_byte : (c : ℕ) → is_name_byte c ≡ true → c < 128
small_byte c h = elim (or_cases (is_ascii_alphanumeric c || (c == 95)) (c == 45) h) [
  | inl more ↦ elim (or_cases (is_ascii_alphanumeric c) (c == 95) more) [
    | inl letter ↦ alphanumeric c letter
    | inr is ↦ (let same = eqb-true c 95 is in omega arith)
  ]
  | inr is ↦ (let same = eqb-true c 45 is in omega arith)
]

ascii_of : (bs : List ℕ) → list_all is_name_byte bs ≡ true → IsAscii bs
ascii_of [] h i = omega arith
ascii_of (b ∷ bs) h zero = small_byte b (and_parts (is_name_byte b) (list_all is_name_byte bs) h).0
ascii_of (b ∷ bs) h (suc i) = ascii_of bs (and_parts (is_name_byte b) (list_all is_name_byte bs) h).1 i

name_is_text : (n : Name) → is_good_name n ≡ true → is_utf8 n ≡ true
name_is_text n h =
    let bytes = (and_parts (nat_le 1 (length n) && nat_le (length n) MAX_NAME_LEN) (list_all is_name_byte n) h).1 in
    is_utf8-from_IsUtf8 n (IsUtf8-from_ascii n (ascii_of n bytes))

pub text : (f t : Name) → t ≡ f → IsUtf8 f → t ≡ legible f
text f t same is = same ∙ sym (rw (is_utf8-from_IsUtf8 f is) refl)

pub no_text : (f : Name) → (IsUtf8 f → ⊥) → [] ≡ legible f
no_text f none = elim (cases_Bool (is_utf8 f)) [
  | inl is ↦ absurd (none (IsUtf8-from_is_utf8 f is))
  | inr other ↦ rw other refl
]

-- a field is text, or no name
text_or_none : (n : Name) → (legible n ≡ n) ⊎ ((legible n ≡ []) × (is_good_name n ≡ false))
text_or_none n = elim (cases_Bool (is_utf8 n)) [
  | inl text ↦ inl (rw text refl)
  | inr none ↦ inr (
    rw none refl,
    elim (cases_Bool (is_good_name n)) [
      | inl good ↦ absurd (false≢true (sym none ∙ name_is_text n good))
      | inr bad ↦ bad
    ],
  )
]

legible_name : (n : Name) → is_good_name n ≡ true → legible n ≡ n
legible_name n good = rw (name_is_text n good) refl

pub legible_names : (names : List Name) → AreNames names → map legible names ≡ names
legible_names [] all = refl
legible_names (n ∷ names) all =
    let parts = and_parts (is_good_name n) (list_all is_good_name names) all in
    ap (λ m. m ∷ map legible names) (legible_name n parts.0) ∙ ap (λ ms. n ∷ ms) (legible_names names parts.1)

bad_name : (declared : List Name) (n : Name) → is_good_name n ≡ false → name_fault declared n ≡ Some BadName
bad_name declared n bad = rw bad refl

same_faults : (declared names : List Name) → name_faults declared (map legible names) ≡ name_faults declared names
unfolding name_faults
same_faults declared [] = refl
same_faults declared (n ∷ names) = elim (text_or_none n) [
  | inl text ↦ ap (λ m. option_or (name_fault declared m) (name_faults (declared ++ m ∷ []) (map legible names))) text
      ∙ ap (λ f. option_or (name_fault declared n) f) (same_faults (declared ++ n ∷ []) names)
  | inr none ↦ ap (λ m. option_or (name_fault declared m) (name_faults (declared ++ m ∷ []) (map legible names))) none.0
      ∙ ap (λ f. option_or f (name_faults (declared ++ n ∷ []) names)) (sym (bad_name declared n none.1))
]

-- a field that is no text is refused as the empty text is
pub same_declaring : (declared names : List Name) → declaring_fault declared (map legible names) ≡ declaring_fault declared names
same_declaring declared names =
    let len : length (map legible names) ≡ length names = length-map names legible in
    ap (λ n. option_or (if n == 0 then Some EmptyGroup else None) (option_or (name_faults declared (map legible names)) (many_fault (length declared + n)))) len
    ∙ ap (λ f. option_or (none_fault names) (option_or f (many_fault (length declared + length names)))) (same_faults declared names)

-- where neither of two is there, both are missing
pub neither : {A : Type 0} (a b : Option A) → option_or a b ≡ None → (a ≡ None) × (b ≡ None)
neither None b e = (refl, e)
neither (Some x) b e = let clash : Some x ≡ None = e in cc

unrefused : (declared : List Name) (n : Name) → name_fault declared n ≡ None → is_good_name n ≡ true
unrefused declared n e = elim (cases_Bool (is_good_name n)) [
  | inl good ↦ good
  | inr bad ↦ let clash : Some BadName ≡ None = sym (bad_name declared n bad) ∙ e in cc
]

no_faults : (declared names : List Name) → name_faults declared names ≡ None → AreNames names
unfolding name_faults
no_faults declared [] e = refl
no_faults declared (n ∷ names) e =
    let parts = neither (name_fault declared n) (name_faults (declared ++ n ∷ []) names) e in
    and_from (is_good_name n) (list_all is_good_name names) (unrefused declared n parts.0) (no_faults (declared ++ n ∷ []) names parts.1)

-- what is accepted are names
pub accepted_names : (declared names : List Name) → declaring_fault declared names ≡ None → AreNames names
accepted_names declared names e =
    let rest = (neither (none_fault names) (option_or (name_faults declared names) (many_fault (length declared + length names))) e).1 in
    no_faults declared names (neither (name_faults declared names) (many_fault (length declared + length names)) rest).0

named_is_name : (declared : List Name) (n : Name) → AreNames declared → is_named declared n ≡ true → is_good_name n ≡ true
named_is_name [] n all named = absurd (false≢true named)
named_is_name (m ∷ declared) n all named =
    let parts = and_parts (is_good_name m) (list_all is_good_name declared) all in
    elim (or_cases (bytes_eq n m) (is_named declared n) named) [
      | inl same ↦ ap is_good_name ((bytes_eq-Decides n m).0 same) ∙ parts.0
      | inr later ↦ named_is_name declared n parts.1 later
    ]

not_named : (declared : List Name) (n : Name) → AreNames declared → is_good_name n ≡ false → is_named declared n ≡ false
not_named declared n all bad = elim (cases_Bool (is_named declared n)) [
  | inl named ↦ absurd (false≢true (sym bad ∙ named_is_name declared n all named))
  | inr other ↦ other
]

same_named : (declared : List Name) (n : Name) → AreNames declared → is_named declared (legible n) ≡ is_named declared n
same_named declared n all = elim (text_or_none n) [
  | inl text ↦ ap (is_named declared) text
  | inr none ↦ ap (is_named declared) none.0 ∙ not_named declared [] all refl ∙ sym (not_named declared n all none.1)
]

same_all : (declared names : List Name) → AreNames declared → list_all (is_named declared) (map legible names) ≡ list_all (is_named declared) names
same_all declared [] all = refl
same_all declared (n ∷ names) all =
    ap (λ b. b && list_all (is_named declared) (map legible names)) (same_named declared n all) ∙ ap (λ b. is_named declared n && b) (same_all declared names all)

pub same_stranger : (declared names : List Name) → AreNames declared → stranger_fault declared (map legible names) ≡ stranger_fault declared names
same_stranger declared names all = ap (λ b. if b then None else Some Stranger) (same_all declared names all)

named_are_names : (declared names : List Name) → AreNames declared → list_all (is_named declared) names ≡ true → AreNames names
named_are_names declared [] all named = refl
named_are_names declared (n ∷ names) all named =
    let parts = and_parts (is_named declared n) (list_all (is_named declared) names) named in
    and_from (is_good_name n) (list_all is_good_name names) (named_is_name declared n all parts.0) (named_are_names declared names all parts.1)

-- names that are declared are names
pub known_names : (declared names : List Name) → AreNames declared → stranger_fault declared names ≡ None → AreNames names
known_names declared names all e = elim (cases_Bool (list_all (is_named declared) names)) [
  | inl named ↦ named_are_names declared names all named
  | inr not_all ↦ let clash : Some Stranger ≡ None = rw not_all at e in cc
]

pub more_names : (declared names : List Name) → AreNames declared → AreNames names → AreNames (declared ++ names)
more_names declared names old new = list_all-append is_good_name declared names ∙ and_from (list_all is_good_name declared) (list_all is_good_name names) old new
