-- What an end found at its last looks, where these were at the words of some handlers.
use Rattle.std.proofs.Common.{◌≡◌, ◌+◌, ◌-◌, ℕ, List, [], ◌∷◌, ◌++◌, length, map, drop, refl, sym, ap, ◌∙◌, arith, length-append}
use Rattle.std.proofs.lemmas.List.{length-map}
use Rattle.std.proofs.Math.Seq.{drop-append_seam}
use Rattle.dr_runs.specs.declared.look.Look.{Look}
use Rattle.dr_runs.specs.LastLooks.{found_last}
use Rattle.dr_runs.specs.Looks.{looks_at}

abbrev value_of : Look → ℕ
value_of x = x.value

values_of : (word_of : ℕ → ℕ) (hs counts : List ℕ) → length counts ≡ length hs → map value_of (looks_at word_of hs counts) ≡ counts
values_of word_of [] [] many = refl
values_of word_of [] (c ∷ counts) many = absurd (omega arith)
values_of word_of (h ∷ hs) [] many = absurd (omega arith)
values_of word_of (h ∷ hs) (c ∷ counts) many = ap (λ l. c ∷ l) (values_of word_of hs counts (omega arith))

pub found_behind : (old new : List Look) (n : ℕ) → n ≡ length new → found_last n (old ++ new) ≡ map (λ x. x.value) new
found_behind old new n is =
    let all : length (old ++ new) ≡ length old + length new = length-append old new in
    let cut : length (old ++ new) - n ≡ length old = omega arith in
    ap (λ (i : ℕ). map value_of (drop i (old ++ new))) cut ∙ ap (map value_of) (drop-append_seam old new)

pub found_counts : (word_of : ℕ → ℕ) (old : List Look) (hs counts : List ℕ) → length counts ≡ length hs
    → found_last (length hs) (old ++ looks_at word_of hs counts) ≡ counts
found_counts word_of old hs counts many =
    let values = values_of word_of hs counts many in
    let long : length (looks_at word_of hs counts) ≡ length counts = sym (length-map (looks_at word_of hs counts) value_of) ∙ ap length values in
    found_behind old (looks_at word_of hs counts) (length hs) (sym many ∙ sym long) ∙ values
