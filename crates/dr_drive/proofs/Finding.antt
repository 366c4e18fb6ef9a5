-- Handlers found by their names, and the fields that name them.
use Rattle.std.proofs.Common.{◌≡◌, ◌<◌, ◌≤◌, ◌+◌, ◌-◌, ℕ, zero, suc, true, false, List, [], ◌∷◌, ◌++◌}
use Rattle.std.proofs.Common.{Some, None, refl, sym, ap, ◌∙◌, arith, length, take, drop, map, add-one}
use Rattle.std.proofs.lemmas.List.{map-append}
use Rattle.std.proofs.Math.Seq.{take-suc}
use Rattle.std.specs.Prelude.{bytes_eq, slice_get}
use Rattle.std.specs.Borrow.{Bor}
use Rattle.dr_graph.specs.Meaning.Name.{Name, given}
use Rattle.dr_drive.specs.Meaning.Commands.{handler_of}
use Rattle.dr_records.specs.Records.{Record, field}
use Rattle.dr_drive.specs.Meaning.Setup.{names_after}
use Rattle.dr_drive.specs.Calls.Shows.{legible}

same_some : {A : Type 0} (x y : A) → Some x ≡ Some y → x ≡ y
same_some x y e = cc

-- the names from a place on
cut : (names : List Name) (h : ℕ) (n : Name) → slice_get names h ≡ Some n → drop h names ≡ n ∷ drop (suc h) names
cut [] h n e = let clash : None ≡ Some n = e in cc
cut (m ∷ names) zero n e = ap (λ x. x ∷ names) (same_some m n e)
cut (m ∷ names) (suc h) n e = cut names h n e

pub here : (names : List Name) (name n : Name) (h : ℕ) → slice_get names h ≡ Some n → bytes_eq name n ≡ true → handler_of (drop h names) name ≡ 0
here names name n h get is = ap (λ l. handler_of l name) (cut names h n get) ∙ rw is refl

pub not_here : (names : List Name) (name n : Name) (h : ℕ) → slice_get names h ≡ Some n → bytes_eq name n ≡ false
    → handler_of (drop h names) name ≡ handler_of (drop (h + 1) names) name + 1
not_here names name n h get is = ap (λ l. handler_of l name) (cut names h n get) ∙ rw (is, add-one h) refl

pub nowhere : (names : List Name) (name : Name) (h : ℕ) → length names ≤ h → handler_of (drop h names) name ≡ 0
nowhere [] name zero le = refl
nowhere [] name (suc h) le = refl
nowhere (n ∷ names) name zero le = absurd (omega arith)
nowhere (n ∷ names) name (suc h) le = nowhere names name h (omega arith)

-- the fields after the first, one more
pub next_name : (r : Record) (place : ℕ) → 1 ≤ place → place < length r → take place (names_after r) ≡ take (place - 1) (names_after r) ++ field r place ∷ []
next_name [] place one less = absurd (omega arith)
next_name (f ∷ r) zero one less = absurd (omega arith)
next_name (f ∷ r) (suc place) one less =
    let back : place ≡ suc place - 1 = omega arith in
    take-suc r place [] (omega arith) ∙ ap (λ n. take n r ++ field (f ∷ r) (suc place) ∷ []) back

take_none : {A : Type 0} (n : ℕ) (xs : List A) → xs ≡ [] → take n xs ≡ xs
take_none zero xs e = sym e
take_none (suc n) xs e = rw e refl

pub name_added : (r : Record) (place : ℕ) (old new : List (Bor Name)) (x : Bor Name) → 1 ≤ place → place < length r → new ≡ old ++ x ∷ []
    → x.now ≡ legible (field r place)
    → given old ≡ map legible (take (place - 1) (names_after r)) → given new ≡ map legible (take (place + 1 - 1) (names_after r))
name_added r place old new x one less pushed is so_far =
    let front = take (place - 1) (names_after r) in
    let same : place + 1 - 1 ≡ place = omega arith in
    let whole : take (place + 1 - 1) (names_after r) ≡ front ++ field r place ∷ [] = ap (λ n. take n (names_after r)) same ∙ next_name r place one less in
    ap given pushed ∙ map-append (λ n. n.now) old (x ∷ []) ∙ ap (λ l. l ++ x.now ∷ []) so_far ∙ ap (λ n. map legible front ++ n ∷ []) is
    ∙ sym (map-append legible front (field r place ∷ [])) ∙ ap (map legible) (sym whole)
