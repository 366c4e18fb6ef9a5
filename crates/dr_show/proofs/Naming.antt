-- A handler's object, put part by part.
use Rattle.std.proofs.Common.{◌≡◌, ℕ, OnOk, Result, List, ◌++◌, append_assoc, is_ok, subst}
use Rattle.std.specs.Prelude.{if◌then◌else◌}
use Rattle.dr_drive.proofs.Pushing.{last_put, last_text, then_put}

parts : (old comma begins name between ups ends : List ℕ)
    → old ++ (((comma ++ begins ++ name ++ between) ++ ups) ++ ends) ≡ old ++ (comma ++ begins ++ name ++ between ++ ups ++ ends)
parts old comma begins name between ups ends = simp append_assoc

pub named_put : {A E : Type 0} (result : Result A E) (old comma begins name between ups ends opened listed new : List ℕ)
    → opened ≡ old ++ (comma ++ begins ++ name ++ between) → listed ≡ opened ++ ups
    → new ≡ (if is_ok result then listed ++ ends else listed)
    → OnOk result (new ≡ old ++ (comma ++ begins ++ name ++ between ++ ups ++ ends))
named_put result old comma begins name between ups ends opened listed new first second last =
    subst (λ text. OnOk result (new ≡ text)) (parts old comma begins name between ups ends)
    (last_text result old ((comma ++ begins ++ name ++ between) ++ ups) ends listed new (then_put old (comma ++ begins ++ name ++ between) ups opened listed first second) last)

handler_parts : (old a b c d e f g p q r s t u v w x : List ℕ)
    → old ++ (a ++ ((b ++ c ++ d ++ e ++ f ++ g) ++ ((p ++ q ++ r ++ s) ++ (t ++ u ++ v ++ w ++ x))))
    ≡ old ++ (a ++ b ++ c ++ d ++ e ++ f ++ g ++ p ++ q ++ r ++ s ++ t ++ u ++ v ++ w ++ x)
handler_parts old a b c d e f g p q r s t u v w x = simp append_assoc

pub handler_put : {A E : Type 0} (result : Result A E) (old a b c d e f g p q r s t u v w x begun first second new : List ℕ)
    → begun ≡ old ++ a → first ≡ begun ++ (b ++ c ++ d ++ e ++ f ++ g) → second ≡ first ++ (p ++ q ++ r ++ s)
    → OnOk result (new ≡ second ++ (t ++ u ++ v ++ w ++ x))
    → OnOk result (new ≡ old ++ (a ++ b ++ c ++ d ++ e ++ f ++ g ++ p ++ q ++ r ++ s ++ t ++ u ++ v ++ w ++ x))
handler_put result old a b c d e f g p q r s t u v w x begun first second new zero one two last =
    subst (λ text. OnOk result (new ≡ text)) (handler_parts old a b c d e f g p q r s t u v w x)
    (last_put result old a ((b ++ c ++ d ++ e ++ f ++ g) ++ ((p ++ q ++ r ++ s) ++ (t ++ u ++ v ++ w ++ x))) begun new zero
    (last_put result begun (b ++ c ++ d ++ e ++ f ++ g) ((p ++ q ++ r ++ s) ++ (t ++ u ++ v ++ w ++ x)) first new one
    (last_put result first (p ++ q ++ r ++ s) (t ++ u ++ v ++ w ++ x) second new two last)))

counts_parts : (old a b c d e f : List ℕ) → old ++ (a ++ (b ++ (c ++ (d ++ (e ++ f))))) ≡ old ++ (a ++ b ++ c ++ d ++ e ++ f)
counts_parts old a b c d e f = simp append_assoc

-- the counts, as one write puts them
pub counts_put : {A E : Type 0} (result : Result A E) (old a b c d e f new : List ℕ) → OnOk result (new ≡ old ++ (a ++ (b ++ (c ++ (d ++ (e ++ f))))))
    → OnOk result (new ≡ old ++ (a ++ b ++ c ++ d ++ e ++ f))
counts_put result old a b c d e f new put = subst (λ text. OnOk result (new ≡ text)) (counts_parts old a b c d e f) put
