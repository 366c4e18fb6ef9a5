-- Texts of several pieces, put one after another.
use Rattle.std.proofs.Common.{◌≡◌, ◌∙◌, OnOk, Result, Ok, Err, List, ℕ, ◌++◌, ap, append_assoc, is_ok, subst}
use Rattle.dr_drive.proofs.Pushing.{last_put}
use Rattle.std.specs.Prelude.{if◌then◌else◌}

five : (old a b c d e : List ℕ) → ((((old ++ a) ++ b) ++ c) ++ d) ++ e ≡ old ++ (a ++ b ++ c ++ d ++ e)
five old a b c d e = simp append_assoc

-- five pieces, of which a call of `String` puts the last
pub five_put : {A E : Type 0} (result : Result A E) (old a b c d e one two three four new : List ℕ)
    → one ≡ old ++ a → two ≡ one ++ b → three ≡ two ++ c → four ≡ three ++ d → new ≡ (if is_ok result then four ++ e else four)
    → OnOk result (new ≡ old ++ (a ++ b ++ c ++ d ++ e))
five_put (Ok done) old a b c d e one two three four new p q r s t =
    t ∙ ap (λ x. x ++ e) (s ∙ ap (λ x. x ++ d) (r ∙ ap (λ x. x ++ c) (q ∙ ap (λ x. x ++ b) p))) ∙ five old a b c d e
five_put (Err error) old a b c d e one two three four new p q r s t = tt

four : (old a b c d : List ℕ) → (((old ++ a) ++ b) ++ c) ++ d ≡ old ++ (a ++ b ++ c ++ d)
four old a b c d = simp append_assoc

pub four_put : {A E : Type 0} (result : Result A E) (old a b c d one two three new : List ℕ)
    → one ≡ old ++ a → two ≡ one ++ b → three ≡ two ++ c → new ≡ (if is_ok result then three ++ d else three)
    → OnOk result (new ≡ old ++ (a ++ b ++ c ++ d))
four_put (Ok done) old a b c d one two three new p q r s =
    s ∙ ap (λ x. x ++ d) (r ∙ ap (λ x. x ++ c) (q ∙ ap (λ x. x ++ b) p)) ∙ four old a b c d
four_put (Err error) old a b c d one two three new p q r s = tt

-- a command: its record, its reply and the state after it
command_parts : (old r a b c s z : List ℕ) → old ++ (r ++ (a ++ b ++ c) ++ s ++ z) ≡ old ++ (r ++ (a ++ b ++ c ++ s) ++ z)
command_parts old r a b c s z = simp append_assoc

pub command_put : {A E : Type 0} (result : Result A E) (old r a b c s z one two three new : List ℕ)
    → one ≡ old ++ r → two ≡ one ++ (a ++ b ++ c) → three ≡ two ++ s → new ≡ (if is_ok result then three ++ z else three)
    → OnOk result (new ≡ old ++ (r ++ (a ++ b ++ c ++ s) ++ z))
command_put result old r a b c s z one two three new p q t u =
    subst (λ text. OnOk result (new ≡ text)) (command_parts old r a b c s z) (four_put result old r (a ++ b ++ c) s z one two three new p q t u)

-- what an exchange is opened with
exchange_parts : (old a b c d e f g h k n z : List ℕ)
    → old ++ ((a ++ b ++ c ++ d) ++ (e ++ f ++ g ++ h ++ k) ++ n ++ z) ≡ old ++ (a ++ b ++ c ++ d ++ e ++ f ++ g ++ h ++ k ++ n ++ z)
exchange_parts old a b c d e f g h k n z = simp append_assoc

pub exchange_put : {A E : Type 0} (result : Result A E) (old a b c d e f g h k n z one two three new : List ℕ)
    → one ≡ old ++ (a ++ b ++ c ++ d) → two ≡ one ++ (e ++ f ++ g ++ h ++ k) → three ≡ two ++ n → new ≡ (if is_ok result then three ++ z else three)
    → OnOk result (new ≡ old ++ (a ++ b ++ c ++ d ++ e ++ f ++ g ++ h ++ k ++ n ++ z))
exchange_put result old a b c d e f g h k n z one two three new p q t u =
    subst (λ text. OnOk result (new ≡ text)) (exchange_parts old a b c d e f g h k n z)
    (four_put result old (a ++ b ++ c ++ d) (e ++ f ++ g ++ h ++ k) n z one two three new p q t u)

-- a state
state_parts : (old a b c d e f g h k l m r : List ℕ)
    → old ++ ((a ++ b ++ c ++ d ++ e ++ f) ++ ((g ++ h) ++ ((k ++ l ++ m) ++ r))) ≡ old ++ (a ++ b ++ c ++ d ++ e ++ f ++ g ++ h ++ k ++ l ++ m ++ r)
state_parts old a b c d e f g h k l m r = simp append_assoc

pub state_put : {A E : Type 0} (result : Result A E) (old a b c d e f g h k l m r one two three new : List ℕ)
    → one ≡ old ++ (a ++ b ++ c ++ d ++ e ++ f) → two ≡ one ++ (g ++ h) → three ≡ two ++ (k ++ l ++ m) → OnOk result (new ≡ three ++ r)
    → OnOk result (new ≡ old ++ (a ++ b ++ c ++ d ++ e ++ f ++ g ++ h ++ k ++ l ++ m ++ r))
state_put result old a b c d e f g h k l m r one two three new p q t u =
    subst (λ text. OnOk result (new ≡ text)) (state_parts old a b c d e f g h k l m r)
    (last_put result old (a ++ b ++ c ++ d ++ e ++ f) ((g ++ h) ++ ((k ++ l ++ m) ++ r)) one new p
    (last_put result one (g ++ h) ((k ++ l ++ m) ++ r) two new q (last_put result two (k ++ l ++ m) r three new t u)))
