-- A write of a text, a piece at a time.
use Rattle.std.proofs.Common.{◌≡◌, ◌≤◌, ◌<◌, ◌+◌, ◌-◌, ◌^◌, ℕ, List, [], ◌++◌, length, take, drop, Option, Some, None, IfSome, refl, sym}
use Rattle.std.proofs.Common.{ap, ◌∙◌, arith, append-nil, take-append-drop, take-add, length-drop, ◌==◌, ◌&&◌, if◌then◌else◌, nat_lt}
use Rattle.std.proofs.lemmas.Bool.{ne_eqb, lt-ltb}
use Rattle.std.proofs.lemmas.List.{take_all}
use Rattle.std.proofs.KnownBytes.{Appends-trans}
use Rattle.std.specs.Io.KnownBytes.{Appends, Consumes, IsAtEnd, Keeps}
use Rattle.dr_files.specs.Counting.{one_more}
use Rattle.dr_files.specs.Outcome.{AppendsFront}

-- bytes that are kept after bytes were written
pub keep : (a b c : Option (List ℕ)) (bs : List ℕ) → Appends a b bs → Keeps b c → Appends a c bs
keep None b c bs p q = tt
keep (Some x) None c bs p q = absurd p
keep (Some x) (Some y) None bs p q = absurd q
keep (Some x) (Some y) (Some z) bs p q = q ∙ p

pub nothing : (a b : Option (List ℕ)) → Appends a b [] → Keeps a b
nothing None b h = tt
nothing (Some x) None h = h
nothing (Some x) (Some y) h = h ∙ append-nil x

pub front : (a b c : Option (List ℕ)) (text : List ℕ) (at : ℕ) → Appends a b (take at text) → Keeps b c → AppendsFront a c text
front a b c text at w k = (take at text, (drop at text, sym (take-append-drop at text)), keep a b c (take at text) w k)

pub more : (n : ℕ) → n < 2 ^ 64 - 1 → one_more n ≡ n + 1
more n h = rw (lt-ltb n (2 ^ 64 - 1) h) refl

-- a reader at its end gave all that it had
pub whole : (a b c : Option (List ℕ)) (text : List ℕ) → Consumes a b text → Consumes b c [] → IsAtEnd c → IfSome a (λ xs. text ≡ xs)
whole None b c text p q e = tt
whole (Some x) None c text p q e = absurd p
whole (Some x) (Some y) None text p q e = absurd q
whole (Some x) (Some y) (Some z) text p q e = sym (p ∙ ap (λ l. text ++ l) (q ∙ e) ∙ append-nil text)

-- what is left of a text from a place
pub rest_is : (text : List ℕ) (at : ℕ) → take (length text - at) (drop at text) ≡ drop at text
rest_is text at = let fits : length (drop at text) ≤ length text - at = simp length-drop (omega arith) in take_all (length text - at) (drop at text) fits

pub rest_length : (text : List ℕ) (at : ℕ) → length (take (length text - at) (drop at text)) ≡ length text - at
rest_length text at = ap length (rest_is text at) ∙ length-drop at text

pub further : (a b c : Option (List ℕ)) (text : List ℕ) (at n : ℕ) → Appends a b (take at text) → Appends b c (take n (take (length text - at) (drop at text)))
    → Appends a c (take (at + n) text)
further a b c text at n p q = rw (take-add at n text) (Appends-trans a b c (take at text) (take n (drop at text)) p (rw (rest_is text at) at q))

-- a write that took nothing of a piece
pub refused : (piece : List ℕ) (n old new : ℕ) → new ≡ (if (n == 0) && nat_lt 0 (length piece) then one_more old else old) → n ≡ 0 → 0 < length piece
    → old < 2 ^ 64 - 1
    → new ≡ old + 1
refused piece n old new e z some less = rw (z, lt-ltb 0 (length piece) some) at e ∙ more old less

-- a write that took something
pub accepted : (piece : List ℕ) (n old new : ℕ) → new ≡ (if (n == 0) && nat_lt 0 (length piece) then one_more old else old) → (n ≡ 0 → ⊥) → new ≡ old
accepted piece n old new e some = rw (ne_eqb n 0 some) at e
