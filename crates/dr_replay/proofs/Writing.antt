-- Texts that are written one after another.
use Rattle.std.proofs.Common.{◌≡◌, ◌+◌, ℕ, List, ◌++◌, Option, Result, Ok, Err, ap, ◌∙◌, sym, append_assoc}
use Rattle.std.proofs.KnownBytes.{Appends-trans}
use Rattle.std.specs.Io.KnownBytes.{Appends}
use Rattle.dr_files.specs.Outcome.{AppendsFront, WriteTells}

-- a beginning of the first text is one of both
pub front_of_both : (old new : Option (List ℕ)) (first later : List ℕ) → AppendsFront old new first → AppendsFront old new (first ++ later)
front_of_both old new first later (front, (rest, is), wrote) = (front, (rest ++ later, ap (λ l. l ++ later) is ∙ append_assoc front rest later), wrote)

-- and so is the first one before a beginning of the later
pub front_after : (old mid new : Option (List ℕ)) (first later : List ℕ) → Appends old mid first → AppendsFront mid new later
    → AppendsFront old new (first ++ later)
front_after old mid new first later before (front, (rest, is), wrote) =
    (first ++ front, (rest, ap (λ l. first ++ l) is ∙ sym (append_assoc first front rest)), Appends-trans old mid new first front before wrote)

-- a write after one that failed nowhere
pub tells_after : {A E : Type 0} (r : Result A E) (old mid new : Option (List ℕ)) (first later : List ℕ) (writes writes2 writes3 : ℕ) → Appends old mid first
    → writes2 ≡ writes → WriteTells r mid new later writes2 writes3 → WriteTells r old new (first ++ later) writes writes3
tells_after (Ok done) old mid new first later writes writes2 writes3 before none tells =
    (Appends-trans old mid new first later before tells.0, tells.1 ∙ none)
tells_after (Err e) old mid new first later writes writes2 writes3 before none tells =
    (front_after old mid new first later before tells.0, tells.1 ∙ ap (λ n. n + 1) none)
