-- A file that is opened, of which more and more was read.
use Rattle.std.proofs.Common.{◌≡◌, ℕ, List, [], ◌++◌, Vec, sym, ◌∙◌, ap, append_assoc}
use Rattle.std.specs.declared.alloc.Global.{Global}
use Rattle.std.proofs.lemmas.List.{append-nil, map-append}
use Rattle.dr_journal.specs.Meaning.Format.{recovered}
use Rattle.dr_journal.specs.Calls.Journals.{bytes_of}
use Rattle.dr_journal.specs.Calls.Reading.{AddsNext}

abbrev Records : Type 0
Records = List (Vec ℕ Global)

pub adds_none : (file : List ℕ) (records : Records) → AddsNext file file records records
adds_none file records = ([], sym (append-nil file), ([], sym (append-nil records), ap recovered (append-nil file) ∙ sym (append-nil (recovered file))))

pub adds_then : (a b c : List ℕ) (before between after : Records) → AddsNext a b before between → AddsNext b c between after → AddsNext a c before after
adds_then a b c before between after first second = (
  first.0 ++ second.0,
  second.1 ∙ ap (λ (l : List ℕ). l ++ second.0) first.1 ∙ append_assoc a first.0 second.0,
  (
    first.2.0 ++ second.2.0,
    second.2.1 ∙ ap (λ (l : Records). l ++ second.2.0) first.2.1 ∙ append_assoc before first.2.0 second.2.0,
    ap recovered (sym (append_assoc a first.0 second.0) ∙ ap (λ (l : List ℕ). l ++ second.0) (sym first.1))
        ∙ second.2.2
        ∙ ap (λ (l : List (List ℕ)). l ++ bytes_of second.2.0) (ap recovered first.1 ∙ first.2.2)
        ∙ append_assoc (recovered a) (bytes_of first.2.0) (bytes_of second.2.0)
        ∙ ap (λ (l : List (List ℕ)). recovered a ++ l) (sym (map-append (λ (v : Vec ℕ Global). v.items) first.2.0 second.2.0)),
  ),
)

-- from nothing, all of it
pub adds_all : (a b : List ℕ) (before after : Records) → AddsNext a b before after → a ≡ [] → before ≡ [] → bytes_of after ≡ recovered b
adds_all a b before after adds none empty =
    ap (λ (r : Records). bytes_of r) (adds.2.1 ∙ ap (λ (l : Records). l ++ adds.2.0) empty)
    ∙ sym (ap recovered adds.1 ∙ adds.2.2 ∙ ap (λ (l : List ℕ). recovered l ++ bytes_of adds.2.0) none)
