-- What a run of `show` leaves written of the whole input.
use Rattle.std.proofs.Common.{◌≡◌, ℕ, List, [], ◌++◌, Option, Some, None, ap, ◌∙◌, subst}
use Rattle.std.specs.Io.KnownBytes.{Appends}
use Rattle.dr_files.specs.Outcome.{AppendsFront}
use Rattle.dr_drive.specs.declared.fault.Cause.{Cause}
use Rattle.dr_drive.specs.Meaning.DriveText.{drive_text}
use Rattle.dr_show.specs.declared.tool.Window.{Window}
use Rattle.dr_show.specs.Meaning.PageText.{page_text}

-- the bytes of a page that was put where nothing was
page_bytes : (page text none bytes : List ℕ) → none ≡ [] → page ≡ none ++ text → bytes ≡ page → bytes ≡ text
page_bytes page text none bytes empty put same = same ∙ put ∙ ap (λ t. t ++ text) empty

-- a whole page was written, of a file without a fault and of one at fault
pub whole_shown : (w : Window) (before after input page none bytes : List ℕ) (old new : Option (List ℕ)) → none ≡ [] → bytes ≡ page
    → ((drive_text input).fault ≡ None) × (page ≡ none ++ page_text w before after input) → Appends old new bytes
    → ((drive_text input).fault ≡ None) × Appends old new (page_text w before after input)
whole_shown w before after input page none bytes old new empty same (found, put) wrote =
    (found, subst (Appends old new) (page_bytes page (page_text w before after input) none bytes empty put same) wrote)

pub fault_shown : (w : Window) (before after input page none bytes : List ℕ) (old new : Option (List ℕ)) (k : ℕ) (cause : Cause) → none ≡ [] → bytes ≡ page
    → ((drive_text input).fault ≡ Some (record { k = k; cause = cause })) × (page ≡ none ++ page_text w before after input) → Appends old new bytes
    → ((drive_text input).fault ≡ Some (record { k = k; cause = cause })) × Appends old new (page_text w before after input)
fault_shown w before after input page none bytes old new k cause empty same (found, put) wrote =
    (found, subst (Appends old new) (page_bytes page (page_text w before after input) none bytes empty put same) wrote)

-- a beginning of a page was written
pub front_shown : (text page none bytes : List ℕ) (old new : Option (List ℕ)) → none ≡ [] → bytes ≡ page → page ≡ none ++ text → AppendsFront old new bytes → AppendsFront old new text
front_shown text page none bytes old new empty same put wrote = subst (AppendsFront old new) (page_bytes page text none bytes empty put same) wrote
