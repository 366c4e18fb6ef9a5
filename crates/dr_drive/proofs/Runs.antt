-- A run over records: what was written so far, and what the records left to take say.
use Rattle.std.proofs.Common.{◌≡◌, ◌+◌, ℕ, Bool, List, [], ◌∷◌, ◌++◌, length, take, Option, Some, Ok, Err, refl, sym, ap, ◌∙◌, append_assoc, append-nil}
use Rattle.std.specs.Prelude.{option_to_list}
use Rattle.std.proofs.KnownBytes.{Appends-kept, Appends-trans}
use Rattle.std.specs.Io.KnownBytes.{Appends, Keeps}
use Rattle.dr_records.specs.Records.{Record}
use Rattle.dr_drive.specs.Meaning.DriveText.{Phase, Taken, end_fault, taken, text_after, text_from}
use Rattle.dr_drive.specs.Inside.Tells.{CommandFaultTells}
use Rattle.dr_files.specs.Lines.{joined}
use Rattle.dr_files.specs.Outcome.{AppendsFront, AreCut, FaultWrites, Said}
use Rattle.dr_files.specs.declared.fault.FileFault.{FileFault}
use Rattle.dr_files.specs.declared.fault.FileFault.TheVariants as fault
use Rattle.dr_drive.specs.declared.fault.Cause.{Cause}

abbrev pub preceded : List (List ℕ) → Said Cause → Said Cause
preceded done t = record { lines = done ++ t.lines; fault = t.fault }

-- a file's text is the lines that were written and then what the rest says
pub record Progress (states : Bool) (whole : Said Cause) (k : ℕ) (s : Phase) (rest : List Record) (old now : Option (List ℕ)) : Type 0 where
  pub done : List (List ℕ)
  pub is : whole ≡ preceded done (text_from states k s rest)
  pub wrote : Appends old now (joined done)

pub joined-append : (a b : List (List ℕ)) → joined (a ++ b) ≡ joined a ++ joined b
joined-append [] b = refl
joined-append (x ∷ a) b = rw (joined-append a b) (sym (append_assoc x (joined a) (joined b)))

take-front : (a b : List (List ℕ)) → take (length a) (a ++ b) ≡ a
take-front [] b = refl
take-front (x ∷ a) b = ap (λ l. x ∷ l) (take-front a b)

-- what a file says from a record on that does something
pub says-ok : (states : Bool) (k : ℕ) (s : Phase) (did : Taken) (row : Record) (rest : List Record) → taken states s row ≡ Ok did
    → text_from states k s (row ∷ rest) ≡ preceded (option_to_list did.line) (text_from states (k + 1) did.phase rest)
unfolding text_from
says-ok states k s did row rest e = ap (λ t. text_after k t (λ s3. text_from states (k + 1) s3 rest)) e

pub says-err : (states : Bool) (k : ℕ) (s : Phase) (cause : Cause) (row : Record) (rest : List Record) → taken states s row ≡ Err cause
    → text_from states k s (row ∷ rest) ≡ record { lines = []; fault = Some (record { k = k; cause = cause }) }
unfolding text_from
says-err states k s cause row rest e = ap (λ t. text_after k t (λ s3. text_from states (k + 1) s3 rest)) e

pub says-end : (states : Bool) (k : ℕ) (s : Phase) → text_from states k s [] ≡ record { lines = []; fault = end_fault k s }
unfolding text_from
says-end states k s = refl

pub progress-step : (states : Bool) (whole : Said Cause) (k : ℕ) (s : Phase) (did : Taken) (row : Record) (rest : List Record) (old now new : Option (List ℕ))
    → Progress states whole k s (row ∷ rest) old now → taken states s row ≡ Ok did → Appends now new (joined (option_to_list did.line)) → Progress states whole (k + 1) did.phase rest old new
progress-step states whole k s did row rest old now new p e w =
    let t = text_from states (k + 1) did.phase rest in
    let lines = option_to_list did.line in
    record {
      done = p.done ++ lines;
      is = p.is ∙ ap (λ x. preceded p.done x) (says-ok states k s did row rest e) ∙ ap (λ l. record { lines = l; fault = t.fault }) (sym (append_assoc p.done lines t.lines));
      wrote = rw (joined-append p.done lines) (Appends-trans old now new (joined p.done) (joined lines) p.wrote w);
    }

pub progress-input : (states : Bool) (whole : Said Cause) (k : ℕ) (s : Phase) (cause : Cause) (row : Record) (rest : List Record) (old now new : Option (List ℕ))
    → Progress states whole k s (row ∷ rest) old now → taken states s row ≡ Err cause → Keeps now new
    → (whole.fault ≡ Some (record { k = k; cause = cause })) × Appends old new (joined whole.lines)
progress-input states whole k s cause row rest old now new p e w =
    let is = p.is ∙ ap (λ x. preceded p.done x) (says-err states k s cause row rest e) in
    let lines : whole.lines ≡ p.done = ap (λ t. t.lines) is ∙ append-nil p.done in
    (ap (λ t. t.fault) is, rw lines (Appends-kept old now new (joined p.done) p.wrote w))

pub progress-memory : (states : Bool) (whole : Said Cause) (k : ℕ) (s : Phase) (rest : List Record) (old now new : Option (List ℕ))
    → Progress states whole k s rest old now → Keeps now new → (n : ℕ) × Appends old new (joined (take n whole.lines))
progress-memory states whole k s rest old now new p w =
    let front : take (length p.done) whole.lines ≡ p.done = ap (λ t. take (length p.done) t.lines) p.is ∙ take-front p.done (text_from states k s rest).lines in
    (length p.done, rw front (Appends-kept old now new (joined p.done) p.wrote w))

pub progress-write : (states : Bool) (whole : Said Cause) (k : ℕ) (s after : Phase) (line : List ℕ) (row : Record) (rest : List Record) (old now new : Option (List ℕ))
    → Progress states whole k s (row ∷ rest) old now → taken states s row ≡ Ok (record { phase = after; line = Some line }) → AppendsFront now new line → AreCut old new whole.lines
progress-write states whole k s after line row rest old now new p e (start, begins, w) = record {
  whole = p.done;
  line = line;
  later = (text_from states (k + 1) after rest).lines;
  are = ap (λ x. x.lines) (p.is ∙ ap (λ x. preceded p.done x) (says-ok states k s (record { phase = after; line = Some line }) row rest e));
  front = start;
  begins = begins;
  wrote = Appends-trans old now new (joined p.done) start p.wrote w;
}

pub progress-end : (states : Bool) (whole : Said Cause) (k : ℕ) (s : Phase) (old now : Option (List ℕ)) → Progress states whole k s [] old now
    → (whole.fault ≡ end_fault k s) × Appends old now (joined whole.lines)
unfolding text_from
progress-end states whole k s old now p =
    let lines : whole.lines ≡ p.done = ap (λ t. t.lines) p.is ∙ append-nil p.done in
    (ap (λ t. t.fault) p.is, rw lines p.wrote)

-- why a command ended the run
pub progress-fails : (states : Bool) (f : FileFault Cause) (whole : Said Cause) (k : ℕ) (s : Phase) (row : Record) (rest : List Record) (old now new : Option (List ℕ))
    → Progress states whole k s (row ∷ rest) old now → CommandFaultTells f k (taken states s row) now new → FaultWrites f old new whole
progress-fails states (fault.Input j cause) whole k s row rest old now new p (same, err, keeps) =
    let (is, wrote) = progress-input states whole k s cause row rest old now new p err keeps in (rw same is, wrote)
progress-fails states fault.Memory whole k s row rest old now new p keeps = progress-memory states whole k s (row ∷ rest) old now new p keeps
progress-fails states fault.Read whole k s row rest old now new p h = absurd h
progress-fails states fault.Write whole k s row rest old now new p (after, line, ok, begins) = progress-write states whole k s after line row rest old now new p ok begins
