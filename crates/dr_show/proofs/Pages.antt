-- A run over all records: how far its page has come, and how it ends.
use Rattle.std.proofs.Common.{◌≡◌, ℕ, ◌+◌, ◌-◌, ◌<◌, Bool, true, false, List, [], ◌∷◌, ◌++◌, Option, Some, None, Result, Ok, Err, refl, sym, ap, ◌∙◌, append_assoc, arith, codes, decimal}
use Rattle.std.specs.Prelude.{if◌then◌else◌}
use Rattle.dr_files.specs.declared.fault.FileFault.{FileFault}
use Rattle.dr_files.specs.declared.fault.FileFault.TheVariants as fault
use Rattle.dr_files.specs.Outcome.{Fault}
use Rattle.dr_records.specs.Records.{Record, records_of}
use Rattle.dr_drive.specs.declared.fault.Cause.{Cause}
use Rattle.dr_drive.specs.Meaning.Setup.{Empty, missing}
use Rattle.dr_drive.specs.declared.setup.Preparation.TheVariants as preparation
use Rattle.dr_drive.specs.Meaning.DriveText.{Phase, Preparing, Running, Taken, drive_text, end_fault, taken, text_from}
use Rattle.dr_drive.proofs.Runs.{says-end, says-err, says-ok}
use Rattle.dr_show.specs.declared.course.Course.{Course}
use Rattle.dr_show.specs.declared.course.Course.TheVariants as come_to
use Rattle.dr_show.specs.declared.tool.Window.{Window}
use Rattle.dr_show.specs.Meaning.PageText.{fault_text, faulty_text, last_text, object_of, objects_after, objects_from, page_text, shows}
use Rattle.dr_show.specs.Inside.Courses.{CourseShows, Took, missing_of}
use Rattle.dr_show.specs.Inside.Objects.{last_seen}
use Rattle.dr_show.specs.Inside.Pages.{Puts, PutsObjects, head_text, tail_text}

-- what has been put and what is to come are all objects, and the fault is still to come
pub record Comes (w : Window) (all : List Record) (course : Course) (k : ℕ) (left : List Record) (old page : List ℕ) : Type 0 where
  pub phase : Phase
  pub shown : CourseShows course phase
  pub puts : old ++ objects_from w 1 (Preparing Empty) all ≡ page ++ objects_from w k phase left
  pub faults : (text_from false 1 (Preparing Empty) all).fault ≡ (text_from false k phase left).fault

-- nothing is put yet
pub starts : (w : Window) (all : List Record) (old : List ℕ) → Comes w all (come_to.Preparing preparation.Empty) 1 all old old
starts w all old = record { phase = Preparing Empty; shown = (refl, tt); puts = refl; faults = refl }

objects-ok : (w : Window) (k : ℕ) (s : Phase) (did : Taken) (row : Record) (rest : List Record) → taken false s row ≡ Ok did
    → objects_from w k s (row ∷ rest) ≡ (if shows w k did then object_of k row did else []) ++ objects_from w (k + 1) did.phase rest
unfolding objects_from
objects-ok w k s did row rest e = ap (λ t. objects_after w k row t (λ after. objects_from w (k + 1) after rest)) e

objects-err : (w : Window) (k : ℕ) (s : Phase) (cause : Cause) (row : Record) (rest : List Record) → taken false s row ≡ Err cause
    → objects_from w k s (row ∷ rest) ≡ faulty_text k row cause
unfolding objects_from
objects-err w k s cause row rest e = ap (λ t. objects_after w k row t (λ after. objects_from w (k + 1) after rest)) e

objects-end : (w : Window) (k : ℕ) (s : Phase) → objects_from w k s [] ≡ last_text k s
unfolding objects_from
objects-end w k s = refl

put_if : (b : Bool) (page object rest : List ℕ) → page ++ ((if b then object else []) ++ rest) ≡ (if b then page ++ object else page) ++ rest
put_if true page object rest = sym (append_assoc page object rest)
put_if false page object rest = refl

-- a record was taken
pub goes_on : {w : Window} {all left rest : List Record} {course after : Course} {k : ℕ} {row : Record} {old page new : List ℕ}
    → Comes w all course k left old page → left ≡ row ∷ rest
    → ((s : Phase) → CourseShows course s → Took after w k row (taken false s row) page new) → Comes w all after (k + 1) rest old new
goes_on {w} {all} {left} {rest} {course} {after} {k} {row} {old} {page} {new} come cut took =
    let s : Phase = come.phase in
    let at : Took after w k row (taken false s row) page new = took s come.shown in
    record {
      phase = at.did.phase;
      shown = at.shown;
      puts = come.puts
          ∙ ap (λ (l : List Record). page ++ objects_from w k s l) cut
          ∙ ap (λ t. page ++ t) (objects-ok w k s at.did row rest at.is)
          ∙ put_if (shows w k at.did) page (object_of k row at.did) (objects_from w (k + 1) at.did.phase rest)
          ∙ ap (λ t. t ++ objects_from w (k + 1) at.did.phase rest) (sym at.put);
      faults = come.faults ∙ ap (λ (l : List Record). (text_from false k s l).fault) cut ∙ ap (λ t. t.fault) (says-ok false k s at.did row rest at.is);
    }

-- a record is at fault
pub fails : {w : Window} {all left rest : List Record} {course : Course} {k : ℕ} {row : Record} {old page kept new : List ℕ} (cause : Cause)
    → Comes w all course k left old page → left ≡ row ∷ rest
    → ((s : Phase) → CourseShows course s → (taken false s row ≡ Err cause) × (kept ≡ page)) → new ≡ kept ++ faulty_text k row cause
    → ((text_from false 1 (Preparing Empty) all).fault ≡ Some (record { k = k; cause = cause })) × (new ≡ old ++ objects_from w 1 (Preparing Empty) all)
fails {w} {all} {left} {rest} {course} {k} {row} {old} {page} {kept} {new} cause come cut took put =
    let s : Phase = come.phase in
    let (err, same) = took s come.shown in (
      come.faults ∙ ap (λ (l : List Record). (text_from false k s l).fault) cut ∙ ap (λ t. t.fault) (says-err false k s cause row rest err),
      put
          ∙ ap (λ t. t ++ faulty_text k row cause) same
          ∙ ap (λ t. page ++ t) (sym (objects-err w k s cause row rest err))
          ∙ ap (λ (l : List Record). page ++ objects_from w k s l) (sym cut)
          ∙ sym come.puts,
    )

-- what is put from some point on is put of the whole
puts_moved : {A : Type 0} (result : Result A (FileFault Cause)) (found whole_found : Option (Fault Cause)) (text whole old page new : List ℕ)
    → Puts result found text page new
    → whole_found ≡ found → old ++ whole ≡ page ++ text → Puts result whole_found whole old new
puts_moved (Ok done) found whole_found text whole old page new is same all = (same ∙ is.0, is.1 ∙ sym all)
puts_moved (Err (fault.Input k cause)) found whole_found text whole old page new is same all = (same ∙ is.0, is.1 ∙ sym all)
puts_moved (Err fault.Memory) found whole_found text whole old page new is same all = tt
puts_moved (Err fault.Read) found whole_found text whole old page new is same all = absurd is
puts_moved (Err fault.Write) found whole_found text whole old page new is same all = absurd is

-- no record was left
pub ends : {A : Type 0} {w : Window} {all left : List Record} {course : Course} {k : ℕ} {old page : List ℕ} (new : List ℕ) (result : Result A (FileFault Cause)) → Comes w all course k left old page → left ≡ []
    → ((s : Phase) → CourseShows course s → Puts result (end_fault k s) (last_text k s) page new) → PutsObjects result w all old new
ends {A} {w} {all} {left} {course} {k} {old} {page} new result come none put =
    let s : Phase = come.phase in
    puts_moved result (end_fault k s) _ (last_text k s) _ old page new (put s come.shown)
    (come.faults ∙ ap (λ (l : List Record). (text_from false k s l).fault) none ∙ ap (λ t. t.fault) (says-end false k s))
    (come.puts ∙ ap (λ (l : List Record). page ++ objects_from w k s l) none ∙ ap (λ t. page ++ t) (objects-end w k s))

-- what is put last, of a file that lacks something or nothing
pub last_put : (k : ℕ) (phase : Phase) (lacks : Option Cause) (old new : List ℕ) → 0 < k → lacks ≡ missing_of phase
    → new ≡ old ++ last_seen (k - 1) lacks → new ≡ old ++ last_text k phase
last_put k (Preparing stage) lacks old new some is put =
    let back : k - 1 + 1 ≡ k = omega arith in
    put ∙ ap (λ (l : Option Cause). old ++ last_seen (k - 1) l) is ∙ ap (λ n. old ++ (codes "{\"last\":" ++ decimal (k - 1) ++ fault_text n (missing stage))) back
last_put k (Running names c m) lacks old new some is put = put ∙ ap (λ (l : Option Cause). old ++ last_seen (k - 1) l) is

same_some : (a b : Cause) → Some a ≡ Some b → a ≡ b
same_some a b e = cc

not_none : {A : Type 0} (a : Cause) → Some a ≡ None → A
not_none a e = cc

pub lacking : (k : ℕ) (phase : Phase) (cause : Cause) → Some cause ≡ missing_of phase → end_fault k phase ≡ Some (record { k = k; cause = cause })
lacking k (Preparing stage) cause is = ap (λ (c : Cause). Some (record { k = k; cause = c })) (sym (same_some cause (missing stage) is))
lacking k (Running names c m) cause is = not_none cause is

pub complete : (k : ℕ) (phase : Phase) → None ≡ missing_of phase → end_fault k phase ≡ None
complete k (Preparing stage) is = not_none (missing stage) (sym is)
complete k (Running names c m) is = refl

around : (old before a b c d e objects t after : List ℕ)
    → ((old ++ (before ++ (a ++ b ++ c ++ d ++ e))) ++ objects) ++ (t ++ after) ≡ old ++ (before ++ (a ++ b ++ c ++ d ++ e ++ objects ++ t) ++ after)
around old before a b c d e objects t after = simp append_assoc

-- the page around its objects
pub put_around : (w : Window) (before after objects : List ℕ) (old head body new : List ℕ) → head ≡ old ++ head_text w before
    → body ≡ head ++ objects → new ≡ body ++ tail_text after
    → new ≡ old ++ (before ++ (codes "{\"from\":" ++ decimal w.from ++ codes ",\"steps\":" ++ decimal w.steps ++ codes ",\"records\":[\n" ++ objects ++ codes "\n]}") ++ after)
put_around w before after objects old head body new first second last =
    last ∙ ap (λ t. t ++ tail_text after) (second ∙ ap (λ t. t ++ objects) first)
    ∙ around old before (codes "{\"from\":") (decimal w.from) (codes ",\"steps\":") (decimal w.steps) (codes ",\"records\":[\n") objects (codes "\n]}") after

-- the page of a text whose records these are
pub page_put : (found : Option (Fault Cause)) (w : Window) (before after text : List ℕ) (rs : List Record) (old head body new : List ℕ)
    → rs ≡ records_of text → head ≡ old ++ head_text w before
    → ((text_from false 1 (Preparing Empty) rs).fault ≡ found) × (body ≡ head ++ objects_from w 1 (Preparing Empty) rs) → new ≡ body ++ tail_text after
    → ((drive_text text).fault ≡ found) × (new ≡ old ++ page_text w before after text)
page_put found w before after text rs old head body new are first (said, put) last = (
  ap (λ (l : List Record). (text_from false 1 (Preparing Empty) l).fault) (sym are) ∙ said,
  put_around w before after (objects_from w 1 (Preparing Empty) (records_of text)) old head body new first (put ∙ ap (λ (l : List Record). head ++ objects_from w 1 (Preparing Empty) l) are) last,
)
