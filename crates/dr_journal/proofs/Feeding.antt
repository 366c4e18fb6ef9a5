-- A file that is read piece by piece.
use Rattle.std.proofs.Common.{◌≡◌, ◌≢◌, ◌<◌, ◌≤◌, ◌+◌, ◌⊎◌, inl, inr, ⊎_elim, ℕ, suc, List, [], ◌∷◌, ◌++◌, Vec, length, take, drop, get_or, refl, sym, ◌∙◌, ap, subst, arith, append_assoc, length-append, take-append-drop}
use Rattle.std.specs.Prelude.{Result, Ok, Err, IfErr}
use Rattle.std.specs.declared.alloc.Global.{Global}
use Rattle.std.proofs.lemmas.List.{append-nil, take_all, length-take, length-drop, map-append, take_at, drop-append-le, take_more}
use Rattle.std.proofs.lemmas.Bool.{cases_lt}
use Rattle.std.proofs.Math.Seq.{split_at, take-append_seam, drop-append_seam}
use Rattle.dr_journal.specs.Meaning.Format.{header, IsJournal, IsNew, IsForeign, behind_header, records_in, recovered}
use Rattle.dr_journal.specs.Calls.Journals.{bytes_of}
use Rattle.dr_journal.specs.Calls.Reading.{Reads, ReadsOn, IsForeignSoFar}
use Rattle.dr_journal.specs.Calls.Readers.{HasRead}
use Rattle.dr_journal.specs.Inside.Reading.{HasScanned, Takes, tail_of}
use Rattle.dr_journal.specs.declared.recovery.Recovery.{Recovery}
use Rattle.dr_journal.specs.declared.fault.OpenFault.{OpenFault}
use Rattle.dr_journal.specs.declared.fault.OpenFault.TheVariants.{NotAJournal, InUse, Journal}
use Rattle.dr_journal.specs.declared.fault.JournalFault.TheVariants.{NoMemory, Failed, Full}
use Rattle.dr_journal.proofs.Headers.{length-header}
use Rattle.dr_journal.proofs.Reading.{records_longer}

abbrev Records : Type 0
Records = List (Vec ℕ Global)

abbrev IsBegun : List ℕ → Type 0
IsBegun file = IsNew file ⊎ IsJournal file

empty : (l : List ℕ) → length l ≤ 0 → l ≡ []
empty [] le = refl
empty (x ∷ l) le = absurd (omega arith)

pub short_behind : (file : List ℕ) → length file ≤ 8 → behind_header file ≡ []
short_behind file le = empty (behind_header file) (omega (arith, le, length-drop 8 file))

new_is_short : (file : List ℕ) → IsNew file → length file < 8
new_is_short file fresh =
    let eight : 8 ≡ length (file ++ fresh.0) = ap length fresh.2 in
    omega (arith, eight, length-append file fresh.0, fresh.1)

short_is_new : (file : List ℕ) → IsBegun file → length file < 8 → IsNew file
short_is_new file (inl fresh) lt = fresh
short_is_new file (inr journal) lt = absurd (omega (arith, lt, ap length journal.1, length-header journal.0))

pub long_is_journal : (file : List ℕ) → IsBegun file → 8 ≤ length file → IsJournal file
long_is_journal file (inl fresh) le = absurd (omega (arith, le, new_is_short file fresh))
long_is_journal file (inr journal) le = journal

eight : length header ≡ 8
eight = refl

-- as far as it goes, a file begins with the header
pub begun_of : (file : List ℕ) → take 8 file ≡ take (length file) header → IsBegun file
begun_of file e = elim (cases_lt (length file) 8) [
  | inl lt ↦ inl (
    drop (length file) header,
    omega (arith, lt, length-drop (length file) header, eight),
    sym (take-append-drop (length file) header) ∙ ap (λ (l : List ℕ). l ++ drop (length file) header) (sym e ∙ take_all 8 file (omega (arith, lt))),
  )
  | inr le ↦ inr (drop 8 file, sym (take-append-drop 8 file) ∙ ap (λ (l : List ℕ). l ++ drop 8 file) (e ∙ take_all (length file) header (omega (arith, le, eight))))
]

begins_from : (file : List ℕ) → IsBegun file → take 8 file ≡ take (length file) header
begins_from file (inl fresh) = take_all 8 file (omega (arith, new_is_short file fresh)) ∙ sym (ap (λ (l : List ℕ). take (length file) l) fresh.2 ∙ take_at file fresh.0 (length file) refl)
begins_from file (inr journal) =
    ap (λ (l : List ℕ). take 8 l) journal.1 ∙ take-append_seam header journal.0
    ∙ sym (take_all (length file) header (omega (arith, ap length journal.1, length-header journal.0, eight)))

-- what the header has next
module _ (file : List ℕ) (fresh : IsNew file) (n : ℕ) (is : n ≡ length file) (h d : ℕ) (next : h ≡ get_or header n d) where
  abbrev later : List ℕ
  later = drop (suc n) header

  pub header_is : header ≡ file ++ h ∷ later
  header_is =
      let within : n < 8 = omega (arith, is, new_is_short file fresh) in
      let front : take n header ≡ file = ap (λ (l : List ℕ). take n l) fresh.2 ∙ take_at file fresh.0 n (sym is) in
      split_at header n d within ∙ ap (λ (l : List ℕ). l ++ get_or header n d ∷ later) front ∙ ap (λ (x : ℕ). file ++ x ∷ later) (sym next)

  pub begins_on : IsBegun (file ++ h ∷ [])
  begins_on = begun later header_is
    where
      begun : (t : List ℕ) → header ≡ file ++ h ∷ t → IsBegun (file ++ h ∷ [])
      begun [] e = inr ([], sym (append-nil header ∙ e))
      begun (y ∷ t) e = inl (y ∷ t, omega arith, e ∙ sym (append_assoc file (h ∷ []) (y ∷ t)))

  pub refused : (b : ℕ) → b ≢ h → (rest : List ℕ) → IsForeign (file ++ b ∷ rest)
  refused b other rest = (
    λ journal. other (heads b h rest (later ++ journal.0) (journal.1 ∙ ap (λ (l : List ℕ). l ++ journal.0) header_is ∙ append_assoc file (h ∷ later) journal.0)),
    λ new. other (heads b h (rest ++ new.0) later (sym (append_assoc file (b ∷ rest) new.0) ∙ sym new.2 ∙ header_is)),
  )
    where
      heads : (x y : ℕ) (xs ys : List ℕ) → file ++ x ∷ xs ≡ file ++ y ∷ ys → x ≡ y
      heads x y xs ys e = ap (λ (l : List ℕ). get_or l 0 0) (sym (drop-append_seam file (x ∷ xs)) ∙ ap (λ (l : List ℕ). drop (length file) l) e ∙ drop-append_seam file (y ∷ ys))

-- one byte more of the header
pub header_read : (old new : Recovery) (file : List ℕ) (h d : ℕ) → HasRead old file → old.matched < 8 → h ≡ get_or header old.matched d → new.matched ≡ old.matched + 1 → new.scan ≡ old.scan → HasRead new (file ++ h ∷ [])
header_read old new file h d read lt next counted same =
    let size = length-take 8 file in
    let short : length file < 8 = omega (arith, size, read.matched, lt) in
    let is : old.matched ≡ length file = omega (arith, size, read.matched, short) in
    let fresh = short_is_new file (begun_of file read.begins) short in
    let longer = length-append file (h ∷ []) in
    let one_more : new.matched ≡ length (take 8 (file ++ h ∷ [])) = omega (arith, counted, is, short, longer, length-take 8 (file ++ h ∷ [])) in
    record {
      begins = begins_from (file ++ h ∷ []) (begins_on file fresh old.matched is h d next);
      matched = one_more;
      scanned = subst (λ s. HasScanned s (behind_header (file ++ h ∷ []))) (sym same)
          (subst (λ (l : List ℕ). HasScanned old.scan l) (short_behind file (omega (arith, short)) ∙ sym (short_behind (file ++ h ∷ []) (omega (arith, short, longer)))) read.scanned);
    }

pub header_gives : (file : List ℕ) (h : ℕ) → length file < 8 → recovered (file ++ h ∷ []) ≡ recovered file ++ []
header_gives file h short =
    let longer = length-append file (h ∷ []) in
    ap records_in (short_behind (file ++ h ∷ []) (omega (arith, short, longer)))
    ∙ ap (λ (l : List ℕ). records_in l ++ []) (sym (short_behind file (omega (arith, short))))

pub short_yet : (old : Recovery) (file : List ℕ) → HasRead old file → old.matched < 8 → length file < 8
short_yet old file read lt = omega (arith, length-take 8 file, read.matched, lt)

pub foreign_there : (old : Recovery) (b h d : ℕ) → old.matched < 8 → h ≡ get_or header old.matched d → b ≢ h → IsForeignSoFar old (b ∷ [])
foreign_there old b h d lt next other file rest read =
    let size = length-take 8 file in
    let short : length file < 8 = omega (arith, size, read.matched, lt) in
    let is : old.matched ≡ length file = omega (arith, size, read.matched, short) in
    refused file (short_is_new file (begun_of file read.begins) short) old.matched is h d next b other rest

pub no_foreign : (old : Recovery) (file : List ℕ) → HasRead old file → IsForeign file → ⊥
no_foreign old file read foreign = ⊎_elim foreign.1 foreign.0 (begun_of file read.begins)

-- one byte more behind it
module _ (old : Recovery) (file : List ℕ) (read : HasRead old file) (past : 8 ≤ old.matched) where
  pub long : 8 ≤ length file
  long = omega (arith, length-take 8 file, read.matched, past)

  pub no_stranger : (more : List ℕ) → IsForeign (file ++ more) → ⊥
  no_stranger more foreign =
      let journal = long_is_journal file (begun_of file read.begins) long in
      foreign.0 (journal.0 ++ more, ap (λ (l : List ℕ). l ++ more) journal.1 ∙ append_assoc header journal.0 more)

  pub body_read : (new : Recovery) (b : ℕ) → new.matched ≡ old.matched → HasScanned new.scan (behind_header file ++ b ∷ []) → HasRead new (file ++ b ∷ [])
  body_read new b same scanned =
      let journal = long_is_journal file (begun_of file read.begins) long in
      let one_more : new.matched ≡ length (take 8 (file ++ b ∷ [])) = omega (arith, same, long, read.matched, length-take 8 file, length-append file (b ∷ []), length-take 8 (file ++ b ∷ [])) in
      record {
        begins = begins_from (file ++ b ∷ []) (inr (journal.0 ++ b ∷ [], ap (λ (l : List ℕ). l ++ b ∷ []) journal.1 ∙ append_assoc header journal.0 (b ∷ [])));
        matched = one_more;
        scanned = subst (λ (l : List ℕ). HasScanned new.scan l) (sym (drop-append-le 8 file (b ∷ []) long)) scanned;
      }

  pub body_behind : (b : ℕ) → behind_header (file ++ b ∷ []) ≡ behind_header file ++ b ∷ []
  body_behind b = drop-append-le 8 file (b ∷ []) long

-- a byte behind the header
pub body_reads : (old new : Recovery) (b : ℕ) (before after : Records) → 8 ≤ old.matched → new.matched ≡ old.matched → Takes old.scan new.scan b before after → Reads old new (b ∷ []) before after
body_reads old new b before after past same takes file read =
    let all = takes (behind_header file) read.scanned in
    (body_read old file read past new b same all.0, (all.1.0, all.1.1, ap records_in (body_behind old file read past b) ∙ all.1.2))

-- one piece and then another
pub joined : (old mid new : Recovery) (xs ys : List ℕ) (before between after : Records) → Reads old mid xs before between → Reads mid new ys between after → Reads old new (xs ++ ys) before after
joined old mid new xs ys before between after first second file read =
    let a = first file read in
    let b = second (file ++ xs) a.0 in
    let one = append_assoc file xs ys in (
      subst (λ (f : List ℕ). HasRead new f) one b.0,
      (
        a.1.0 ++ b.1.0,
        b.1.1 ∙ ap (λ (l : Records). l ++ b.1.0) a.1.1 ∙ append_assoc before a.1.0 b.1.0,
        ap recovered (sym one) ∙ b.1.2 ∙ ap (λ (l : List (List ℕ)). l ++ bytes_of b.1.0) a.1.2 ∙ append_assoc (recovered file) (bytes_of a.1.0) (bytes_of b.1.0)
            ∙ ap (λ (l : List (List ℕ)). recovered file ++ l) (sym (map-append (λ (v : Vec ℕ Global). v.items) a.1.0 b.1.0)),
      ),
    )

-- a longer file stands for as much and more
goes_on : (file more : List ℕ) → (later : List (List ℕ)) × (recovered (file ++ more) ≡ recovered file ++ later)
goes_on file more = elim (cases_lt (length file) 8) [
  | inl short ↦ (recovered (file ++ more), ap (λ (l : List ℕ). records_in l ++ recovered (file ++ more)) (sym (short_behind file (omega (arith, short)))))
  | inr long ↦ (records_in (tail_of (behind_header file) ++ more), ap records_in (drop-append-le 8 file more long) ∙ records_longer (behind_header file) more)
]

module _ (piece : List ℕ) (i b d : ℕ) (within : i < length piece) (is : b ≡ get_or piece i d) where
  pub next_piece : take (i + 1) piece ≡ take i piece ++ b ∷ []
  next_piece = take_more piece i d within ∙ ap (λ (x : ℕ). take i piece ++ x ∷ []) (sym is)

  whole_piece : piece ≡ take i piece ++ b ∷ drop (suc i) piece
  whole_piece = split_at piece i d within ∙ ap (λ (x : ℕ). take i piece ++ x ∷ drop (suc i) piece) (sym is)

  module _ (old mid : Recovery) (before between : Records) (so_far : Reads old mid (take i piece) before between) where
    pub stopped : ReadsOn old piece before between
    stopped file read =
        let a = so_far file read in
        let rest = b ∷ drop (suc i) piece in
        let on = goes_on (file ++ take i piece) rest in
        let all : file ++ piece ≡ (file ++ take i piece) ++ rest = ap (λ (l : List ℕ). file ++ l) whole_piece ∙ sym (append_assoc file (take i piece) rest) in (
          a.1.0,
          a.1.1,
          (
            on.0,
            ap recovered all ∙ on.1 ∙ ap (λ (l : List (List ℕ)). l ++ on.0) a.1.2 ∙ append_assoc (recovered file) (bytes_of a.1.0) on.0,
          ),
        )

    pub stranger : IsForeignSoFar mid (b ∷ []) → IsForeignSoFar old piece
    stranger foreign file rest read =
        let a = so_far file read in
        let more = drop (suc i) piece in
        let all : file ++ (piece ++ rest) ≡ (file ++ take i piece) ++ b ∷ (more ++ rest) =
        ap (λ (l : List ℕ). file ++ (l ++ rest)) whole_piece
        ∙ ap (λ (l : List ℕ). file ++ l) (append_assoc (take i piece) (b ∷ more) rest)
        ∙ sym (append_assoc file (take i piece) (b ∷ (more ++ rest))) in
        subst (λ (f : List ℕ). IsForeign f) (sym all) (foreign (file ++ take i piece) (more ++ rest) a.0)

    pub no_stranger_yet : ((file more : List ℕ) → HasRead mid file → IsForeign (file ++ more) → ⊥) → (file : List ℕ) → HasRead old file → IsForeign (file ++ piece) → ⊥
    no_stranger_yet none file read foreign =
        let a = so_far file read in
        let rest = b ∷ drop (suc i) piece in
        let all : file ++ piece ≡ (file ++ take i piece) ++ rest = ap (λ (l : List ℕ). file ++ l) whole_piece ∙ sym (append_assoc file (take i piece) rest) in
        none (file ++ take i piece) rest a.0 (subst (λ (f : List ℕ). IsForeign f) all foreign)

-- what an error says that says it of every error
pub at_error : {A E : Type 0} (r : Result A E) (P : Type 0) → P → IfErr r (λ e. P)
at_error (Ok x) P p = tt
at_error (Err e) P p = p

-- the only fault that is left
pub only_foreign : (fault : OpenFault) → (fault ≡ InUse → ⊥) → (fault ≡ Journal NoMemory → ⊥) → (fault ≡ Journal Failed → ⊥) → (fault ≡ Journal Full → ⊥) → fault ≡ NotAJournal
only_foreign NotAJournal used memory failed full = refl
only_foreign InUse used memory failed full = absurd (used refl)
only_foreign (Journal NoMemory) used memory failed full = absurd (memory refl)
only_foreign (Journal Failed) used memory failed full = absurd (failed refl)
only_foreign (Journal Full) used memory failed full = absurd (full refl)
