-- A reading that goes on byte by byte reads the records of the whole.
use Rattle.std.proofs.Common.{◌≡◌, ◌+◌, ℕ, true, false, List, [], ◌∷◌, ◌++◌, length, Option, Some, None, refl, sym, ap, ◌∙◌, arith, inl, inr}
use Rattle.std.proofs.lemmas.Bool.{cases_Bool, cases_eq, eqb-true, ne_eqb}
use Rattle.csv.specs.Machine.{Read, ends_at_end, field_after, fields_after, is_end, next_record, step}
use Rattle.csv.specs.Reading.{default_config, records_from, records_next, strip_bom}
use Rattle.csv.specs.declared.parser.State.{State}
use Rattle.csv.specs.declared.parser.State.TheVariants as st
use Rattle.dr_records.proofs.RowsLeft.{first_record, stopped}
use Rattle.dr_records.specs.Records.{Field, Record, records_of}
use Rattle.dr_records.specs.Resuming.{action_of, ends_mark, goes_on, is_first, mark_at, records_after, records_at, settled, state_of}
use Rattle.dr_records.specs.declared.place.Action.{Action}
use Rattle.dr_records.specs.declared.place.Action.TheVariants as act
use Rattle.dr_records.specs.declared.place.Place.{Place}
use Rattle.dr_records.specs.declared.place.Place.TheVariants as place

-- all records of a text, and those that go on from a state with nothing at hand
pub all_records : (s : State) (xs : List ℕ) → records_from default_config (length xs + 1) s xs ≡ records_after s [] [] xs
all_records s xs = by (next_record default_config s [] [] xs) refl
  where
    by : (next : Option Read) → next_record default_config s [] [] xs ≡ next
        → records_from default_config (length xs + 1) s xs ≡ records_next (λ after rest. records_from default_config (length rest + 1) after rest) next
    by None none = stopped default_config (length xs + 1) s xs none
    by (Some p) is = first_record default_config (length xs + 1) s xs p (omega arith) is

after_cr : (fields : Record) (field xs : List ℕ) → next_record default_config st.AfterCr fields field xs ≡ next_record default_config st.StartRecord fields field xs
unfolding next_record
after_cr fields field [] = refl
after_cr fields field (c ∷ rest) = elim (cases_eq c 10) [
  | inl feed ↦ rw feed refl
  | inr other ↦ rw (ne_eqb c 10 other) refl
]

-- a settled state reads on as the state does
settles : (s : State) (fields : Record) (field xs : List ℕ) → records_after s fields field xs ≡ records_after (settled s) fields field xs
settles st.AfterCr fields field xs = ap (records_next (λ after rest. records_from default_config (length rest + 1) after rest)) (after_cr fields field xs)
settles st.StartRecord fields field xs = refl
settles st.StartField fields field xs = refl
settles st.InField fields field xs = refl
settles st.InQuoted fields field xs = refl
settles st.AfterQuote fields field xs = refl
settles st.InEscape fields field xs = refl
settles st.InComment fields field xs = refl

-- one byte that ends no record
byte_on : (s : State) (fields : Record) (field : Field) (c : ℕ) (more : List ℕ) → is_end (step default_config s c).1 ≡ false
    → records_after s fields field (c ∷ more)
    ≡ records_after (settled (step default_config s c).0) (fields_after (step default_config s c).1 fields field) (field_after (step default_config s c).1 c field) more
unfolding next_record
byte_on s fields field c more on = rw on (settles (step default_config s c).0 (fields_after (step default_config s c).1 fields field) (field_after (step default_config s c).1 c field) more)

-- one that does
byte_ends : (s : State) (fields : Record) (field : Field) (c : ℕ) (more : List ℕ) → is_end (step default_config s c).1 ≡ true
    → records_after s fields field (c ∷ more) ≡ fields_after (step default_config s c).1 fields field ∷ records_after (settled (step default_config s c).0) [] [] more
unfolding next_record
byte_ends s fields field c more ends = rw ends (ap (λ later. fields_after (step default_config s c).1 fields field ∷ later)
    (all_records (step default_config s c).0 more ∙ settles (step default_config s c).0 [] [] more))

-- a text that begins otherwise has no mark
pub no_mark_1 : (b : ℕ) (more : List ℕ) → (b ≡ 0xEF → ⊥) → strip_bom (b ∷ more) ≡ b ∷ more
unfolding strip_bom
no_mark_1 b [] other = refl
no_mark_1 b (c ∷ []) other = refl
no_mark_1 b (c ∷ d ∷ rest) other = rw (ne_eqb b 0xEF other) refl

no_mark_2 : (b : ℕ) (more : List ℕ) → (b ≡ 0xBB → ⊥) → strip_bom (0xEF ∷ b ∷ more) ≡ 0xEF ∷ b ∷ more
unfolding strip_bom
no_mark_2 b [] other = refl
no_mark_2 b (c ∷ rest) other = rw (ne_eqb b 0xBB other) refl

no_mark_3 : (b : ℕ) (more : List ℕ) → (b ≡ 0xBF → ⊥) → strip_bom (0xEF ∷ 0xBB ∷ b ∷ more) ≡ 0xEF ∷ 0xBB ∷ b ∷ more
unfolding strip_bom
no_mark_3 b more other = rw (ne_eqb b 0xBF other) refl

unmarked : (text : List ℕ) → strip_bom text ≡ text → records_of text ≡ records_after st.StartRecord [] [] text
unmarked text is = rw is (all_records st.StartRecord text)

-- a byte that ends a mark
marked_out : (more : List ℕ) → records_of (0xEF ∷ 0xBB ∷ 0xBF ∷ more) ≡ records_after st.StartRecord [] [] more
unfolding strip_bom
marked_out more = all_records st.StartRecord more

pub mark_ends : (p : Place) (c : ℕ) (fields : Record) (field field2 : Field) → ends_mark p c ≡ true → (is_first p ≡ true → fields ≡ []) → field2 ≡ []
    → (more : List ℕ) → records_at p fields field (c ∷ more) ≡ records_after st.StartRecord fields field2 more
mark_ends place.Mark2 c fields field field2 is none empty more = rw (eqb-true c 0xBF is, none refl, empty) (marked_out more)
mark_ends place.Start c fields field field2 is none empty more = cc
mark_ends place.Mark1 c fields field field2 is none empty more = cc
mark_ends place.StartRecord c fields field field2 is none empty more = cc
mark_ends place.StartField c fields field field2 is none empty more = cc
mark_ends place.InField c fields field field2 is none empty more = cc
mark_ends place.InQuoted c fields field field2 is none empty more = cc
mark_ends place.AfterQuote c fields field field2 is none empty more = cc

-- what came was no mark: it is a record's
not_marked : (p : Place) (fields : Record) (field : Field) (c : ℕ) (more : List ℕ) → (is_first p ≡ true → fields ≡ []) → (is_first p ≡ true → field ≡ mark_at p)
    → goes_on p c ≡ false → ends_mark p c ≡ false
    → records_at p fields field (c ∷ more) ≡ records_after (state_of p) fields field (c ∷ more)
unfolding next_record
not_marked place.Start fields field c more none mark off last = rw (none refl, mark refl) (unmarked (c ∷ more) (no_mark_1 c more (λ e. let clash : true ≡ false = rw e at off in cc)))
not_marked place.Mark1 fields field c more none mark off last = rw (none refl, mark refl) (unmarked (0xEF ∷ c ∷ more) (no_mark_2 c more (λ e. let clash : true ≡ false = rw e at off in cc)))
not_marked place.Mark2 fields field c more none mark off last = rw (none refl, mark refl) (unmarked (0xEF ∷ 0xBB ∷ c ∷ more) (no_mark_3 c more (λ e. let clash : true ≡ false = rw e at last in cc)))
not_marked place.StartRecord fields field c more none mark off last = refl
not_marked place.StartField fields field c more none mark off last = refl
not_marked place.InField fields field c more none mark off last = refl
not_marked place.InQuoted fields field c more none mark off last = refl
not_marked place.AfterQuote fields field c more none mark off last = refl

-- a byte of a mark that goes on
marked : (p q : Place) (fields fields2 : Record) (field field2 : Field) (c : ℕ) (more : List ℕ) → is_first p ≡ true → is_first q ≡ true → mark_at q ≡ mark_at p ++ c ∷ []
    → records_at p fields field (c ∷ more) ≡ records_at q fields2 field2 more
marked p q fields fields2 field field2 c more first second is = rw (first, second, is, append_one (mark_at p) c more) refl
  where
    append_one : (xs : List ℕ) (x : ℕ) (ys : List ℕ) → (xs ++ x ∷ []) ++ ys ≡ xs ++ x ∷ ys
    append_one [] x ys = refl
    append_one (a ∷ xs) x ys = ap (λ l. a ∷ l) (append_one xs x ys)

first_goes_on : (p : Place) (c : ℕ) → goes_on p c ≡ true → is_first p ≡ true
first_goes_on place.Start c on = refl
first_goes_on place.Mark1 c on = refl
first_goes_on place.Mark2 c on = cc
first_goes_on place.StartRecord c on = cc
first_goes_on place.StartField c on = cc
first_goes_on place.InField c on = cc
first_goes_on place.InQuoted c on = cc
first_goes_on place.AfterQuote c on = cc

-- at a place past the mark
past : (q : Place) (fields : Record) (field : Field) (more : List ℕ) → is_first q ≡ false → records_at q fields field more ≡ records_after (state_of q) fields field more
past q fields field more is = rw is refl

pub goes : (p q : Place) (a : Action) (c : ℕ) (fields fields2 : Record) (field field2 : Field) → (is_first p ≡ true → fields ≡ []) → (is_first p ≡ true → field ≡ mark_at p)
    → ends_mark p c ≡ false → state_of q ≡ settled (step default_config (state_of p) c).0 → action_of a ≡ (step default_config (state_of p) c).1
    → is_first q ≡ goes_on p c → (goes_on p c ≡ true → mark_at q ≡ mark_at p ++ c ∷ [])
    → is_end (action_of a) ≡ false → fields2 ≡ fields_after (action_of a) fields field → field2 ≡ field_after (action_of a) c field
    → (more : List ℕ) → records_at p fields field (c ∷ more) ≡ records_at q fields2 field2 more
goes p q a c fields fields2 field field2 none mark last state action first marks on is is2 more = elim (cases_Bool (goes_on p c)) [
  | inl more_mark ↦ marked p q fields fields2 field field2 c more (first_goes_on p c more_mark) (first ∙ more_mark) (marks more_mark)
  | inr off ↦
      let more_on : is_end (step default_config (state_of p) c).1 ≡ false = ap is_end (sym action) ∙ on in
      not_marked p fields field c more none mark off last ∙ byte_on (state_of p) fields field c more more_on
      ∙ rw (is, is2, action, ← state) (sym (past q _ _ more (first ∙ off)))
]

ended_fields : (a : Action) (fields : Record) (field : Field) → is_end (action_of a) ≡ true → fields_after (action_of a) fields field ≡ fields ++ field ∷ []
ended_fields act.Skip fields field is = cc
ended_fields act.Copy fields field is = cc
ended_fields act.EndField fields field is = cc
ended_fields act.EndRecord fields field is = refl

pub ends : (p q : Place) (a : Action) (c : ℕ) (fields fields2 last2 : Record) (field field2 : Field) → (is_first p ≡ true → fields ≡ []) → (is_first p ≡ true → field ≡ mark_at p)
    → ends_mark p c ≡ false → state_of q ≡ settled (step default_config (state_of p) c).0 → action_of a ≡ (step default_config (state_of p) c).1
    → is_first q ≡ goes_on p c → q ≡ place.StartRecord → is_end (action_of a) ≡ true → last2 ≡ fields ++ field ∷ [] → fields2 ≡ [] → field2 ≡ []
    → (more : List ℕ) → records_at p fields field (c ∷ more) ≡ last2 ∷ records_after st.StartRecord fields2 field2 more
ends p q a c fields fields2 last2 field field2 none mark last state action first starts is all empty empty2 more =
    let ended : is_end (step default_config (state_of p) c).1 ≡ true = ap is_end (sym action) ∙ is in
    let off : goes_on p c ≡ false = sym first ∙ ap is_first starts in
    let there : settled (step default_config (state_of p) c).0 ≡ st.StartRecord = sym state ∙ ap state_of starts in
    let whole : fields_after (step default_config (state_of p) c).1 fields field ≡ last2 = ap (λ x. fields_after x fields field) (sym action) ∙ ended_fields a fields field is ∙ sym all in
    not_marked p fields field c more none mark off last ∙ byte_ends (state_of p) fields field c more ended
    ∙ ap (λ r. r ∷ records_after (settled (step default_config (state_of p) c).0) [] [] more) whole
    ∙ ap (λ s. last2 ∷ records_after s [] [] more) there
    ∙ rw (empty, empty2) refl

-- at the end of a stream

pub none_left : (p : Place) (fields : Record) (field : Field) → ends_at_end (state_of p) ≡ false → records_at p fields field [] ≡ []
unfolding next_record records_from strip_bom
none_left place.Start fields field is = refl
none_left place.StartRecord fields field is = refl
none_left place.Mark1 fields field is = cc
none_left place.Mark2 fields field is = cc
none_left place.StartField fields field is = cc
none_left place.InField fields field is = cc
none_left place.InQuoted fields field is = cc
none_left place.AfterQuote fields field is = cc

pub one_left : (p : Place) (fields last2 : Record) (field : Field) → (is_first p ≡ true → fields ≡ []) → (is_first p ≡ true → field ≡ mark_at p)
    → ends_at_end (state_of p) ≡ true → last2 ≡ fields ++ field ∷ [] → records_at p fields field [] ≡ last2 ∷ []
unfolding next_record records_from strip_bom
one_left place.Start fields last2 field none mark is all = cc
one_left place.StartRecord fields last2 field none mark is all = cc
one_left place.Mark1 fields last2 field none mark is all = rw (all, none refl, mark refl) refl
one_left place.Mark2 fields last2 field none mark is all = rw (all, none refl, mark refl) refl
one_left place.StartField fields last2 field none mark is all = rw all refl
one_left place.InField fields last2 field none mark is all = rw all refl
one_left place.InQuoted fields last2 field none mark is all = rw all refl
one_left place.AfterQuote fields last2 field none mark is all = rw all refl
