-- The records that rows have left: one read takes the first of them.
use Rattle.std.proofs.Common.{Bor, IsSome, ◌≡◌, ◌≤◌, ◌<◌, ◌+◌, ◌^◌, ◌⊎◌, inl, inr, ℕ, zero, suc, Bool, List, []}
use Rattle.std.proofs.Common.{◌∷◌, ◌++◌, length, Option, Some, None, true, false, refl, sym, ap, ◌∙◌, arith}
use Rattle.std.proofs.lemmas.Bool.{cases_Bool}
use Rattle.std.specs.Prelude.{if◌then◌else◌}
use Rattle.csv.specs.Machine.{Read, ends_at_end, field_after, fields_after, is_end, next_record, step}
use Rattle.csv.specs.Reading.{NextIs, ReadRecord, ReadsNext, Ready, default_config, has_failed, is_bom}
use Rattle.csv.specs.Reading.{pending_of, records_from, records_next, source_of, strip_bom, took_first}
use Rattle.csv.specs.Records.{Row, fields_of}
use Rattle.csv.specs.declared.parser.Config.{Config}
use Rattle.csv.specs.declared.reader.Reader.{Reader}
use Rattle.csv.specs.declared.parser.State.{State}
use Rattle.csv.specs.declared.parser.State.TheVariants as st
use Rattle.dr_records.specs.TextReader.{IsTextReader, ReadsRecords, TakesFirst, records_from_state}
use Rattle.dr_records.specs.Records.{Record, records_of}

-- a record leaves no more bytes than there were
leaves : (cfg : Config) (s : State) (fields : List (List ℕ)) (field xs : List ℕ) (p : Read) → next_record cfg s fields field xs ≡ Some p
    → length p.2 ≤ length xs
unfolding next_record
leaves cfg s fields field [] p e = elim (cases_Bool (ends_at_end s)) [
  | inl ends ↦ let at : Some (fields ++ (field ∷ []), st.StartRecord, []) ≡ Some p = rw ends at e in let same : [] ≡ p.2 = cc in rw (← same) (omega arith)
  | inr goes ↦ let at : None ≡ Some p = rw goes at e in cc
]
leaves cfg s fields field (c ∷ rest) p e = elim (cases_Bool (is_end (step cfg s c).1)) [
  | inl ends ↦
      let at : Some (fields_after (step cfg s c).1 fields field, (step cfg s c).0, rest) ≡ Some p = rw ends at e in
      let same : rest ≡ p.2 = cc in rw (← same) (omega arith)
  | inr goes ↦
      let at : next_record cfg (step cfg s c).0 (fields_after (step cfg s c).1 fields field) (field_after (step cfg s c).1 c field) rest ≡ Some p = rw goes at e in
      let less = leaves cfg (step cfg s c).0 (fields_after (step cfg s c).1 fields field) (field_after (step cfg s c).1 c field) rest p at in
      omega arith
]

-- a record takes a byte, or it is the last, at the end of the text
takes : (cfg : Config) (s : State) (xs : List ℕ) (p : Read) → next_record cfg s [] [] xs ≡ Some p
    → (length p.2 < length xs) ⊎ (next_record cfg p.1 [] [] p.2 ≡ None)
unfolding next_record
takes cfg s [] p e = elim (cases_Bool (ends_at_end s)) [
  | inl ends ↦
      let at : Some (([] ∷ []), st.StartRecord, []) ≡ Some p = rw ends at e in
      let state : st.StartRecord ≡ p.1 = cc in let rest : [] ≡ p.2 = cc in inr (rw (← state, ← rest) refl)
  | inr goes ↦ let at : None ≡ Some p = rw goes at e in cc
]
takes cfg s (c ∷ rest) p e = elim (cases_Bool (is_end (step cfg s c).1)) [
  | inl ends ↦
      let at : Some (fields_after (step cfg s c).1 [] [], (step cfg s c).0, rest) ≡ Some p = rw ends at e in
      let same : rest ≡ p.2 = cc in inl (rw (← same) (omega arith))
  | inr goes ↦
      let at : next_record cfg (step cfg s c).0 (fields_after (step cfg s c).1 [] []) (field_after (step cfg s c).1 c []) rest ≡ Some p = rw goes at e in
      let less = leaves cfg (step cfg s c).0 (fields_after (step cfg s c).1 [] []) (field_after (step cfg s c).1 c []) rest p at in
      inl (omega arith)
]

pub stopped : (cfg : Config) (n : ℕ) (s : State) (xs : List ℕ) → next_record cfg s [] [] xs ≡ None → records_from cfg n s xs ≡ []
unfolding records_from
stopped cfg zero s xs none = refl
stopped cfg (suc n) s xs none = rw none refl

-- a text has the same records, however many more it might have
same_records : (cfg : Config) (n m : ℕ) (s : State) (xs : List ℕ) → length xs < n → length xs < m → records_from cfg n s xs ≡ records_from cfg m s xs
unfolding records_from
same_records cfg zero m s xs less less2 = absurd (omega arith)
same_records cfg (suc n) zero s xs less less2 = absurd (omega arith)
same_records cfg (suc n) (suc m) s xs less less2 = by (next_record cfg s [] [] xs) refl (λ p. same_records cfg n m p.1 p.2)
  where
    by : (next : Option Read) → next_record cfg s [] [] xs ≡ next
        → ((p : Read) → length p.2 < n → length p.2 < m → records_from cfg n p.1 p.2 ≡ records_from cfg m p.1 p.2) → records_from cfg (suc n) s xs ≡ records_from cfg (suc m) s xs
    by None none more = rw none refl
    by (Some p) is more = rw is (ap (λ rows. p.0 ∷ rows) (elim (takes cfg s xs p is) [
      | inl fewer ↦ more p (omega arith) (omega arith)
      | inr last ↦ stopped cfg n p.1 p.2 last ∙ sym (stopped cfg m p.1 p.2 last)
    ]))

-- the first record, and those of the bytes after it
pub first_record : (cfg : Config) (n : ℕ) (s : State) (xs : List ℕ) (p : Read) → length xs < n → next_record cfg s [] [] xs ≡ Some p
    → records_from cfg n s xs ≡ p.0 ∷ records_from cfg (length p.2 + 1) p.1 p.2
unfolding records_from
first_record cfg zero s xs p less is = absurd (omega arith)
first_record cfg (suc n) s xs p less is = rw is (ap (λ rows. p.0 ∷ rows) (elim (takes cfg s xs p is) [
  | inl fewer ↦ same_records cfg n (length p.2 + 1) p.1 p.2 (omega arith) (omega arith)
  | inr last ↦ stopped cfg n p.1 p.2 last ∙ sym (stopped cfg (length p.2 + 1) p.1 p.2 last)
]))

takes_first : (before after : Option (List ℕ)) (s s2 : State) (fields : Record) → IsSome before → ReadsNext default_config s before after true fields s2
    → records_from_state s before ≡ fields ∷ records_from_state s2 after
takes_first None after s s2 fields some next = cc
takes_first (Some xs) None s s2 fields some next = absurd next
takes_first (Some xs) (Some ys) s s2 fields some next = by (next_record default_config s [] [] xs) refl next
  where
    by : (read : Option Read) → next_record default_config s [] [] xs ≡ read → NextIs read true fields s2 ys
        → records_from_state s (Some xs) ≡ fields ∷ records_from_state s2 (Some ys)
    by None none clash = cc
    by (Some p) is (found, row, state, rest) = rw (row, state, rest) (first_record default_config (length xs + 1) s xs p (omega arith) is)

finds_none : (before after : Option (List ℕ)) (s s2 : State) (fields : Record) → ReadsNext default_config s before after false fields s2
    → records_from_state s before ≡ []
finds_none None after s s2 fields next = refl
finds_none (Some xs) None s s2 fields next = absurd next
finds_none (Some xs) (Some ys) s s2 fields next = by (next_record default_config s [] [] xs) refl next
  where
    by : (read : Option Read) → next_record default_config s [] [] xs ≡ read → NextIs read false fields s2 ys → records_from_state s (Some xs) ≡ []
    by None none same = stopped default_config (length xs + 1) s xs none
    by (Some p) is same = let clash : false ≡ true = same.0 in cc

either : (test : Bool) (xs ys : List ℕ) → IsSome (if test then Some xs else Some ys)
either true xs ys = refl
either false xs ys = refl

-- a reader of a text that has not failed knows the bytes that it has left
knows_source : (reader : Reader (Bor (List ℕ))) → has_failed reader ≡ false → IsSome (source_of (λ text. Some text.now) reader)
knows_source reader good = rw good (either _ _ _)

-- after a read of a record, what is pending is the source of the next
pending_is : (reader : Reader (Bor (List ℕ))) → reader.bom_checked ≡ true → pending_of (Some reader.rdr.now) reader ≡ source_of (λ text. Some text.now) reader
pending_is reader checked = rw checked refl

pub ready : (reader : Reader (Bor (List ℕ))) → ReadsRecords reader → Ready reader
ready reader reads = elim (cases_Bool (took_first reader)) [
  | inl first ↦ inl first
  | inr fresh ↦ inr (inr (reads.nameless, reads.first fresh))
]

-- a read takes the first of the records that are left, or finds that none is left
pub takes_row : (old new : Reader (Bor (List ℕ))) (row : Row) (found : Bool) → IsTextReader old → (has_failed old ≡ true → found ≡ false)
    → (has_failed old ≡ false → ReadRecord (λ text. Some text.now) old new found (fields_of row)) → TakesFirst old new row found
takes_row old new row true reads failed read =
    let good : has_failed old ≡ false = elim (cases_Bool (has_failed old)) [
      | inl bad ↦ let clash : true ≡ false = failed bad in cc
      | inr good ↦ good
    ] in
    let did = read good in
    let next = rw ((reads good).config, pending_is new did.1) at did.0 in
    takes_first (source_of (λ text. Some text.now) old) (source_of (λ text. Some text.now) new) old.state new.state (fields_of row) (knows_source old good) next
takes_row old new row false reads failed read = elim (cases_Bool (has_failed old)) [
  | inl bad ↦ rw bad refl
  | inr good ↦
      let next = rw (reads good).config at (read good).0 in
      finds_none (source_of (λ text. Some text.now) old) (pending_of (Some new.rdr.now) new) old.state new.state (fields_of row) next
]

no_more : (cfg : Config) (n : ℕ) (s : State) (xs : List ℕ) → length (records_from cfg n s xs) ≤ n
unfolding records_from
no_more cfg zero s xs = omega arith
no_more cfg (suc n) s xs = by (next_record cfg s [] [] xs) (λ p. no_more cfg n p.1 p.2)
  where
    by : (next : Option Read) → ((p : Read) → length (records_from cfg n p.1 p.2) ≤ n) → length (records_next (records_from cfg n) next) ≤ suc n
    by None rest = omega arith
    by (Some p) rest = let less = rest p in omega arith

unmarked : (xs : List ℕ) → length (strip_bom xs) ≤ length xs
unfolding strip_bom
unmarked [] = omega arith
unmarked (a ∷ []) = omega arith
unmarked (a ∷ b ∷ []) = omega arith
unmarked (a ∷ b ∷ c ∷ rest) = elim (cases_Bool (is_bom a b c)) [
  | inl bom ↦ rw bom (omega arith)
  | inr none ↦ rw none (omega arith)
]

-- a text has no more records than bytes, and one: each has a number that fits
pub numbers_fit : (text : List ℕ) (rows : List Record) → length text < 2 ^ 63 → rows ≡ records_of text → length rows + 1 < 2 ^ 64
numbers_fit text rows short are =
    let most = no_more default_config (length (strip_bom text) + 1) st.StartRecord (strip_bom text) in
    let less = unmarked text in
    let same = ap length are in
    omega (arith, short, most, less, same)
