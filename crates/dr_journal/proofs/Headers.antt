-- A header before the bytes.
use Rattle.std.proofs.Common.{◌≡◌, ◌+◌, ℕ, List, ◌++◌, length, take, drop, sym, ◌∙◌, ap, subst, arith, length-append}
use Rattle.std.proofs.Math.Seq.{take-append-add, drop-append-add}
use Rattle.dr_journal.specs.Meaning.Disk.{IsMix, Mixed, written}
use Rattle.dr_journal.specs.Meaning.Format.{header, IsJournal, behind_header, records_in, recovered}
use Rattle.dr_journal.specs.Calls.Journals.{StandsFor}
use Rattle.dr_journal.proofs.Mixes.{mix_front}

pub length-header : (rest : List ℕ) → length (header ++ rest) ≡ 8 + length rest
length-header rest = length-append header rest

-- a write behind it
pub lift_written : (at e : ℕ) (bytes body : List ℕ) → at ≡ 8 + e → written at bytes (header ++ body) ≡ header ++ written e bytes body
lift_written at e bytes body is =
    let more : at + length bytes ≡ 8 + (e + length bytes) = omega (arith, is) in
    ap (λ (n : ℕ). take n (header ++ body) ++ bytes ++ drop (at + length bytes) (header ++ body)) is
    ∙ ap (λ (l : List ℕ). l ++ bytes ++ drop (at + length bytes) (header ++ body)) (take-append-add header body e)
    ∙ ap (λ (n : ℕ). (header ++ take e body) ++ bytes ++ drop n (header ++ body)) more
    ∙ ap (λ (l : List ℕ). (header ++ take e body) ++ bytes ++ l) (drop-append-add header body (e + length bytes))

-- and what a crash leaves of it
pub lift_mixed : (at e : ℕ) (bytes body c : List ℕ) → at ≡ 8 + e → Mixed at bytes (header ++ body) c → (m : List ℕ) × (c ≡ header ++ m) × Mixed e bytes body m
lift_mixed at e bytes body c is mix =
    mix_front header body (written e bytes body) c (subst (λ f. IsMix (header ++ body) f c) (lift_written at e bytes body is) mix)

pub stands : (m : List ℕ) (records : List (List ℕ)) (c : List ℕ) → c ≡ header ++ m → records_in m ≡ records → StandsFor records c
stands m records c is same = ((m, is), ap recovered is ∙ same)

-- a journal is a header and what is behind it
pub split_journal : (file : List ℕ) → IsJournal file → file ≡ header ++ behind_header file
split_journal file journal = journal.1 ∙ ap (λ (l : List ℕ). header ++ behind_header l) (sym journal.1)
