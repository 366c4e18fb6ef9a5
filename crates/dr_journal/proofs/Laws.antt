-- Batches as they are read.
use Rattle.std.proofs.Common.{◌≡◌, ◌<◌, ◌≤◌, ℕ, zero, suc, List, [], ◌∷◌, ◌++◌, length, take, refl, ◌∙◌, ap, arith, length-append}
use Rattle.dr_journal.specs.Meaning.Format.{whole_length, whole_batches, records_in, records_from, coded_records, frame}
use Rattle.dr_journal.proofs.Codes.{is_whole, whole_kept, nothing_more, nothing_recovered, recovered_append}
use Rattle.dr_journal.proofs.Frames.{IsClean, clean_lines, whole_frame, read_lines}

pub read_frame : (batch : List (List ℕ)) → records_in (frame batch) ≡ batch
read_frame batch = ap (λ (l : List ℕ). records_from [] 0 l) (whole_kept (frame batch) (whole_frame batch)) ∙ read_lines batch

pub read_behind : (bytes : List ℕ) (batch : List (List ℕ)) → records_in (whole_batches bytes ++ frame batch) ≡ records_in bytes ++ batch
read_behind bytes batch = recovered_append (whole_batches bytes) (frame batch) (is_whole bytes) ∙ ap (λ (l : List (List ℕ)). records_in bytes ++ l) (read_frame batch)

-- a beginning of a batch, and then a byte that is not written yet
hole : (at : ℕ) (l rest : List ℕ) → IsClean l → at ≤ length l → whole_length (take at (l ++ 2 ∷ []) ++ 0 ∷ rest) ≡ 0
hole zero l rest clean le = refl
hole (suc at) [] rest clean le = absurd (omega arith)
hole (suc at) (b ∷ l) rest clean le = nothing_more b (take at (l ++ 2 ∷ []) ++ 0 ∷ rest) clean.1 (hole at l rest clean.2 (omega arith))

pub read_broken : (batch : List (List ℕ)) (at : ℕ) (rest : List ℕ) → at < length (frame batch) → records_in (take at (frame batch) ++ 0 ∷ rest) ≡ []
read_broken batch at rest lt =
    nothing_recovered (take at (frame batch) ++ 0 ∷ rest) (hole at (coded_records batch) rest (clean_lines batch) (omega (arith, lt, length-append (coded_records batch) (2 ∷ []))))
