-- Answers that come in two batches.
use Rattle.std.proofs.Common.{◌≡◌, ◌<◌, ◌+◌, ℕ, zero, suc, List, ◌++◌, length, flat_map, sym, ap, ◌∙◌, arith, append-nil, append_assoc, length-append}
use Rattle.std.specs.List.{range_with_len}
use Rattle.dr_seq.specs.declared.event.Event.{Event}
use Rattle.dr_accounts.specs.Answers.{answer_at, answers_to}
use Rattle.dr_accounts.specs.Report.{Line}
use Rattle.dr_accounts.proofs.Answering.{front_answer, one_line_more, same_lines}

-- the places of two lists, one after the other
range_apart : (f : ℕ → Line) (a m n : ℕ) → flat_map f (range_with_len a (m + n)) ≡ flat_map f (range_with_len a m) ++ flat_map f (range_with_len (a + m) n)
range_apart f a m zero = let same : m + 0 ≡ m = omega arith in ap (λ k. flat_map f (range_with_len a k)) same ∙ sym (append-nil (flat_map f (range_with_len a m)))
range_apart f a m (suc n) =
    let more : m + suc n ≡ suc (m + n) = omega arith in
    let at : a + (m + n) ≡ (a + m) + n = omega arith in
    ap (λ k. flat_map f (range_with_len a k)) more ∙ one_line_more f a (m + n) ∙ ap (λ l. l ++ f (a + (m + n))) (range_apart f a m n)
    ∙ append_assoc (flat_map f (range_with_len a m)) (flat_map f (range_with_len (a + m) n)) (f (a + (m + n)))
    ∙ ap (λ k. flat_map f (range_with_len a m) ++ (flat_map f (range_with_len (a + m) n) ++ f k)) at
    ∙ ap (λ l. flat_map f (range_with_len a m) ++ l) (sym (one_line_more f (a + m) n))

-- answers to events that come in two batches
pub answers-append : (past before events : List Event) → answers_to past before ++ answers_to (past ++ before) events ≡ answers_to past (before ++ events)
answers-append past before events =
    let ends : length past + length before ≡ length (past ++ before) = sym (length-append past before) in
    sym (
    ap (λ n. flat_map (answer_at (past ++ (before ++ events))) (range_with_len (length past) n)) (length-append before events)
    ∙ ap (λ l. flat_map (answer_at l) (range_with_len (length past) (length before + length events))) (sym (append_assoc past before events))
    ∙ range_apart (answer_at ((past ++ before) ++ events)) (length past) (length before) (length events)
    ∙ ap (λ l. l ++ flat_map (answer_at ((past ++ before) ++ events)) (range_with_len (length past + length before) (length events)))
    (same_lines (answer_at ((past ++ before) ++ events)) (answer_at (past ++ before)) (length past) (length before)
    (λ k less. front_answer (past ++ before) events k (omega (arith, less, ends))))
    ∙ ap (λ n. answers_to past before ++ flat_map (answer_at ((past ++ before) ++ events)) (range_with_len n (length events))) ends
    )
