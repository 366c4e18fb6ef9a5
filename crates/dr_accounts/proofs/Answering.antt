-- The answers of a responder, an event at a time.
use Rattle.std.proofs.Common.{◌≡◌, ◌≤◌, ◌<◌, ◌+◌, ℕ, zero, suc, Bool, false, List, [], ◌∷◌, ◌++◌, length, flat_map, string_bytes, refl, sym, ap, subst, ◌∙◌, arith, append-nil, append_assoc, length-append}
use Rattle.std.specs.List.{range_with_len}
use Rattle.dr_seq.specs.declared.event.Event.{Event}
use Rattle.dr_meaning.specs.Calls.Handling.{GoesThrough, showings}
use Rattle.dr_operations.specs.declared.operation.Movement.{Movement}
use Rattle.dr_operations.specs.Operations.{movement_of}
use Rattle.dr_accounts.specs.Accounts.{Numbers, balance_by, balance_of, balances_after, is_refused, movement_at}
use Rattle.dr_accounts.specs.Answers.{answer_at, answer_line, answered, answers_to}
use Rattle.dr_accounts.specs.Handlers.{Booked, HasBusiness, balance_in, kept}
use Rattle.dr_accounts.specs.Report.{Line}
use Rattle.dr_accounts.specs.Responding.{Answered, Answers, IsResponderOf, answering, balances_in}
use Rattle.dr_accounts.specs.declared.responder.Responder.{Responder}
use Rattle.dr_workers.proofs.Along.{along}
use Rattle.dr_accounts.proofs.Shown.{booked_goes, front_balances, front_movement, last_movement, one_longer, took}

-- the lines of places, one place more

pub same_lines : (f g : ℕ → Line) (a n : ℕ) → ((k : ℕ) → k < a + n → f k ≡ g k) → flat_map f (range_with_len a n) ≡ flat_map g (range_with_len a n)
same_lines f g a zero same = refl
same_lines f g a (suc n) same =
    let here : f a ≡ g a = same a (omega arith) in
    ap (λ l. l ++ flat_map f (range_with_len (a + 1) n)) here
    ∙ ap (λ l. g a ++ l) (same_lines f g (a + 1) n (λ k less. same k (omega arith)))

pub one_line_more : (f : ℕ → Line) (a n : ℕ) → flat_map f (range_with_len a (suc n)) ≡ flat_map f (range_with_len a n) ++ f (a + n)
one_line_more f a zero = let at : a ≡ a + 0 = omega arith in append-nil (f a) ∙ ap f at
one_line_more f a (suc n) =
    let at : (a + 1) + n ≡ a + suc n = omega arith in
    ap (λ l. f a ++ l) (one_line_more f (a + 1) n ∙ ap (λ k. flat_map f (range_with_len (a + 1) n) ++ f k) at)
    ∙ sym (append_assoc (f a) (flat_map f (range_with_len (a + 1) n)) (f (a + suc n)))

-- the answer to a movement, from the balances before it
abbrev line : ℕ → Movement → Numbers → Line
line k m balances = answer_line k (is_refused m balances) (balance_by m balances (answered m))

-- events that come later change no answer of before
pub front_answer : (es fs : List Event) (k : ℕ) → k < length es → answer_at (es ++ fs) k ≡ answer_at es k
unfolding balances_after
front_answer es fs k less =
    let within : k ≤ length es = omega arith in
    ap (λ m. line k m (balances_after (es ++ fs) k)) (front_movement es fs k less) ∙ ap (λ b. line k (movement_at es k) b) (front_balances es fs k within)

-- the last answer
last_answer : (es : List Event) (e : Event) → answer_at (es ++ e ∷ []) (length es) ≡ line (length es) (movement_of e) (balance_of es)
unfolding balances_after
last_answer es e =
    let within : length es ≤ length es = omega arith in
    ap (λ m. line (length es) m (balances_after (es ++ e ∷ []) (length es))) (last_movement es e) ∙ ap (λ b. line (length es) (movement_of e) b) (front_balances es (e ∷ []) (length es) within)

answers-push : (past es : List Event) (e : Event) → answers_to past (es ++ e ∷ []) ≡ answers_to past es ++ line (length (past ++ es)) (movement_of e) (balance_of (past ++ es))
answers-push past es e =
    let longer : length (es ++ e ∷ []) ≡ suc (length es) = let one = one_longer es e in omega arith in
    let ends : length past + length es ≡ length (past ++ es) = sym (length-append past es) in
    ap (λ n. flat_map (answer_at (past ++ (es ++ e ∷ []))) (range_with_len (length past) n)) longer
    ∙ ap (λ l. flat_map (answer_at l) (range_with_len (length past) (suc (length es)))) (sym (append_assoc past es (e ∷ [])))
    ∙ one_line_more (answer_at ((past ++ es) ++ e ∷ [])) (length past) (length es)
    ∙ ap (λ l. l ++ answer_at ((past ++ es) ++ e ∷ []) (length past + length es))
    (same_lines (answer_at ((past ++ es) ++ e ∷ [])) (answer_at (past ++ es)) (length past) (length es) (λ k less. front_answer (past ++ es) (e ∷ []) k (omega (arith, less, ends))))
    ∙ ap (λ l. answers_to past es ++ l) (ap (answer_at ((past ++ es) ++ e ∷ [])) ends ∙ last_answer (past ++ es) e)

-- an event is answered by what is read of the accounts before it and after it
pub answered_by : (event : Event) (old new : Responder) (m : Movement) (s : ℕ) (refused : Bool) (balance account : ℕ) → Booked event old.business new.business → m ≡ movement_of event
    → s ≡ old.business.count → refused ≡ is_refused m (balances_in old.business) → account ≡ answered m → balance ≡ balance_in (kept new.business account)
    → string_bytes new.answers ≡ string_bytes old.answers ++ answer_line s refused balance → Answered event old new
answered_by event old new m s refused balance account booked same at is which left wrote = record {
  booked = booked;
  answer = wrote ∙ ap (λ n. string_bytes old.answers ++ answer_line n refused balance) at
      ∙ ap (λ r. string_bytes old.answers ++ answer_line old.business.count r balance) (is ∙ ap (λ x. is_refused x (balances_in old.business)) same)
      ∙ ap (λ n. string_bytes old.answers ++ answer_line old.business.count (is_refused (movement_of event) (balances_in old.business)) n)
      (left ∙ ap (λ a. balance_in (kept new.business a)) (which ∙ ap answered same) ∙ (booked.moved (answered (movement_of event))).balance);
}

responder_goes : (past : List Event) (a b : Responder) (es : List Event) (e : Event) (s : ℕ) (end : Bool)
    → IsResponderOf a past es → Answers a e b → IsResponderOf b past (es ++ e ∷ [])
responder_goes past a b es e s end has goes = λ fine.
    let t = took (λ r. r.failed) _ a b goes fine in
    let h = has t.0 in
    let before : balances_in a.business ≡ balance_of (past ++ es) = (λ i. λ x. h.accounts.balances x i) in
    record {
      accounts = subst (λ l. HasBusiness b.business l) (append_assoc past es (e ∷ [])) (booked_goes a.business b.business (past ++ es) e h.accounts t.1.booked);
      answers = t.1.answer ∙ ap (λ l. l ++ line a.business.count (movement_of e) (balances_in a.business)) h.answers
          ∙ ap (λ n. answers_to past es ++ line n (movement_of e) (balances_in a.business)) h.accounts.count
          ∙ ap (λ b. answers_to past es ++ line (length (past ++ es)) (movement_of e) b) before ∙ sym (answers-push past es e);
    }

-- what it holds after a batch
pub answers_shown : (past events : List Event) (first last : Responder) (s : ℕ) (end : Bool) → IsResponderOf first past [] → GoesThrough answering first (showings events s end) last
    → last.failed ≡ false → string_bytes last.answers ≡ answers_to past events
answers_shown past events first last s end has through fine =
    (along answering (λ r es. IsResponderOf r past es) (responder_goes past) first last [] events s end has through fine).answers

-- the places of two lists, one after the other
range_apart : (f : ℕ → Line) (a m n : ℕ) → flat_map f (range_with_len a (m + n)) ≡ flat_map f (range_with_len a m) ++ flat_map f (range_with_len (a + m) n)
range_apart f a m zero = let same : m + 0 ≡ m = omega arith in ap (λ k. flat_map f (range_with_len a k)) same ∙ sym (append-nil (flat_map f (range_with_len a m)))
range_apart f a m (suc n) =
    let more : m + suc n ≡ suc (m + n) = omega arith in
    let at : a + (m + n) ≡ (a + m) + n = omega arith in
    ap (λ k. flat_map f (range_with_len a k)) more ∙ one_line_more f a (m + n) ∙ ap (λ l. l ++ f (a + (m + n))) (range_apart f a m n)
    ∙ append_assoc (flat_map f (range_with_len a m)) (flat_map f (range_with_len (a + m) n)) (f (a + (m + n)))
    ∙ ap (λ k. flat_map f (range_with_len a m) ++ (flat_map f (range_with_len (a + m) n) ++ f k)) at
    ∙ ap (λ l. flat_map f (range_with_len a m) ++ l) (sym (one_line_more f (a + m) n))

-- answers to events that come in two batches
answers-append : (past before events : List Event) → answers_to past before ++ answers_to (past ++ before) events ≡ answers_to past (before ++ events)
answers-append past before events =
    let ends : length past + length before ≡ length (past ++ before) = sym (length-append past before) in
    sym (
    ap (λ n. flat_map (answer_at (past ++ (before ++ events))) (range_with_len (length past) n)) (length-append before events)
    ∙ ap (λ l. flat_map (answer_at l) (range_with_len (length past) (length before + length events))) (sym (append_assoc past before events))
    ∙ range_apart (answer_at ((past ++ before) ++ events)) (length past) (length before) (length events)
    ∙ ap (λ l. l ++ flat_map (answer_at ((past ++ before) ++ events)) (range_with_len (length past + length before) (length events)))
    (same_lines (answer_at ((past ++ before) ++ events)) (answer_at (past ++ before)) (length past) (length before)
    (λ k less. front_answer (past ++ before) events k (omega (arith, less, ends))))
    ∙ ap (λ n. answers_to past before ++ flat_map (answer_at ((past ++ before) ++ events)) (range_with_len n (length events))) ends
    )

-- and so those of a batch, behind those of the batches before it
pub answers_join : (past before events : List Event) (first last : Responder) (s : ℕ) (end : Bool) (text : List ℕ) → text ≡ string_bytes last.answers
    → IsResponderOf first (past ++ before) [] → GoesThrough answering first (showings events s end) last
    → last.failed ≡ false → answers_to past before ++ text ≡ answers_to past (before ++ events)
answers_join past before events first last s end text is has through fine =
    ap (λ l. answers_to past before ++ l) (is ∙ answers_shown (past ++ before) events first last s end has through fine) ∙ answers-append past before events

-- a responder begins with the accounts of what came before
pub begun : (past : List Event) (r : Responder) → string_bytes r.answers ≡ [] → (r.failed ≡ false → HasBusiness r.business past) → IsResponderOf r past []
begun past r none has = λ fine. record {
  accounts = rw append-nil (has fine);
  answers = none;
}

-- answers that are taken leave the accounts of all events
pub cleared : (past events : List Event) (old new : Responder) → new.business ≡ old.business → new.failed ≡ old.failed → string_bytes new.answers ≡ []
    → IsResponderOf old past events → IsResponderOf new (past ++ events) []
cleared past events old new same failed none has = λ fine.
    let h = has (sym failed ∙ fine) in
    record {
      accounts = rw (same, append-nil (past ++ events)) h.accounts;
      answers = none;
    }
