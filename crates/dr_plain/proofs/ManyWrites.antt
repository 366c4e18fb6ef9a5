-- Many events, written one after another.
use Rattle.std.proofs.Common.{◌≡◌, ℕ, ◌+◌, ◌%◌, ◌<◌, List, [], ◌∷◌, ◌++◌, length, take, get_or, set, Option, None, Some, Ok, Err, sym, refl, ap, ◌∙◌}
use Rattle.std.proofs.Common.{subst, arith}
use Rattle.std.proofs.lemmas.List.{length-take-le, take_more}
use Rattle.dr_meaning.specs.declared.refusal.Refusal.{Refusal}
use Rattle.dr_meaning.specs.declared.ends.Trouble.TheVariants.{Refused}
use Rattle.dr_meaning.specs.Calls.Ends.{WriteAnswers, WritesAll}
use Rattle.dr_meaning.proofs.ManyWrites.{below_more, answer_before, written_more}
use Rattle.dr_plain.specs.Calls.Ends.{SenderEnd, sent_of}
use Rattle.dr_plain.specs.Calls.Sending.{Call, WriteCall}
use Rattle.dr_plain.specs.Calls.Inlets.{cells_with, WriteAllCall}
use Rattle.dr_runs.proofs.Beginnings.{begins_same, begins_on}

module _ {T : Type 0} where
  -- a sender has written the first k of some events
  pub record WroteFirst (e : SenderEnd T) (lo : ℕ) (events : List T) (k : ℕ) (e' : SenderEnd T) : Type 0 where
    pub call : Call e e'
    pub answers : (j : ℕ) → j < k → WriteAnswers (Some (sent_of e)) (lo + j) (Ok tt)
    pub sent : WritesAll lo (take k events) (sent_of e) (sent_of e')
    pub only : e'.knows ≡ e.knows
    pub cells : e'.cells ≡ cells_with lo (take k events) e.cells
    pub stored : e'.stored ≡ e.stored

  pub wrote_none : (e : SenderEnd T) (lo : ℕ) (events : List T) → WroteFirst e lo events 0 e
  wrote_none e lo events = record { call = (refl, begins_same e.past); answers = λ j lt. absurd (omega arith); sent = refl; only = refl; cells = refl; stored = refl }

  call_on : (a b c : SenderEnd T) → Call a b → Call b c → Call a c
  call_on a b c one two = (two.0 ∙ one.0, begins_on a.past b.past c.past one.1 two.1)

  cells_append : (lo : ℕ) (xs : List T) (event : T) (cells : List (Option T))
      → (let old = cells_with lo xs cells in cells_with lo (xs ++ event ∷ []) cells ≡ set old ((lo + length xs) % length old) (Some event))
  cells_append lo [] event cells = let at : lo ≡ lo + 0 = omega arith in ap (λ (n : ℕ). set cells (n % length cells) (Some event)) at
  cells_append lo (x ∷ xs) event cells =
      let at : lo + 1 + length xs ≡ lo + length (x ∷ xs) = omega arith in let next = set cells (lo % length cells) (Some x) in let old = cells_with (lo + 1) xs next in
      cells_append (lo + 1) xs event next ∙ ap (λ (n : ℕ). set old (n % length old) (Some event)) at

  pub wrote_more : (e a b : SenderEnd T) (lo k s : ℕ) (events : List T) (d event : T) → k < length events → s ≡ lo + k → get_or events k d ≡ event
      → WroteFirst e lo events k a → WriteCall a s event b (Ok tt) → WroteFirst e lo events (k + 1) b
  wrote_more e a b lo k s events d event less at is W C =
      let many : length (take k events) ≡ k = length-take-le k events (omega arith) in
      let place : s ≡ lo + length (take k events) = omega arith in
      let more : take (k + 1) events ≡ take k events ++ event ∷ [] = take_more events k d less ∙ ap (λ (x : T). take k events ++ x ∷ []) is in
      let tries = C.1 in let some_event : Option T = Some event in record {
        call = call_on e a b W.call C.0;
        answers = below_more (λ j. WriteAnswers (Some (sent_of e)) (lo + j) (Ok tt)) k W.answers
            (subst (λ (n : ℕ). WriteAnswers (Some (sent_of e)) n (Ok tt)) at (answer_before lo s (take k events) (Ok tt) (Some (sent_of e)) (Some (sent_of a)) W.sent tries.answer));
        sent = written_more lo k s events d event less at is (Some (sent_of e)) (Some (sent_of a)) (Some (sent_of b)) W.sent tries.sent;
        only = tries.only ∙ W.only;
        cells = tries.cells ∙ (λ i. set (W.cells i) (place i % length (W.cells i)) some_event)
            ∙ sym (cells_append lo (take k events) event e.cells) ∙ ap (λ (es : List T). cells_with lo es e.cells) (sym more);
        stored = C.2 ∙ W.stored;
      }

  -- the next one is refused
  pub wrote_refused : (e a b : SenderEnd T) (lo k : ℕ) (events : List T) (event : T) (refusal : Refusal) → k < length events → WroteFirst e lo events k a
      → WriteCall a (lo + k) event b (Err refusal) → WriteAllCall e lo events b (record { count = k; trouble = Some (Refused refusal) })
  wrote_refused e a b lo k events event refusal less W C = record {
    call = call_on e a b W.call C.0;
    answers = record {
      written = W.answers;
      stops = (less, answer_before lo (lo + k) (take k events) (Err (Refused refusal)) (Some (sent_of e)) (Some (sent_of a)) W.sent C.1.answer);
    };
    sent = C.1.sent ∙ W.sent;
    only = C.1.only ∙ W.only;
    cells = C.1.cells ∙ W.cells;
    stored = C.2 ∙ W.stored;
    memory = λ is. cc;
  }

  -- all are written
  pub wrote_each : (e a : SenderEnd T) (lo k n : ℕ) (events : List T) → k ≡ n → n ≡ length events → WroteFirst e lo events k a
      → WriteAllCall e lo events a (record { count = n; trouble = None })
  wrote_each e a lo k n events same all W = record {
    call = W.call;
    answers = record { written = subst (λ (m : ℕ). (j : ℕ) → j < m → WriteAnswers (Some (sent_of e)) (lo + j) (Ok tt)) same W.answers; stops = all };
    sent = subst (λ (m : ℕ). WritesAll lo (take m events) (sent_of e) (sent_of a)) same W.sent;
    only = W.only;
    cells = subst (λ (m : ℕ). a.cells ≡ cells_with lo (take m events) e.cells) same W.cells;
    stored = W.stored;
    memory = λ is. cc;
  }
