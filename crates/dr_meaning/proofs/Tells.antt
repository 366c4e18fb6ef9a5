-- What a transcript says is what the state has.
use Rattle.std.proofs.Common.{◌≡◌, ℕ, suc, zero, ◌-◌, zero-add, ◌+◌, ◌<◌, inl, inr, max, true, ◌||◌, List, []}
use Rattle.std.proofs.Common.{◌∷◌, ◌++◌, arith, refl, ap, sym, ◌∙◌, length, unwrap_or, None, slice_index}
use Rattle.std.specs.Prelude.{slice_get}
use Rattle.std.proofs.lemmas.Bool.{cases_Bool, or_cases, false≢true, cases_lt}
use Rattle.std.proofs.lemmas.List.{length-append}
use Rattle.std.proofs.Math.Nat.{suc-add}
use Rattle.dr_meaning.specs.Meaning.Machine.{State, next}
use Rattle.dr_meaning.specs.Meaning.Tells.{Tells}
use Rattle.dr_meaning.specs.Meaning.Transcript.{Entry, Transcript, claimed_below, claimant, first_of, wrote, covers, last_written}
use Rattle.dr_meaning.specs.Meaning.Transcript.{event_of, batch_to, received_by, completion, halts, retires}
use Rattle.dr_meaning.proofs.Pushes.{next_push, owner_push, published_push, halted_push, retired_push, written_push}
use Rattle.dr_meaning.proofs.Pushes.{received_push, completed_push, before_kept, before_now}

-- a state that differs by what the entry says
pub record Changes {E : Type 0} (m : State E) (e : Entry E) (n : State E) : Type 0 where
  pub next : next n ≡ max (next m) (claimed_below e.reply)
  pub owners : (s : ℕ) → slice_get n.owners s ≡ first_of (slice_get m.owners s) (claimant e.reply e.command s)
  pub published : (s : ℕ) → n.published s ≡ (m.published s || covers e.reply e.command s)
  pub written : (s : ℕ) → n.written s ≡ first_of (wrote e.reply e.command s) (m.written s)
  pub taken : (h : ℕ) → slice_index n.taken h ≡ slice_index m.taken h + length (batch_to h e.reply e.command e.values)
  pub completed : (h : ℕ) → slice_index n.completed h ≡ unwrap_or (completion h e.reply e.command) (slice_index m.completed h)
  pub halted : n.halted ≡ (m.halted || halts e.reply)
  pub retired : (h : ℕ) → n.retired h ≡ (m.retired h || retires e.reply e.command h)
  pub settled : (s : ℕ) → m.published s ≡ true → wrote e.reply e.command s ≡ None
  pub fresh : (s : ℕ) → covers e.reply e.command s ≡ true → wrote e.reply e.command s ≡ None
  pub batch : (h k : ℕ) → k < length (batch_to h e.reply e.command e.values) → slice_get (batch_to h e.reply e.command e.values) k ≡ m.written (slice_index m.taken h + k)
  pub in_front : (h k : ℕ) → k < slice_index n.taken h → m.published k ≡ true

pub slice_get-append_left : {X : Type 0} (xs ys : List X) (k : ℕ) → k < length xs → slice_get (xs ++ ys) k ≡ slice_get xs k
slice_get-append_left [] ys k h = absurd (omega arith)
slice_get-append_left (x ∷ xs) ys zero h = refl
slice_get-append_left (x ∷ xs) ys (suc k) h = slice_get-append_left xs ys k (omega arith)

pub slice_get-append_right : {X : Type 0} (xs ys : List X) (k n : ℕ) → length xs ≡ n → slice_get (xs ++ ys) (n + k) ≡ slice_get ys k
slice_get-append_right [] ys k n e = rw (← e) (rw zero-add)
slice_get-append_right (x ∷ xs) ys k n e = rw (← e) (rw suc-add (slice_get-append_right xs ys k (length xs) refl))

-- what is published was settled before, so it stays
kept_written : {E : Type 0} (m n : State E) (e : Entry E) → Changes m e n → (s : ℕ) → m.published s ≡ true → n.written s ≡ m.written s
kept_written m n e d s p = d.written s ∙ ap (λ w. first_of w (m.written s)) (d.settled s p)

tells_events : {E : Type 0} (t : Transcript E) (m n : State E) (e : Entry E) → Tells t m → Changes m e n → (s : ℕ) → n.published s ≡ true → event_of (t ++ e ∷ []) s ≡ n.written s
tells_events t m n e told d s h =
    elim (cases_Bool (m.published s)) [
      | inl p ↦ ap (λ es. last_written es s) (before_kept t e s (told.published s ∙ p)) ∙ told.events s p ∙ sym (kept_written m n e d s p)
      | inr q ↦
          elim (or_cases (m.published s) (covers e.reply e.command s) (sym (d.published s) ∙ h)) [
            | inl p ↦ absurd (false≢true (sym q ∙ p))
            | inr now ↦ ap (λ es. last_written es s) (before_now t e s (told.published s ∙ q) now) ∙ told.written s ∙ sym (d.written s ∙ ap (λ w. first_of w (m.written s)) (d.fresh s now))
          ]
    ]

tells_received : {E : Type 0} (t : Transcript E) (m n : State E) (e : Entry E) → Tells t m → Changes m e n → (h k : ℕ) → k < slice_index n.taken h
    → slice_get (received_by (t ++ e ∷ []) h) k ≡ n.written k
tells_received t m n e told d h k l =
    let stays : n.written k ≡ m.written k = kept_written m n e d k (d.in_front h k l) in
    let more : slice_index n.taken h ≡ slice_index m.taken h + length (batch_to h e.reply e.command e.values) = d.taken h in
    let len : length (received_by t h) ≡ slice_index m.taken h = told.taken h in
    let split : slice_get (received_by (t ++ e ∷ []) h) k ≡ slice_get (received_by t h ++ batch_to h e.reply e.command e.values) k = ap (λ xs. slice_get xs k) (received_push t e h) in
    elim (cases_lt k (slice_index m.taken h)) [
      | inl old ↦ split ∙ slice_get-append_left (received_by t h) _ k (omega arith) ∙ told.received h k old ∙ sym stays
      | inr new ↦
          let at : slice_index m.taken h + (k - slice_index m.taken h) ≡ k = omega arith in
          split
          ∙ ap (λ i. slice_get (received_by t h ++ batch_to h e.reply e.command e.values) i) (sym at)
          ∙ slice_get-append_right (received_by t h) (batch_to h e.reply e.command e.values) (k - slice_index m.taken h) (slice_index m.taken h) len
          ∙ d.batch h (k - slice_index m.taken h) (omega arith)
          ∙ ap m.written at
          ∙ sym stays
    ]

pub tells_more : {E : Type 0} (t : Transcript E) (m n : State E) (e : Entry E) → Tells t m → Changes m e n → Tells (t ++ e ∷ []) n
tells_more t m n e told d = record {
  next = next_push t e ∙ ap (λ k. max k (claimed_below e.reply)) told.next ∙ sym d.next;
  owners = λ s. owner_push t e s ∙ ap (λ o. first_of o (claimant e.reply e.command s)) (told.owners s) ∙ sym (d.owners s);
  published = λ s. published_push t e s ∙ ap (λ b. b || covers e.reply e.command s) (told.published s) ∙ sym (d.published s);
  written = λ s. written_push t e s ∙ ap (λ w. first_of (wrote e.reply e.command s) w) (told.written s) ∙ sym (d.written s);
  events = tells_events t m n e told d;
  taken = λ h. ap length (received_push t e h) ∙ length-append (received_by t h) (batch_to h e.reply e.command e.values) ∙ ap (λ k. k + length (batch_to h e.reply e.command e.values)) (told.taken h) ∙ sym (d.taken h);
  received = tells_received t m n e told d;
  completed = λ h. completed_push t e h ∙ ap (λ k. unwrap_or (completion h e.reply e.command) k) (told.completed h) ∙ sym (d.completed h);
  halted = halted_push t e ∙ ap (λ b. b || halts e.reply) told.halted ∙ sym d.halted;
  retired = λ h. retired_push t e h ∙ ap (λ b. b || retires e.reply e.command h) (told.retired h) ∙ sym (d.retired h);
}
