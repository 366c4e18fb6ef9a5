-- One turn of a worker after another.
use Rattle.std.proofs.Common.{◌≡◌, ◌+◌, ℕ, Bool, true, false, List, [], ◌∷◌, ◌++◌, All, length, map, drop, Some, refl, sym, ap, subst, ◌∙◌, arith, length-append}
use Rattle.std.specs.List.{filter}
use Rattle.std.specs.Prelude.{◌↔◌, IsTrue, flat_map}
use Rattle.std.proofs.lemmas.List.{append-nil, drop-append-le, map-append}
use Rattle.std.proofs.lemmas.List.Concat.{flat_map-append}
use Rattle.std.proofs.lemmas.List.Elements.{All-append, All-cons, All-nil, filter-append}
use Rattle.dr_meaning.specs.declared.command.Polled.{Polled}
use Rattle.dr_meaning.specs.declared.command.Polled.TheVariants.{Batch, Drained, Gating, Idle}
use Rattle.dr_meaning.specs.Calls.Calling.{CallsLead, CompletesUpTo, InPlaceCall, Polls}
use Rattle.dr_meaning.proofs.Calling.{lead_more}
use Rattle.dr_meaning.specs.Calls.Ends.{Received}
use Rattle.dr_meaning.specs.Calls.Handling.{GoesThrough, Relation, showings}
use Rattle.dr_workers.specs.Meaning.Work.{Dealt}
use Rattle.dr_workers.proofs.Working.{works_more}
use Rattle.dr_runs.proofs.Lists.{past_end}
use Rattle.dr_meaning.specs.Calls.Ends.{with_completed}
use Rattle.dr_meaning.specs.Calls.InPlaceOutlets.{SawMore, TakesNext}
use Rattle.dr_disruptor.specs.Serving.{IsIdle, IsPolled, Shows, TakesInTurn, answer_of, calls_at, is_batch}

-- what follows a list of so many
pub behind : {E : Type 0} (xs ys : List E) (n : ℕ) → n ≡ length xs → drop n (xs ++ ys) ≡ ys
behind xs ys n is = drop-append-le n xs ys (omega arith) ∙ ap (λ l. l ++ ys) (past_end xs n (sym is))

-- and of what is true where this is
pub weaken : {E : Type 0} (room : ℕ) (P Q : ℕ → Type 0) → SawMore P Q → (batches : List (Dealt E)) → All (IsPolled room P) batches → All (IsPolled room Q) batches
weaken room P Q more batches all = λ k d below. let h = all k d below in (h.0, more h.0 h.1, h.2, h.3)

-- some turns after others
turns_more : {O E : Type 0} (does : O → InPlaceCall → O → Type 0) (room : ℕ) (before since : List (Dealt E)) (old mid new : O)
    → TakesInTurn does room before old mid → TakesInTurn does room since mid new → TakesInTurn does room (before ++ since) old new
turns_more does room before since old mid new h k = record {
  answers = h.answers ++ k.answers;
  calls = subst (λ calls. CallsLead does old calls new) (sym (flat_map-append (calls_at room) h.answers k.answers))
      (lead_more does old mid new (flat_map (calls_at room) h.answers) (flat_map (calls_at room) k.answers) h.calls k.calls);
  given = filter-append is_batch h.answers k.answers ∙ ap (λ l. l ++ filter is_batch k.answers) h.given
      ∙ ap (λ l. map answer_of before ++ l) k.given ∙ sym (map-append answer_of before since);
}

module _ {O A K E : Type 0} (kept : O → K) (received : O → Received E) (saw : O → ℕ → Type 0) (does : O → InPlaceCall → O → Type 0) (goes : Relation E A) (room : ℕ) where
  -- nothing was shown
  none_shown : (before : A) (old new : O) → kept new ≡ kept old → received new ≡ received old → SawMore (saw old) (saw new) → TakesInTurn {E = E} does room [] old new
      → IsIdle (received old) → Shows kept received saw does goes room before before old new
  none_shown before old new place same more turns idle = record {
    place = place;
    batches = [];
    works = record { through = refl; handed = (ap (λ (r : Received E). r.events) same ∙ sym (append-nil (received old).events), tt) };
    turns = turns;
    saw_more = more;
    polled = All-nil (IsPolled room (saw new));
    idle = subst (λ (r : Received E). IsIdle r) (sym same) idle;
  }

  -- nothing was called
  pub shows_none : (before : A) (end : O) → IsIdle (received end) → Shows kept received saw does goes room before before end end
  shows_none before end idle = none_shown before end end refl refl (λ n seen. seen) (record { answers = []; calls = refl; given = refl }) idle

  -- a poll was answered that nothing came
  pub shows_nothing : (before : A) (old new : O) (answer : Polled) → kept new ≡ kept old → received new ≡ received old → SawMore (saw old) (saw new)
      → does old (Polls room answer) new → is_batch answer ≡ false → IsIdle (received old) → Shows kept received saw does goes room before before old new
  shows_nothing before old new (Batch first count end) place same more called none idle = absurd (cc)
  shows_nothing before old new Drained place same more called none idle =
      none_shown before old new place same more (record { answers = Drained ∷ []; calls = (new, called, refl); given = refl }) idle
  shows_nothing before old new Gating place same more called none idle =
      none_shown before old new place same more (record { answers = Gating ∷ []; calls = (new, called, refl); given = refl }) idle
  shows_nothing before old new Idle place same more called none idle =
      none_shown before old new place same more (record { answers = Idle ∷ []; calls = (new, called, refl); given = refl }) idle

  -- a batch was taken, shown and completed
  pub shows_batch : (before after : A) (old mid new : O) (first count offered : ℕ) (end : Bool) → kept mid ≡ kept old → kept new ≡ kept mid
      → SawMore (saw old) (saw mid) → SawMore (saw mid) (saw new)
      → TakesNext room offered (saw mid) first count end (received old) (received mid)
      → does old (Polls room (Batch first count end)) mid → does mid (CompletesUpTo (first + count)) new
      → GoesThrough goes before (showings (drop first (received mid).events) first end) after
      → received new ≡ with_completed (received mid) (first + count)
      → Shows kept received saw does goes room before after old new
  shows_batch before after old mid new first count offered end stays still more most takes called completes through done =
      let events = takes.events in
      let many = takes.many in
      let some = takes.some in
      let begins = takes.begins in
      let whole : (received mid).events ≡ (received old).events ++ events = ap (λ (r : Received E). r.events) takes.taken in
      let shown : drop first (received mid).events ≡ events = ap (drop first) whole ∙ behind (received old).events events first begins in
      let last : (received new).events ≡ (received mid).events = ap (λ (r : Received E). r.events) done in
      let long : length (received new).events ≡ length (received old).events + length events = ap length last ∙ ap length whole
      ∙ length-append (received old).events events in
      let completed : (received new).completed ≡ first + count = ap (λ (r : Received E). r.completed) done in
      let batch : Dealt E = record { first = first; events = events; end = end } in
      record {
        place = still ∙ stays;
        batches = batch ∷ [];
        works = record {
          through = subst (λ l. GoesThrough goes before l after) (sym (append-nil (showings events first end)))
              (subst (λ l. GoesThrough goes before (showings l first end) after) shown through);
          handed = (last ∙ whole ∙ ap (λ l. (received old).events ++ l) (sym (append-nil events)), (begins, omega arith, tt));
        };
        turns = record {
          answers = Batch first count end ∷ [];
          calls = (mid, called, (new, completes, refl));
          given = ap (λ (n : ℕ). Batch first n end ∷ []) (sym many);
        };
        saw_more = λ n h. most n (more n h);
        polled = All-cons (IsPolled room (saw new)) batch []
            (offered, most offered takes.saw, many ∙ takes.whole, subst (λ (n : ℕ). IsTrue end ↔ (first + n ≡ offered)) (sym many) takes.marked)
            (All-nil (IsPolled room (saw new)));
        idle = omega arith;
      }

  -- some work after other work
  pub shows_more : (before between after : A) (old mid new : O) → Shows kept received saw does goes room before between old mid
      → Shows kept received saw does goes room between after mid new → Shows kept received saw does goes room before after old new
  shows_more before between after old mid new h k = record {
    place = k.place ∙ h.place;
    batches = h.batches ++ k.batches;
    works = works_more goes before between after (Some (received old)) (Some (received mid)) (Some (received new)) h.batches k.batches h.works k.works;
    turns = turns_more does room h.batches k.batches old mid new h.turns k.turns;
    saw_more = λ n seen. k.saw_more n (h.saw_more n seen);
    polled = All-append (IsPolled room (saw new)) h.batches k.batches (weaken room (saw mid) (saw new) k.saw_more h.batches h.polled) k.polled;
    idle = k.idle;
  }
