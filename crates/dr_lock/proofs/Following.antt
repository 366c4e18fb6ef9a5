-- The commands of a history, followed on the machine with a list of what is known of each sequence.
use Rattle.std.proofs.Common.{◌≡◌, ℕ, ◌+◌, ◌-◌, ◌<◌, inl, inr, true, false, ◌&&◌, List, [], ◌∷◌, ◌++◌, arith, refl}
use Rattle.std.proofs.Common.{ap, sym, ◌∙◌, length, replicate, None, slice_index, get_or, drop}
use Rattle.std.specs.Prelude.{◌==◌, nat_lt}
use Rattle.std.proofs.lemmas.Bool.{cond_both, cases_lt}
use Rattle.std.proofs.lemmas.Bool.Decides.{nat_tests}
use Rattle.std.proofs.lemmas.List.{drop_more, length-append, length-replicate, get_or_append_left, get_or-append_right, get_or-replicate}
use Rattle.dr_meaning.specs.declared.command.Command.{Command}
use Rattle.dr_meaning.specs.declared.command.Command.TheVariants.{Claim, Write, Publish, Poll, Complete, Halt, Retire}
use Rattle.dr_meaning.specs.Meaning.Machine.{Setup, State, Outcome, next, available, cursor, refusals, accepted, step, opening}
use Rattle.dr_meaning.specs.Meaning.Transcript.{LeadsFrom}
use Rattle.dr_meaning.specs.Meaning.Runs.{count_in}
use Rattle.dr_meaning.proofs.Steps.{NoneHold, unless-cases}
use Rattle.dr_lock.specs.declared.entry.Entry.{Entry}
use Rattle.dr_lock.specs.declared.sequences.Sequence.{Sequence}
use Rattle.dr_lock.specs.Meaning.History.{is_kept, AreKept, transcript_of_entries}
use Rattle.dr_lock.specs.Inside.Sequences.{just_claimed, nothing, Lists, Changes, Speaks, Follows}
use Rattle.dr_lock.proofs.Reached.{IsHeld, opening_held, step_held}

-- what the list says after an accepted command
claim_lists : {E : Type 0} (c : Setup) (m : State E) (p n : ℕ) (list new : List (Sequence E)) → IsHeld c m → Lists list m
    → new ≡ list ++ replicate n (just_claimed p) → Lists new (accepted c m (Claim p n)).state
claim_lists {E} c m p n list new held lists is =
    let len : length (list ++ replicate n (just_claimed {E = E} p)) ≡ length list + length (replicate n (just_claimed {E = E} p)) = length-append list (replicate n (just_claimed {E = E} p)) in
    let many : length (replicate n (just_claimed {E = E} p)) ≡ n = length-replicate n (just_claimed {E = E} p) in
    let len' : length (m.owners ++ replicate n p) ≡ length m.owners + length (replicate n p) = length-append m.owners (replicate n p) in
    let many' : length (replicate n p) ≡ n = length-replicate n p in
    let same : length list ≡ next m = lists.length in
    rw is (record {
      length = omega (arith, len, many, len', many', same);
      at = λ s l. elim (cases_lt s (next m)) [
        | inl old ↦
            get_or_append_left list (replicate n (just_claimed {E = E} p)) nothing s (omega (arith, same))
            ∙ lists.at s old
            ∙ ap (λ o. record { owner = o; event = m.written s; is_published = m.published s }) (sym (get_or_append_left m.owners (replicate n p) 0 s old))
        | inr more ↦
            let left : s - length m.owners < n = omega (arith, len', many') in
            let owner : slice_index (m.owners ++ replicate n p) s ≡ p = get_or-append_right m.owners (replicate n p) (length m.owners) s 0 refl more ∙ get_or-replicate n (s - length m.owners) p 0 left in
            let event : m.written s ≡ None = held.unwritten s more in
            let hidden : m.published s ≡ false = held.unpublished s more in
            get_or-append_right list (replicate n (just_claimed {E = E} p)) (length m.owners) s nothing same more
            ∙ get_or-replicate n (s - length m.owners) (just_claimed {E = E} p) nothing left
            ∙ rw (owner, event, hidden) refl
      ];
    })

write_lists : {E : Type 0} (c : Setup) (m : State E) (p at : ℕ) (event : E) (list new : List (Sequence E)) → Lists list m
    → Changes (Write p at event) list new → Lists new (accepted c m (Write p at event)).state
write_lists c m p at event list new lists takes =
    let same : length list ≡ next m = lists.length in
    record {
      length = takes.0 ∙ same;
      at = λ s l. takes.1 s (omega (arith, same)) ∙ rw (lists.at s l) refl;
    }

publish_lists : {E : Type 0} (c : Setup) (m : State E) (p lo hi : ℕ) (list new : List (Sequence E)) → Lists list m
    → Changes (Publish p lo hi) list new → Lists new (accepted c m (Publish p lo hi)).state
publish_lists c m p lo hi list new lists takes =
    let same : length list ≡ next m = lists.length in
    record { length = takes.0 ∙ same; at = λ s l. takes.1 s (omega (arith, same)) ∙ rw (lists.at s l) refl }

-- nothing that a list tells is changed
stays_lists : {E : Type 0} (m n : State E) (list new : List (Sequence E)) → Lists list m → new ≡ list → n.owners ≡ m.owners
    → n.written ≡ m.written → n.published ≡ m.published → Lists new n
stays_lists m n list new lists is owners written published =
    rw is (record { length = lists.length ∙ ap length (sym owners); at = λ s l. rw (owners, written, published) (lists.at s (rw owners at l)) })

poll_lists : {E : Type 0} (c : Setup) (m : State E) (h max : ℕ) (list new : List (Sequence E)) → Lists list m → new ≡ list
    → Lists new (accepted c m (Poll h max)).state
poll_lists {E} c m h max list new lists is =
    let P : Outcome E → Type 0 = λ o. Lists new o.state in
    let same : Lists new m = stays_lists m m list new lists is refl refl refl in
    cond_both (nat_lt (slice_index m.taken h) (available c m h)) _ _ P (λ y. stays_lists m _ list new lists is refl refl refl)
    (λ n. cond_both (m.halted && (slice_index m.taken h == next m)) _ _ P (λ y. same) (λ n'. cond_both (nat_lt (slice_index m.taken h) (cursor c m)) _ _ P (λ y. same) (λ n''. same)))

accepted_lists : {E : Type 0} (c : Setup) (m : State E) (command : Command E) (list new : List (Sequence E)) → IsHeld c m → Lists list m
    → Changes command list new → Lists new (accepted c m command).state
accepted_lists c m (Claim p n) list new held lists takes = claim_lists c m p n list new held lists takes
accepted_lists c m (Write p s event) list new held lists takes = write_lists c m p s event list new lists takes
accepted_lists c m (Publish p lo hi) list new held lists takes = publish_lists c m p lo hi list new lists takes
accepted_lists c m (Poll h max) list new held lists takes = poll_lists c m h max list new lists takes
accepted_lists c m (Complete h upto) list new held lists takes = stays_lists m _ list new lists takes refl refl refl
accepted_lists c m Halt list new held lists takes = stays_lists m _ list new lists takes refl refl refl
accepted_lists c m (Retire h) list new held lists takes = stays_lists m _ list new lists takes refl refl refl

step_lists : {E : Type 0} (c : Setup) (m : State E) (command : Command E) (list new : List (Sequence E)) → IsHeld c m → Lists list m
    → Changes command list new → is_kept (step c m command).reply ≡ true → Lists new (step c m command).state
step_lists {E} c m command list new held lists takes keeps =
    unless-cases (λ (o : Outcome E). is_kept o.reply ≡ true → Lists new o.state) (refusals c m command) m (accepted c m command) (λ r e. absurd (cc)) (λ none e. accepted_lists c m command list new held lists takes) keeps

accepted_speaks : {E : Type 0} (c : Setup) (m : State E) (command : Command E) → NoneHold (refusals c m command) → Speaks command (next m)
accepted_speaks c m (Claim p n) none = tt
accepted_speaks c m (Write p s event) none = grind (arith, nat_tests, none.1.0)
accepted_speaks c m (Publish p lo hi) none = (grind (arith, nat_tests, none.1.0), grind (arith, nat_tests, none.1.1.0))
accepted_speaks c m (Poll h max) none = tt
accepted_speaks c m (Complete h upto) none = tt
accepted_speaks c m Halt none = tt
accepted_speaks c m (Retire h) none = tt

step_speaks : {E : Type 0} (c : Setup) (m : State E) (command : Command E) → is_kept (step c m command).reply ≡ true → Speaks command (next m)
step_speaks {E} c m command keeps =
    unless-cases (λ (o : Outcome E). is_kept o.reply ≡ true → Speaks command (next m)) (refusals c m command) m (accepted c m command) (λ r e. absurd (cc)) (λ none e. accepted_speaks c m command none) keeps

-- the list so far, with the entries that are left
pub record Passed {E : Type 0} (c : Setup) (list : List (Sequence E)) (rest : List (Entry E)) (end : State E) : Type 0 where
  pub state : State E
  pub held : IsHeld c state
  pub lists : Lists list state
  pub follows : Follows c state rest end

pub passed_none : {E : Type 0} (c : Setup) (list : List (Sequence E)) (entries : List (Entry E)) (end : State E) → list ≡ []
    → Follows c (opening c) entries end → Passed c list entries end
passed_none c list entries end is follows =
    rw is (record { state = opening c; held = opening_held c; lists = record { length = refl; at = λ s l. absurd (omega arith) }; follows = follows })

pub passed_more : {E : Type 0} (c : Setup) (list new : List (Sequence E)) (e : Entry E) (rest : List (Entry E)) (end : State E)
    → Passed c list (e ∷ rest) end → Changes e.command list new → Passed c new rest end
passed_more c list new e rest end at takes = record {
  state = (step c at.state e.command).state;
  held = step_held c at.state e.command at.held;
  lists = step_lists c at.state e.command list new at.held at.lists takes (ap is_kept at.follows.0 ∙ at.follows.1);
  follows = at.follows.2;
}

pub passed_speaks : {E : Type 0} (c : Setup) (list : List (Sequence E)) (e : Entry E) (rest : List (Entry E)) (end : State E)
    → Passed c list (e ∷ rest) end → Speaks e.command (length list)
passed_speaks c list e rest end at =
    let speaks : Speaks e.command (next at.state) = step_speaks c at.state e.command (ap is_kept at.follows.0 ∙ at.follows.1) in
    rw (at.lists.length) speaks

pub passed_all : {E : Type 0} (c : Setup) (list : List (Sequence E)) (end : State E) → Passed c list [] end → Lists list end
passed_all c list end at = rw (← at.follows) at.lists

-- a transcript of kept entries is followed
pub follows_of : {E : Type 0} (c : Setup) (m : State E) (entries : List (Entry E)) (values : List E) (end : State E) → AreKept entries
    → LeadsFrom c m (transcript_of_entries entries values) end → Follows c m entries end
follows_of c m [] values end all leads = leads
follows_of c m (e ∷ es) values end all leads = (leads.0, all.0, follows_of c (step c m e.command).state es (drop (count_in e.reply) values) end all.1 leads.2)

-- the same at one iteration of a loop over the entries
pub speaks_at : {E : Type 0} (c : Setup) (list : List (Sequence E)) (entries : List (Entry E)) (i : ℕ) (d : Entry E) (end : State E)
    → i < length entries → Passed c list (drop i entries) end → Speaks (get_or entries i d).command (length list)
speaks_at c list entries i d end l at = passed_speaks c list (get_or entries i d) (drop (i + 1) entries) end (rw (drop_more entries i d l) at at)

pub passed_at : {E : Type 0} (c : Setup) (list new : List (Sequence E)) (entries : List (Entry E)) (i : ℕ) (d : Entry E) (end : State E)
    → i < length entries → Passed c list (drop i entries) end → Changes (get_or entries i d).command list new
    → Passed c new (drop (i + 1) entries) end
passed_at c list new entries i d end l at takes = passed_more c list new (get_or entries i d) (drop (i + 1) entries) end (rw (drop_more entries i d l) at at) takes
