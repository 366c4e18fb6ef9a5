-- What every state of the machine keeps, and that each command changes it as its entry says.
use Rattle.std.proofs.Common.{◌≡◌, ℕ, ◌+◌, ◌-◌, ◌<◌, ◌≤◌, ◌≢◌, inl, inr, min, max, Bool, true, false, cond, ◌||◌, ◌&&◌, List, [], ◌∷◌, ◌++◌, zero, suc, arith}
use Rattle.std.proofs.Common.{refl, ap, sym, ◌∙◌, length, map, replicate, Option, unwrap_or, Some, None, slice_index, slice_set, add-zero}
use Rattle.std.specs.Prelude.{slice_get, ◌==◌, nat_lt, is_none}
use Rattle.std.specs.List.{range_with_len, filter_map, cons_option}
use Rattle.std.proofs.lemmas.Bool.{cond_both, cond-true, cond-false, cases_Bool, cases_lt, le-leb, lt-leb, or_parts, false≢true, eqb-true, eqb-false}
use Rattle.std.proofs.lemmas.Bool.Decides.{nat_tests}
use Rattle.std.proofs.lemmas.List.{length-append, length-replicate, get_or-replicate, get_or-set_same, get_or-set_other}
use Rattle.std.proofs.lemmas.Option.{slice_get-get_or, slice_get_past}
use Rattle.dr_meaning.specs.declared.command.Command.{Command}
use Rattle.dr_meaning.specs.declared.command.Command.TheVariants.{Claim, Write, Publish, Poll, Complete, Halt, Retire}
use Rattle.dr_meaning.specs.declared.command.Reply.{Reply}
use Rattle.dr_meaning.specs.declared.command.Reply.TheVariants.{Claimed, Drained, Gating, Idle, Refused}
use Rattle.dr_graph.specs.Meaning.Graph.{upstreams_of, least_of, IsOrderly}
use Rattle.dr_meaning.specs.Meaning.Machine.{Setup, State, Outcome, handlers, next, front, available, offered, refusals, accepted, step, batch, cursor}
use Rattle.dr_meaning.specs.Meaning.Transcript.{Entry, claimed_below, claimant, first_of, wrote, covers, batch_to, completion, halts, retires}
use Rattle.dr_meaning.specs.Meaning.Counts.{AreInOrder}
use Rattle.dr_meaning.proofs.Leasts.{least_is, least_of-le}
use Rattle.dr_meaning.proofs.Pushes.{or-false}
use Rattle.dr_meaning.proofs.Steps.{NoneHold, unless-cases}
use Rattle.dr_meaning.proofs.Tells.{Changes, slice_get-append_left, slice_get-append_right}

-- what is published is claimed and written
pub record AreMarked {E : Type 0} (claims : ℕ) (marks : ℕ → Bool) (events : ℕ → Option E) : Type 0 where
  pub claimed : (s : ℕ) → marks s ≡ true → s < claims
  pub written : (s : ℕ) → marks s ≡ true → is_none (events s) ≡ false

-- no handler completed more than an upstream
pub orderly : {c : Setup} {upto : ℕ} {taken completed : List ℕ} → AreInOrder c upto taken completed → IsOrderly c.upstreams (λ h. slice_index completed h)
orderly {taken = taken} {completed = completed} order h u has =
    let a : slice_index completed h ≤ slice_index taken h = order.took h in
    let b : slice_index taken h ≤ slice_index completed u = order.after h u has in
    omega arith

-- so of every state of the machine
pub record IsSound {E : Type 0} (c : Setup) (m : State E) : Type 0 where
  pub marks : AreMarked (next m) m.published m.written
  pub open marks use *
  pub order : AreInOrder c (front m) m.taken m.completed
  pub open order use *

abbrev pub entry_of : {E : Type 0} → Command E → Outcome E → Entry E
entry_of command o = record { command = command; reply = o.reply; values = o.values }

below_front : {E : Type 0} (c : Setup) (m : State E) → IsSound c m → (h k : ℕ) → k < slice_index m.taken h → m.published k ≡ true
below_front c m sound h k l =
    let w : slice_index m.taken h ≤ front m = sound.in_front h in
    (least_is m.published (next m)).below k (omega arith)

-- what an entry says that writes nothing and hands nothing out
unwritten : {E : Type 0} (c : Setup) (m n : State E) (e : Entry E) → IsSound c m → ((s : ℕ) → wrote e.reply e.command s ≡ None)
    → ((h : ℕ) → batch_to h e.reply e.command e.values ≡ []) → n.written ≡ m.written → n.taken ≡ m.taken
    → next n ≡ max (next m) (claimed_below e.reply)
    → ((s : ℕ) → slice_get n.owners s ≡ first_of (slice_get m.owners s) (claimant e.reply e.command s))
    → ((s : ℕ) → n.published s ≡ (m.published s || covers e.reply e.command s))
    → ((h : ℕ) → slice_index n.completed h ≡ unwrap_or (completion h e.reply e.command) (slice_index m.completed h))
    → n.halted ≡ (m.halted || halts e.reply)
    → ((h : ℕ) → n.retired h ≡ (m.retired h || retires e.reply e.command h))
    → Changes m e n
unwritten c m n e sound none no_batch written taken next owners published completed halted retired = record {
  next = next;
  owners = owners;
  published = published;
  written = λ s. rw (none s, written);
  taken = λ h. rw (no_batch h, taken) (sym (add-zero _));
  completed = completed;
  halted = halted;
  retired = retired;
  settled = λ s p. none s;
  fresh = λ s p. none s;
  batch = λ h k l. absurd (let n : length (batch_to h e.reply e.command e.values) ≡ 0 = ap length (no_batch h) in omega arith);
  in_front = λ h k l. below_front c m sound h k (rw taken at l);
}

first_of-none : {A : Type 0} (a : Option A) → a ≡ first_of a None
first_of-none None = refl
first_of-none (Some x) = refl

-- a reply that changes nothing
quiet : {E : Type 0} (c : Setup) (m : State E) (command : Command E) (r : Reply) → IsSound c m → claimed_below r ≡ 0 → ((s : ℕ) → claimant r command s ≡ None)
    → ((s : ℕ) → covers r command s ≡ false) → ((s : ℕ) → wrote r command s ≡ None) → ((h : ℕ) → batch_to h r command [] ≡ [])
    → ((h : ℕ) → completion h r command ≡ None) → halts r ≡ false → ((h : ℕ) → retires r command h ≡ false)
    → Changes m (record { command = command; reply = r; values = [] }) m
quiet c m command r sound a o b d e f g i =
    unwritten c m m (record { command = command; reply = r; values = [] }) sound d e refl refl (rw a (omega arith)) (λ s. rw (o s) (first_of-none _))
    (λ s. rw (b s) (sym (or-false _))) (λ h. rw (f h)) (rw g (sym (or-false _))) (λ h. rw (i h) (sym (or-false _)))

-- the owners after a claim
claim_owners : (E : Type 0) (owners : List ℕ) (n p s : ℕ) → n ≢ 0
    → slice_get (owners ++ replicate n p) s ≡ first_of (slice_get owners s) (claimant {E = E} (Claimed (length owners) (length owners + n - 1)) (Claim p n) s)
claim_owners E owners n p s some =
    elim (cases_lt s (length owners)) [
      | inl old ↦ slice_get-append_left owners (replicate n p) s old ∙ rw (slice_get-get_or owners s 0 old) refl
      | inr new ↦
          let at : length owners + (s - length owners) ≡ s = omega arith in
          let len : length (replicate n p) ≡ n = length-replicate n p in
          ap (slice_get (owners ++ replicate n p)) (sym at)
          ∙ slice_get-append_right owners (replicate n p) (s - length owners) (length owners) refl
          ∙ rw (slice_get_past owners s new, le-leb _ _ new)
          (elim (cases_lt s (length owners + n)) [
            | inl within ↦ slice_get-get_or (replicate n p) (s - length owners) 0 (omega arith)
                ∙ ap Some (get_or-replicate n (s - length owners) p 0 (omega arith))
                ∙ sym (cond-true _ _ _ (let l : s ≤ length owners + n - 1 = omega arith in le-leb _ _ l))
            | inr past ↦ slice_get_past (replicate n p) (s - length owners) (omega arith)
                ∙ sym (cond-false _ _ _ (let l : length owners + n - 1 < s = omega arith in lt-leb _ _ l))
          ])
    ]

claim_changes : {E : Type 0} (c : Setup) (m : State E) (p n : ℕ) → IsSound c m → NoneHold (refusals c m (Claim p n))
    → Changes m (entry_of (Claim p n) (accepted c m (Claim p n))) (accepted c m (Claim p n)).state
claim_changes {E} c m p n sound none =
    let some : n ≢ 0 = eqb-false n 0 (or_parts _ _ none.1.0).0 in
    unwritten c m _ _ sound (λ s. refl) (λ h. refl) refl refl
    (length-append m.owners (replicate n p) ∙ ap (λ k. length m.owners + k) (length-replicate n p) ∙ omega arith)
    (λ s. claim_owners E m.owners n p s some) (λ s. sym (or-false _)) (λ h. refl) (sym (or-false _)) (λ h. sym (or-false _))

first_of-if : {A : Type 0} (b : Bool) (v : A) (w : Option A) → cond b (Some v) w ≡ first_of (cond b (Some v) None) w
first_of-if true v w = refl
first_of-if false v w = refl

write_changes : {E : Type 0} (c : Setup) (m : State E) (p at : ℕ) (v : E) → IsSound c m → NoneHold (refusals c m (Write p at v))
    → Changes m (entry_of (Write p at v) (accepted c m (Write p at v))) (accepted c m (Write p at v)).state
write_changes c m p at v sound none = record {
  next = omega arith;
  owners = λ s. first_of-none _;
  published = λ s. sym (or-false _);
  written = λ s. first_of-if (s == at) v (m.written s);
  taken = λ h. sym (add-zero _);
  completed = λ h. refl;
  halted = sym (or-false _);
  retired = λ h. sym (or-false _);
  settled = λ s h. elim (cases_Bool (s == at)) [
    | inl y ↦ absurd (false≢true (sym none.1.1.0 ∙ ap m.published (sym (eqb-true s at y)) ∙ h))
    | inr n ↦ rw n
  ];
  fresh = λ s h. absurd (false≢true h);
  batch = λ h k l. absurd (omega arith);
  in_front = below_front c m sound;
}

publish_changes : {E : Type 0} (c : Setup) (m : State E) (p lo hi : ℕ) → IsSound c m
    → Changes m (entry_of (Publish p lo hi) (accepted c m (Publish p lo hi))) (accepted c m (Publish p lo hi)).state
publish_changes c m p lo hi sound =
    unwritten c m _ _ sound (λ s. refl) (λ h. refl) refl refl (omega arith) (λ s. first_of-none _) (λ s. refl) (λ h. refl) (sym (or-false _))
    (λ h. sym (or-false _))

unwrap-if : {A : Type 0} (b : Bool) (v w : A) → cond b v w ≡ unwrap_or (cond b (Some v) None) w
unwrap-if true v w = refl
unwrap-if false v w = refl

-- a count that is set
pub set_count : (ns : List ℕ) (at n h : ℕ) → at < length ns → slice_index (slice_set ns at n) h ≡ cond (h == at) n (slice_index ns h)
set_count ns at n h l =
    cond_both (h == at) n (slice_index ns h) (λ r. slice_index (slice_set ns at n) h ≡ r)
    (λ y. (let e : h ≡ at = eqb-true h at y in rw e (get_or-set_same ns at n 0 l)))
    (λ no'. get_or-set_other ns at h n 0 (eqb-false h at no'))

complete_changes : {E : Type 0} (c : Setup) (m : State E) (at upto : ℕ) → IsSound c m → NoneHold (refusals c m (Complete at upto))
    → Changes m (entry_of (Complete at upto) (accepted c m (Complete at upto))) (accepted c m (Complete at upto)).state
complete_changes c m at upto sound none =
    let inside : at < handlers c = grind (arith, nat_tests, none.0) in
    let len : length m.completed ≡ handlers c = sound.completed_len in
    unwritten c m _ _ sound (λ s. refl) (λ h. refl) refl refl (omega arith) (λ s. first_of-none _) (λ s. sym (or-false _))
    (λ h. set_count m.completed at upto h (omega arith) ∙ unwrap-if (h == at) upto (slice_index m.completed h)) (sym (or-false _))
    (λ h. sym (or-false _))

or-true : (b : Bool) → true ≡ (b || true)
or-true true = refl
or-true false = refl

halt_changes : {E : Type 0} (c : Setup) (m : State E) → IsSound c m → Changes m (entry_of Halt (accepted c m Halt)) (accepted c m Halt).state
halt_changes c m sound =
    unwritten c m _ _ sound (λ s. refl) (λ h. refl) refl refl (omega arith) (λ s. first_of-none _) (λ s. sym (or-false _)) (λ h. refl)
    (or-true m.halted) (λ h. sym (or-false _))

retire_changes : {E : Type 0} (c : Setup) (m : State E) (at : ℕ) → IsSound c m → Changes m (entry_of (Retire at) (accepted c m (Retire at))) (accepted c m (Retire at)).state
retire_changes c m at sound =
    unwritten c m _ _ sound (λ s. refl) (λ h. refl) refl refl (omega arith) (λ s. first_of-none _) (λ s. sym (or-false _)) (λ h. refl)
    (sym (or-false _)) (λ h. refl)

-- no handler is offered more than is published
pub offered-le : {E : Type 0} (c : Setup) (m : State E) → IsSound c m → (hs : List ℕ) → offered m hs ≤ front m
offered-le c m sound [] = omega arith
offered-le c m sound (u ∷ us) =
    let a : least_of (map (λ h. slice_index m.completed h) (u ∷ us)) ≤ slice_index m.completed u =
    least_of-le (map (λ h. slice_index m.completed h) (u ∷ us)) 0 (omega arith) in
    let b : slice_index m.completed u ≤ slice_index m.taken u = sound.took u in
    let d : slice_index m.taken u ≤ front m = sound.in_front u in
    omega arith

-- of numbers that each give something, all that they give
cons_get : {E : Type 0} (o : Option E) (xs : List E) → is_none o ≡ false → (length (cons_option o xs) ≡ suc (length xs)) × (slice_get (cons_option o xs) 0 ≡ o) × ((k : ℕ) → slice_get (cons_option o xs) (suc k) ≡ slice_get xs k)
cons_get None xs h = absurd (cc)
cons_get (Some x) xs h = (refl, refl, λ k. refl)

pub given : {E : Type 0} (w : ℕ → Option E) (a n : ℕ) → ((k : ℕ) → a ≤ k → k < a + n → is_none (w k) ≡ false)
    → (length (filter_map w (range_with_len a n)) ≡ n) × ((k : ℕ) → k < n → slice_get (filter_map w (range_with_len a n)) k ≡ w (a + k))
given w a zero h = (refl, λ k l. absurd (omega arith))
given {E} w a (suc n) h =
    let rest : (length (filter_map w (range_with_len (a + 1) n)) ≡ n) × ((k : ℕ) → k < n → slice_get (filter_map w (range_with_len (a + 1) n)) k ≡ w ((a + 1) + k)) =
    given w (a + 1) n (λ k low high. h k (omega arith) (omega arith)) in
    let one = cons_get (w a) (filter_map w (range_with_len (a + 1) n)) (h a (omega arith) (omega arith)) in
    (one.0 ∙ ap suc rest.0, given_at w a n (filter_map w (range_with_len (a + 1) n)) one.1 one.2 rest.1)
  where
    given_at : (w : ℕ → Option E) (a n : ℕ) (xs : List E) → slice_get (cons_option (w a) xs) 0 ≡ w a → ((k : ℕ) → slice_get (cons_option (w a) xs) (suc k) ≡ slice_get xs k)
        → ((k : ℕ) → k < n → slice_get xs k ≡ w ((a + 1) + k)) → (k : ℕ) → k < suc n → slice_get (cons_option (w a) xs) k ≡ w (a + k)
    given_at w a n xs first more rest zero l = first ∙ ap w (let e : a ≡ a + 0 = omega arith in e)
    given_at w a n xs first more rest (suc k) l = more k ∙ rest k (omega arith) ∙ ap w (let e : (a + 1) + k ≡ a + suc k = omega arith in e)

abbrev pub count_of : {E : Type 0} → Setup → State E → ℕ → ℕ → ℕ
count_of c m at limit = min (available c m at - slice_index m.taken at) limit

abbrev values_of : {E : Type 0} → Setup → State E → ℕ → ℕ → List E
values_of c m at limit = filter_map m.written (range_with_len (slice_index m.taken at) (count_of c m at limit))

module _ {E : Type 0} (c : Setup) (m : State E) (at limit : ℕ) (sound : IsSound c m) (inside : at < handlers c) where
  pub within : at < length m.taken
  within = let e : length m.taken ≡ handlers c = sound.taken_len in omega arith

  pub reach : slice_index m.taken at < available c m at → slice_index m.taken at + count_of c m at limit ≤ front m
  reach more = let o : available c m at ≤ front m = offered-le c m sound (upstreams_of c.upstreams at) in omega arith

  published_there : (k : ℕ) → k < front m → m.published k ≡ true
  published_there k l = (least_is m.published (next m)).below k l

  -- the events of a batch are as many as it counts, and those written to its sequences
  all_given : slice_index m.taken at < available c m at → (length (values_of c m at limit) ≡ count_of c m at limit)
      × ((k : ℕ) → k < count_of c m at limit → slice_get (values_of c m at limit) k ≡ m.written (slice_index m.taken at + k))
  all_given more =
      let r : slice_index m.taken at + count_of c m at limit ≤ front m = reach more in
      given m.written (slice_index m.taken at) (count_of c m at limit) (λ k low high. sound.written k (published_there k (omega arith)))

  many : slice_index m.taken at < available c m at → length (values_of c m at limit) ≡ count_of c m at limit
  many more = (all_given more).0

  value : slice_index m.taken at < available c m at → (k : ℕ) → k < count_of c m at limit
      → slice_get (values_of c m at limit) k ≡ m.written (slice_index m.taken at + k)
  value more = (all_given more).1

  batch_changes : slice_index m.taken at < available c m at → Changes m (entry_of (Poll at limit) (batch c m at limit)) (batch c m at limit).state
  batch_changes more = record {
    next = omega arith;
    owners = λ s. first_of-none _;
    published = λ s. sym (or-false _);
    written = λ s. refl;
    taken =
        λ h. set_count m.taken at (slice_index m.taken at + count_of c m at limit) h within
        ∙ cond_both (h == at) (values_of c m at limit) []
        (λ vs. cond (h == at) (slice_index m.taken at + count_of c m at limit) (slice_index m.taken h) ≡ slice_index m.taken h + length vs)
        (λ y. (let e : h ≡ at = eqb-true h at y in rw y (rw e (ap (λ k. slice_index m.taken at + k) (sym (many more))))))
        (λ n. rw n (sym (add-zero _)));
    completed = λ h. refl;
    halted = sym (or-false _);
    retired = λ h. sym (or-false _);
    settled = λ s h. refl;
    fresh = λ s h. refl;
    batch = λ h k. cond_both (h == at) (values_of c m at limit) [] (λ vs. k < length vs → slice_get vs k ≡ m.written (slice_index m.taken h + k))
        (λ y l. (let e : h ≡ at = eqb-true h at y in
        let n : length (values_of c m at limit) ≡ count_of c m at limit = many more in
        rw e (value more k (omega arith))))
        (λ n l. absurd (omega arith));
    in_front =
        λ h k l. published_there k (cond_both (h == at) (slice_index m.taken at + count_of c m at limit) (slice_index m.taken h) (λ n. k < n → k < front m)
        (λ y l. (let r : slice_index m.taken at + count_of c m at limit ≤ front m = reach more in omega arith))
        (λ n l. (let w : slice_index m.taken h ≤ front m = sound.in_front h in omega arith))
        (rw (set_count m.taken at (slice_index m.taken at + count_of c m at limit) h within) at l));
  }

poll_changes : {E : Type 0} (c : Setup) (m : State E) (at limit : ℕ) → IsSound c m → NoneHold (refusals c m (Poll at limit))
    → Changes m (entry_of (Poll at limit) (accepted c m (Poll at limit))) (accepted c m (Poll at limit)).state
poll_changes {E} c m at limit sound none =
    let P : Outcome E → Type 0 = λ o. Changes m (entry_of (Poll at limit) o) o.state in
    cond_both (nat_lt (slice_index m.taken at) (available c m at)) _ _ P
    (λ y. batch_changes c m at limit sound (grind (arith, nat_tests, none.0)) (grind (arith, nat_tests, y)))
    (λ n. cond_both (m.halted && (slice_index m.taken at == next m)) _ _ P
    (λ y. quiet c m (Poll at limit) Drained sound refl (λ s. refl) (λ s. refl) (λ s. refl) (λ s. refl) (λ s. refl) refl (λ h. refl))
    (λ n'. cond_both (nat_lt (slice_index m.taken at) (cursor c m)) _ _ P
    (λ y. quiet c m (Poll at limit) Gating sound refl (λ s. refl) (λ s. refl) (λ s. refl) (λ s. refl) (λ s. refl) refl (λ h. refl))
    (λ n''. quiet c m (Poll at limit) Idle sound refl (λ s. refl) (λ s. refl) (λ s. refl) (λ s. refl) (λ s. refl) refl (λ h. refl))))

accepted_changes : {E : Type 0} (c : Setup) (m : State E) (command : Command E) → IsSound c m → NoneHold (refusals c m command)
    → Changes m (entry_of command (accepted c m command)) (accepted c m command).state
accepted_changes c m (Claim p n) sound none = claim_changes c m p n sound none
accepted_changes c m (Write p s v) sound none = write_changes c m p s v sound none
accepted_changes c m (Publish p lo hi) sound none = publish_changes c m p lo hi sound
accepted_changes c m (Poll h limit) sound none = poll_changes c m h limit sound none
accepted_changes c m (Complete h upto) sound none = complete_changes c m h upto sound none
accepted_changes c m Halt sound none = halt_changes c m sound
accepted_changes c m (Retire h) sound none = retire_changes c m h sound

-- each step changes the state as its entry says
pub step_changes : {E : Type 0} (c : Setup) (m : State E) (command : Command E) → IsSound c m → Changes m (entry_of command (step c m command)) (step c m command).state
step_changes c m command sound =
    unless-cases (λ o. Changes m (entry_of command o) o.state) (refusals c m command) m (accepted c m command)
    (λ r. quiet c m command (Refused r) sound refl (λ s. refl) (λ s. refl) (λ s. refl) (λ s. refl) (λ s. refl) refl (λ h. refl))
    (accepted_changes c m command sound)
