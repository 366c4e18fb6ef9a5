-- Every transcript of the machine is lawful.
use Rattle.std.proofs.Common.{◌≡◌, ℕ, ◌+◌, ◌-◌, ◌<◌, ◌≤◌, ◌≢◌, true, false, ◌&&◌, [], ◌∷◌, ◌++◌, arith, refl, sym, ◌∙◌, length, slice_index, append_assoc}
use Rattle.std.specs.Prelude.{Contains, ◌==◌, nat_lt, not}
use Rattle.std.proofs.lemmas.Bool.{cond_both, and_parts, or_parts, false≢true, eqb-true, eqb-false, not-true, not-false}
use Rattle.std.proofs.lemmas.Bool.Decides.{nat_tests}
use Rattle.std.proofs.lemmas.List.{append-nil}
use Rattle.dr_meaning.specs.declared.command.Command.{Command}
use Rattle.dr_meaning.specs.declared.command.Command.TheVariants.{Claim, Write, Publish, Poll, Complete, Halt, Retire}
use Rattle.dr_meaning.specs.declared.command.Reply.TheVariants.{Claimed, Drained, Gating, Idle}
use Rattle.dr_graph.proofs.Gating.{finals_agree, finals_gate, found_in, least_rises}
use Rattle.dr_graph.specs.Meaning.Graph.{IsLayered}
use Rattle.dr_meaning.specs.Meaning.Machine.{Setup, State, Outcome, handlers, next, front, available, gate, gating, retired_with}
use Rattle.dr_meaning.specs.Meaning.Machine.{least_completed, refusals, accepted, unchanged, step, batch, cursor, opening}
use Rattle.dr_meaning.specs.Meaning.Transcript.{Entry, Transcript, LeadsFrom, LeadsTo, next_of, is_published, front_of, taken_by, completed_by, retired_by}
use Rattle.dr_meaning.specs.Meaning.Tells.{Tells}
use Rattle.dr_meaning.specs.Meaning.Laws.{ReceivedInOrder, AfterUpstreams, HasRoom, GivesNext, NoClaimAfterHalt, DrainedIsComplete, Laws}
use Rattle.dr_meaning.proofs.Leasts.{least_is, least_agree, least_of-member}
use Rattle.dr_meaning.proofs.Steps.{NoneHold, unless-cases}
use Rattle.dr_meaning.proofs.Tells.{tells_more}
use Rattle.dr_meaning.proofs.Sound.{IsSound, orderly, entry_of, step_changes, set_count}
use Rattle.dr_seq.proofs.Stamped.{zeros}
use Rattle.dr_meaning.proofs.Keeps.{opening_sound, step_sound}

-- the machine is in this state after this transcript
pub record Reached {E : Type 0} (c : Setup) (t : Transcript E) (m : State E) : Type 0 where
  pub sound : IsSound c m
  pub tells : Tells t m

opening_reached : {E : Type 0} (c : Setup) → Reached {E = E} c [] (opening c)
opening_reached {E} c = record {
  sound = opening_sound c;
  tells = record {
    next = refl;
    owners = λ s. refl;
    published = λ s. refl;
    written = λ s. refl;
    events = λ s h. refl;
    taken = λ h. sym (zeros (handlers c) h);
    received = λ h k l. absurd (let z : slice_index (opening {E = E} c).taken h ≡ 0 = zeros (handlers c) h in omega arith);
    completed = λ h. sym (zeros (handlers c) h);
    halted = refl;
    retired = λ h. refl;
  };
}

-- an entry is the machine's where it has its reply and values
same_entry : {E : Type 0} (c : Setup) (m : State E) (e : Entry E) → (step c m e.command).reply ≡ e.reply → (step c m e.command).values ≡ e.values
    → entry_of e.command (step c m e.command) ≡ e
same_entry c m e r v = rw (r, v)

reached_more : {E : Type 0} (c : Setup) (t : Transcript E) (m : State E) (e : Entry E) → Reached c t m → (step c m e.command).reply ≡ e.reply
    → (step c m e.command).values ≡ e.values → Reached c (t ++ e ∷ []) (step c m e.command).state
reached_more c t m e at r v =
    let told : Tells (t ++ entry_of e.command (step c m e.command) ∷ []) (step c m e.command).state =
    tells_more t m _ _ at.tells (step_changes c m e.command at.sound) in
    record { sound = step_sound c m e.command at.sound; tells = rw (same_entry c m e r v) at told }

pub reached_from : {E : Type 0} (c : Setup) (t es : Transcript E) (m n : State E) → Reached c t m → LeadsFrom c m es n → Reached c (t ++ es) n
reached_from c t [] m n at e = rw append-nil (rw e at at)
reached_from c t (x ∷ es) m n at h =
    let r : Reached c ((t ++ x ∷ []) ++ es) n = reached_from c (t ++ x ∷ []) es (step c m x.command).state n (reached_more c t m x at h.0 h.1) h.2 in
    rw append_assoc at r

pub reached : {E : Type 0} (c : Setup) (t : Transcript E) (m : State E) → LeadsTo c t m → Reached c t m
reached c t m h = reached_from c [] t (opening c) m (opening_reached c) h

-- a transcript leads through a state at each of its beginnings
pub leads_through : {E : Type 0} (c : Setup) (start rest : Transcript E) (m n : State E) → LeadsFrom c m (start ++ rest) n
    → (between : State E) × LeadsFrom c m start between × LeadsFrom c between rest n
leads_through c [] rest m n h = (m, refl, h)
leads_through {E} c (e ∷ es) rest m n h =
    let r : (between : State E) × LeadsFrom c (step c m e.command).state es between × LeadsFrom c between rest n =
    leads_through c es rest (step c m e.command).state n h.2 in
    (r.0, (h.0, h.1, r.1), r.2)

pub leads_append : {E : Type 0} (c : Setup) (start rest : Transcript E) (m between n : State E) → LeadsFrom c m start between → LeadsFrom c between rest n
    → LeadsFrom c m (start ++ rest) n
leads_append c [] rest m between n a b = rw a b
leads_append c (e ∷ es) rest m between n a b = (a.0, a.1, leads_append c es rest (step c m e.command).state between n a.2 b)

front_same : {E : Type 0} (t : Transcript E) (m : State E) → Tells t m → front_of t ≡ front m
front_same t m told = rw (told.next) (least_agree (is_published t) m.published (next m) told.published)

receives : {E : Type 0} (c : Setup) (t : Transcript E) (m : State E) → Reached c t m → (h : ℕ) → ReceivedInOrder t h
receives c t m at h =
    let took : taken_by t h ≡ slice_index m.taken h = at.tells.taken h in
    let in_front : slice_index m.taken h ≤ front m = at.sound.in_front h in
    let same : front_of t ≡ front m = front_same t m at.tells in
    record {
      events = λ k l. at.tells.received h k (omega arith) ∙ sym (at.tells.events k ((least_is m.published (next m)).below k (omega arith)));
      published = omega arith;
    }

-- what holds of an accepted poll in each of its four cases
poll_cases : {E : Type 0} (c : Setup) (m : State E) (h limit : ℕ) (P : Outcome E → Type 0) → P (batch c m h limit)
    → (m.halted ≡ true → slice_index m.taken h ≡ next m → P (unchanged Drained m)) → P (unchanged Gating m) → P (unchanged Idle m)
    → P (accepted c m (Poll h limit))
poll_cases c m h limit P b d g i =
    cond_both (nat_lt (slice_index m.taken h) (available c m h)) _ _ P
    (λ y. b)
    (λ n. cond_both (m.halted && (slice_index m.taken h == next m)) _ _ P
    (λ y. let both : (m.halted ≡ true) × ((slice_index m.taken h == next m) ≡ true) = and_parts _ _ y in d both.0 (eqb-true _ _ both.1))
    (λ n'. cond_both (nat_lt (slice_index m.taken h) (cursor c m)) _ _ P (λ y. g) (λ n''. i)))

abbrev pub Rises : {E : Type 0} → State E → ℕ → Outcome E → Type 0
Rises m h o = slice_index m.completed h ≤ slice_index o.state.completed h

pub accepted_rises : {E : Type 0} (c : Setup) (m : State E) (command : Command E) (h : ℕ) → IsSound c m → NoneHold (refusals c m command) → Rises m h (accepted c m command)
accepted_rises c m (Claim p n) h sound none = omega arith
accepted_rises c m (Write p s v) h sound none = omega arith
accepted_rises c m (Publish p lo hi) h sound none = omega arith
accepted_rises c m (Poll at limit) h sound none = poll_cases c m at limit (Rises m h) (omega arith) (λ a b. omega arith) (omega arith) (omega arith)
accepted_rises c m (Complete at upto) h sound none =
    let inside : at < handlers c = grind (arith, nat_tests, none.0) in
    let up : slice_index m.completed at ≤ upto = grind (arith, nat_tests, none.1.1.0) in
    let len : at < length m.completed = (let e : length m.completed ≡ handlers c = sound.completed_len in omega arith) in
    rw (set_count m.completed at upto h len)
    (cond_both (h == at) upto (slice_index m.completed h) (λ n. slice_index m.completed h ≤ n) (λ y. (let e : h ≡ at = eqb-true h at y in rw e up))
    (λ n. omega arith))
accepted_rises c m Halt h sound none = omega arith
accepted_rises c m (Retire at) h sound none = omega arith

step_rises : {E : Type 0} (c : Setup) (m : State E) (command : Command E) (h : ℕ) → IsSound c m → Rises m h (step c m command)
step_rises c m command h sound =
    unless-cases (Rises m h) (refusals c m command) m (accepted c m command) (λ r. omega arith) (accepted_rises c m command h sound)

-- an accepted claim has room, and comes before a halt
abbrev ClaimsInRoom : {E : Type 0} → Setup → State E → Outcome E → Type 0
ClaimsInRoom c m o =
    (lo hi : ℕ) → o.reply ≡ Claimed lo hi → (m.halted ≡ false) × ((f : ℕ) → Contains (gating c m) f → hi + 1 ≤ c.size + slice_index m.completed f)

claimed_end : (lo hi a b : ℕ) → Claimed a b ≡ Claimed lo hi → hi ≡ b
claimed_end lo hi a b e = cc

accepted_room : {E : Type 0} (c : Setup) (m : State E) (command : Command E) → NoneHold (refusals c m command) → ClaimsInRoom c m (accepted c m command)
accepted_room c m (Claim p n) none lo hi e =
    let ends : hi ≡ next m + n - 1 = claimed_end lo hi (next m) (next m + n - 1) e in
    let ne : n ≢ 0 = eqb-false n 0 (or_parts _ _ none.1.0).0 in
    let room : next m + n ≤ c.size + least_completed m (gating c m) = grind (arith, nat_tests, none.1.1.1.1.0) in (
      none.1.1.0,
      λ f has. (let l : least_completed m (gating c m) ≤ slice_index m.completed f = least_of-member (λ h. slice_index m.completed h) (gating c m) f has in
          omega arith),
    )
accepted_room c m (Write p s v) none lo hi e = cc
accepted_room c m (Publish p a b) none lo hi e = cc
accepted_room c m (Poll at limit) none lo hi e =
    poll_cases c m at limit
    (λ o. o.reply ≡ Claimed lo hi → (m.halted ≡ false) × ((f : ℕ) → Contains (gating c m) f → hi + 1 ≤ c.size + slice_index m.completed f))
    (λ x. cc) (λ a b x. cc) (λ x. cc) (λ x. cc) e
accepted_room c m (Complete at upto) none lo hi e = cc
accepted_room c m Halt none lo hi e = cc
accepted_room c m (Retire at) none lo hi e = cc

step_room : {E : Type 0} (c : Setup) (m : State E) (command : Command E) → ClaimsInRoom c m (step c m command)
step_room c m command = unless-cases (ClaimsInRoom c m) (refusals c m command) m (accepted c m command) (λ r lo hi e. cc) (accepted_room c m command)

-- an accepted claim is given the next sequences
abbrev ClaimsNext : {E : Type 0} → State E → Outcome E → Type 0
ClaimsNext m o = (lo hi : ℕ) → o.reply ≡ Claimed lo hi → lo ≡ next m

claimed_start : (lo hi a b : ℕ) → Claimed a b ≡ Claimed lo hi → lo ≡ a
claimed_start lo hi a b e = cc

accepted_next : {E : Type 0} (c : Setup) (m : State E) (command : Command E) → NoneHold (refusals c m command) → ClaimsNext m (accepted c m command)
accepted_next c m (Claim p n) none lo hi e = claimed_start lo hi (next m) (next m + n - 1) e
accepted_next c m (Write p s v) none lo hi e = cc
accepted_next c m (Publish p a b) none lo hi e = cc
accepted_next c m (Poll at limit) none lo hi e =
    poll_cases c m at limit (λ o. o.reply ≡ Claimed lo hi → lo ≡ next m) (λ x. cc) (λ a b x. cc) (λ x. cc) (λ x. cc) e
accepted_next c m (Complete at upto) none lo hi e = cc
accepted_next c m Halt none lo hi e = cc
accepted_next c m (Retire at) none lo hi e = cc

step_next : {E : Type 0} (c : Setup) (m : State E) (command : Command E) → ClaimsNext m (step c m command)
step_next c m command = unless-cases (ClaimsNext m) (refusals c m command) m (accepted c m command) (λ r lo hi e. cc) (accepted_next c m command)

-- who is told that it drained the ring has taken all, after a halt
abbrev Drains : {E : Type 0} → State E → ℕ → Outcome E → Type 0
Drains m h o = o.reply ≡ Drained → (m.halted ≡ true) × (slice_index m.taken h ≡ next m)

step_drains : {E : Type 0} (c : Setup) (m : State E) (h limit : ℕ) → Drains m h (step c m (Poll h limit))
step_drains c m h limit =
    unless-cases (Drains m h) (refusals c m (Poll h limit)) m (accepted c m (Poll h limit)) (λ r e. cc)
    (λ none. poll_cases c m h limit (Drains m h) (λ e. cc) (λ a b e. (a, b)) (λ e. cc) (λ e. cc))

-- along a transcript no completed count falls
rises_along : {E : Type 0} (c : Setup) (es : Transcript E) (m n : State E) (h : ℕ) → IsSound c m → LeadsFrom c m es n → slice_index m.completed h ≤ slice_index n.completed h
rises_along c [] m n h sound leads = rw leads (omega arith)
rises_along c (e ∷ es) m n h sound leads =
    let one : slice_index m.completed h ≤ slice_index (step c m e.command).state.completed h = step_rises c m e.command h sound in
    let others : slice_index (step c m e.command).state.completed h ≤ slice_index n.completed h =
    rises_along c es (step c m e.command).state n h (step_sound c m e.command sound) leads.2 in
    omega arith

rises : {E : Type 0} (c : Setup) (t : Transcript E) (m : State E) → LeadsTo c t m → (h : ℕ) (earlier since : Transcript E) → earlier ++ since ≡ t
    → completed_by earlier h ≤ completed_by t h
rises {E} c t m leads h earlier since is =
    let whole : LeadsFrom c (opening c) (earlier ++ since) m = rw is leads in
    let through : (between : State E) × LeadsFrom c (opening c) earlier between × LeadsFrom c between since m =
    leads_through c earlier since (opening c) m whole in
    let before : Reached c earlier through.0 = reached c earlier through.0 through.1 in
    let after : Reached c t m = reached c t m leads in
    let a : completed_by earlier h ≡ slice_index through.0.completed h = before.tells.completed h in
    let b : completed_by t h ≡ slice_index m.completed h = after.tells.completed h in
    let l : slice_index through.0.completed h ≤ slice_index m.completed h = rises_along c since through.0 m h before.sound through.2 in
    omega arith

follows : {E : Type 0} (c : Setup) (t : Transcript E) (m : State E) → LeadsTo c t m → (h : ℕ) → AfterUpstreams c t h
follows c t m leads h =
    let at : Reached c t m = reached c t m leads in
    let took : taken_by t h ≡ slice_index m.taken h = at.tells.taken h in
    record {
      rises = rises c t m leads h;
      took = (let a : completed_by t h ≡ slice_index m.completed h = at.tells.completed h in
          let l : slice_index m.completed h ≤ slice_index m.taken h = at.sound.took h in
          omega arith);
      after = λ u k. (let a : completed_by t u ≡ slice_index m.completed u = at.tells.completed u in
          let l : slice_index m.taken h ≤ slice_index m.completed u = at.sound.after h u k in
          omega arith);
    }

module _ {E : Type 0} (c : Setup) (t : Transcript E) (m : State E) (e : Entry E) (at : Reached c t m) (r : (step c m e.command).reply ≡ e.reply) where
  room : HasRoom c t e
  room lo hi f claimed has =
      let a : completed_by t f ≡ slice_index m.completed f = at.tells.completed f in
      let l : hi + 1 ≤ c.size + slice_index m.completed f =
      (step_room c m e.command lo hi (r ∙ claimed)).1 f (rw (finals_agree c.upstreams (retired_by t) m.retired at.tells.retired) at has) in
      omega arith

  gives : GivesNext t e
  gives lo hi claimed = step_next c m e.command lo hi (r ∙ claimed) ∙ sym at.tells.next

  unhalted : NoClaimAfterHalt t e
  unhalted lo hi claimed halted =
      let going : m.halted ≡ false = (step_room c m e.command lo hi (r ∙ claimed)).0 in
      false≢true (sym going ∙ sym at.tells.halted ∙ halted)

  drains : DrainedIsComplete t e
  drains h limit asked told =
      let same : (step c m (Poll h limit)).reply ≡ Drained = (rw asked at r) ∙ told in
      let d : (m.halted ≡ true) × (slice_index m.taken h ≡ next m) = step_drains c m h limit same in
      let all : slice_index m.taken h ≤ front m = at.sound.in_front h in
      let count : next_of t ≡ next m = at.tells.next in
      let took : taken_by t h ≡ slice_index m.taken h = at.tells.taken h in
      let last : slice_index m.taken h ≡ next m = d.1 in
      record {
        halted = at.tells.halted ∙ d.0;
        taken = omega arith;
        published = λ s l. at.tells.published s ∙ (least_is m.published (next m)).below s (omega arith);
      }

-- where a transcript leads at a beginning of it, and what it answers next
abbrev Through : {E : Type 0} → Setup → Transcript E → Transcript E → State E → Type 0
Through {E} c start rest m = (between : State E) × LeadsFrom c (opening c) start between × LeadsFrom c between rest m

through : {E : Type 0} (c : Setup) (t : Transcript E) (m : State E) → LeadsTo c t m → (start rest : Transcript E) → start ++ rest ≡ t → Through c start rest m
through c t m leads start rest is = leads_through c start rest (opening c) m (rw is leads)

-- every transcript that leads to a state from the opening is lawful
pub lawful : {E : Type 0} (c : Setup) (t : Transcript E) (m : State E) → LeadsTo c t m → Laws c t
lawful c t m leads = record {
  received_in_order = λ start rest is h inside. (let r : Through c start rest m = through c t m leads start rest is in
      receives c start r.0 (reached c start r.0 r.1) h);
  after_upstreams = λ start rest is h inside. (let r : Through c start rest m = through c t m leads start rest is in follows c start r.0 r.1 h);
  has_room = λ start rest e is. (let r : Through c start (e ∷ rest) m = through c t m leads start (e ∷ rest) is in
      room c start r.0 e (reached c start r.0 r.1) r.2.0);
  gives_next = λ start rest e is. (let r : Through c start (e ∷ rest) m = through c t m leads start (e ∷ rest) is in
      gives c start r.0 e (reached c start r.0 r.1) r.2.0);
  no_claim_after_halt = λ start rest e is. (let r : Through c start (e ∷ rest) m = through c t m leads start (e ∷ rest) is in
      unhalted c start r.0 e (reached c start r.0 r.1) r.2.0);
  drained_is_complete = λ start rest e is. (let r : Through c start (e ∷ rest) m = through c t m leads start (e ∷ rest) is in
      drains c start r.0 e (reached c start r.0 r.1) r.2.0);
}

-- a handler that may retire leaves another
pub leaves_another : {E : Type 0} (c : Setup) (m : State E) (h : ℕ) → NoneHold (refusals c m (Retire h)) → (k : ℕ) × (k < handlers c) × (retired_with m h k ≡ false)
leaves_another c m h none =
    let at : (k : ℕ) × (0 ≤ k) × (k < 0 + handlers c) × (not (retired_with m h k) ≡ true) =
    found_in (λ k. not (retired_with m h k)) 0 (handlers c) (not-false _ none.1.1.1.0) in
    (at.0, omega (arith, at.2), not-true _ at.3)

-- no retirement lowers the count that a claim is gated by
pub retirement_keeps : {E : Type 0} (c : Setup) (t : Transcript E) (m : State E) (h : ℕ) → IsLayered c.upstreams → LeadsTo c t m → gate c m ≤ gate c (step c m (Retire h)).state
retirement_keeps c t m h layered leads =
    let sound : IsSound c m = (reached c t m leads).sound in
    unless-cases (λ o. gate c m ≤ gate c o.state) (refusals c m (Retire h)) m (accepted c m (Retire h)) (λ r. omega arith)
    (λ none.
    let other : (k : ℕ) × (k < handlers c) × (retired_with m h k ≡ false) = leaves_another c m h none in
    least_rises c.upstreams (finals_gate c.upstreams layered) m.retired (retired_with m h) (λ k here. (or_parts _ _ here).0)
    (λ k. slice_index m.completed k) (orderly sound.order) other.0 other.1 other.2)
