-- From every state that a transcript leads to, a finish can be reached.
use Rattle.std.proofs.Common.{◌≡◌, ℕ, zero, suc, ◌+◌, ◌-◌, ◌==◌, ◌<◌, ◌≤◌, inl, inr, min, Bool, false, Option, Some, unwrap_or, [], ◌∷◌, ◌++◌, arith}
use Rattle.std.proofs.Common.{refl, ap, sym, ◌∙◌, subst, length, slice_index}
use Rattle.std.proofs.lemmas.Bool.{cond-true, cond-false, cases_lt, cases_eq, cases_Bool, false≢true, lt-leb, lt-ltb, le-ltb, le-leb, eq-eqb, ne_eqb, and_from, or_left, or_right}
use Rattle.std.proofs.lemmas.List.{get_or-set_same}
use Rattle.dr_meaning.specs.declared.command.Command.{Command}
use Rattle.dr_meaning.specs.declared.command.Command.TheVariants.{Poll, Complete}
use Rattle.dr_graph.specs.Meaning.Graph.{upstreams_of, IsLayered}
use Rattle.dr_meaning.specs.Meaning.Machine.{Setup, State, Outcome, handlers, next, front, available, batch, refusals, accepted, step, opening}
use Rattle.dr_meaning.specs.Meaning.Transcript.{Transcript, LeadsFrom, LeadsTo}
use Rattle.dr_meaning.specs.Meaning.Progress.{CanFinish}
use Rattle.dr_meaning.proofs.Leasts.{IsLeast, least_is}
use Rattle.dr_meaning.proofs.Steps.{NoneHold}
use Rattle.dr_meaning.proofs.Sound.{IsSound, entry_of, offered-le}
use Rattle.dr_meaning.proofs.Keeps.{step_sound}
use Rattle.dr_meaning.proofs.FiveLaws.{reached, leads_append, accepted_rises}
use Rattle.dr_meaning.proofs.Progress.{IsTended, tended_along, opening_tended, goes, offered_all, write_front, publish_front, with_front, writes, publishes}

-- commands that lead from one state to another, claim, halt and retire nothing, and leave each event that is written
record Advances {E : Type 0} (c : Setup) (m n : State E) : Type 0 where
  rest : Transcript E
  leads : LeadsFrom c m rest n
  front : front m ≤ front n
  owners : n.owners ≡ m.owners
  halted : n.halted ≡ m.halted
  retired : n.retired ≡ m.retired
  written : (s : ℕ) (event : E) → m.written s ≡ Some event → n.written s ≡ Some event
  completed : (h : ℕ) → slice_index m.completed h ≤ slice_index n.completed h

stays : {E : Type 0} (c : Setup) (m : State E) → Advances c m m
stays c m = record { rest = []; leads = refl; front = omega arith; owners = refl; halted = refl; retired = refl; written = λ s event is. is; completed = λ h. omega arith }

joins : {E : Type 0} (c : Setup) (m n o : State E) → Advances c m n → Advances c n o → Advances c m o
joins c m n o first then = record {
  rest = first.rest ++ then.rest;
  leads = leads_append c first.rest then.rest m n o first.leads then.leads;
  front = (let a : front m ≤ front n = first.front in let b : front n ≤ front o = then.front in omega arith);
  owners = then.owners ∙ first.owners;
  halted = then.halted ∙ first.halted;
  retired = then.retired ∙ first.retired;
  written = λ s event is. then.written s event (first.written s event is);
  completed = λ h. (let a : slice_index m.completed h ≤ slice_index n.completed h = first.completed h in
      let b : slice_index n.completed h ≤ slice_index o.completed h = then.completed h in
      omega arith);
}

-- a step whose outcome is known, and more after it
leads_on : {E : Type 0} (c : Setup) (m : State E) (command : Command E) (o : Outcome E) (es : Transcript E) (end : State E) → step c m command ≡ o → LeadsFrom c o.state es end
    → LeadsFrom c m (entry_of command o ∷ es) end
leads_on {E} c m command o es end is leads =
    subst (λ (x : Outcome E). (x.reply ≡ o.reply) × (x.values ≡ o.values) × LeadsFrom c x.state es end) (sym is) (refl, refl, leads)

-- what every state of a transcript has
record IsFit {E : Type 0} (c : Setup) (m : State E) : Type 0 where
  sound : IsSound c m
  tended : IsTended c m

sound_along : {E : Type 0} (c : Setup) (es : Transcript E) (m n : State E) → IsSound c m → LeadsFrom c m es n → IsSound c n
sound_along c [] m n sound leads = subst (IsSound c) leads sound
sound_along c (e ∷ es) m n sound leads = sound_along c es (step c m e.command).state n (step_sound c m e.command sound) leads.2

fit_on : {E : Type 0} (c : Setup) (m n : State E) → Advances c m n → IsFit c m → IsFit c n
fit_on c m n on fit = record { sound = sound_along c on.rest m n fit.sound on.leads; tended = tended_along c on.rest m n fit.tended on.leads }

-- the front is published by its producer, with its own event where one is written
module _ {E : Type 0} (c : Setup) (m : State E) (fit : IsFit c m) (more : front m < next m) (other : E) where
  abbrev event : E
  event = unwrap_or (m.written (front m)) other

  abbrev told : State E
  told = (accepted c (with_front c m event) (publish_front m)).state

  further : front m < front told
  further =
      let old : IsLeast m.published (next m) (front m) = least_is m.published (next m) in
      let new : IsLeast told.published (next m) (front told) = least_is told.published (next m) in
      elim (cases_lt (front m) (front told)) [
        | inl on ↦ on
        | inr low ↦
            let here : told.published (front told) ≡ false = new.here (omega arith) in
            absurd (false≢true (sym here ∙ (elim (cases_lt (front told) (front m)) [
              | inl below ↦ or_left _ _ (old.below (front told) below)
              | inr high ↦ or_right (m.published (front told)) _ (and_from _ _ (le-leb _ _ high) (le-leb _ _ low))
            ])))
      ]

  keeps_written : (s : ℕ) (x : E) → m.written s ≡ Some x → told.written s ≡ Some x
  keeps_written s x is =
      elim (cases_eq s (front m)) [
        | inl here ↦ cond-true (s == front m) (Some event) (m.written s) (eq-eqb s (front m) here) ∙ ap (λ (o : Option E). Some (unwrap_or o other)) (sym (ap m.written here) ∙ is)
        | inr unequal ↦ cond-false (s == front m) (Some event) (m.written s) (ne_eqb s (front m) unequal) ∙ is
      ]

  front_on : Advances c m told
  front_on = record {
    rest = entry_of (write_front m event) (accepted c m (write_front m event)) ∷ entry_of (publish_front m) (accepted c (with_front c m event) (publish_front m)) ∷ [];
    leads =
        leads_on c m (write_front m event) (accepted c m (write_front m event))
        (entry_of (publish_front m) (accepted c (with_front c m event) (publish_front m)) ∷ []) told (writes c m fit.sound fit.tended more event)
        (leads_on c (with_front c m event) (publish_front m) (accepted c (with_front c m event) (publish_front m)) [] told (publishes c m fit.sound fit.tended more event) refl);
    front = (let f : front m < front told = further in omega arith);
    owners = refl;
    halted = refl;
    retired = refl;
    written = keeps_written;
    completed = λ h. omega arith;
  }

-- all that is claimed is published
record Publishes {E : Type 0} (c : Setup) (m : State E) : Type 0 where
  end : State E
  on : Advances c m end
  all : front end ≡ next end

publish_all : {E : Type 0} (event : E) (c : Setup) (fuel : ℕ) (m : State E) → next m ≤ front m + fuel → IsFit c m → Publishes c m
publish_all event c zero m enough fit =
    record { end = m; on = stays c m; all = (let l : front m ≤ next m = (least_is m.published (next m)).within in omega arith) }
publish_all event c (suc fuel) m enough fit =
    elim (cases_lt (front m) (next m)) [
      | inr none ↦ record { end = m; on = stays c m; all = (let l : front m ≤ next m = (least_is m.published (next m)).within in omega arith) }
      | inl more ↦
          let one : Advances c m (told c m fit more event) = front_on c m fit more event in
          let others : Publishes c (told c m fit more event) =
          publish_all event c fuel (told c m fit more event) (let f : front m < front (told c m fit more event) = further c m fit more event in omega arith) (fit_on c m (told c m fit more event) one fit) in
          record { end = others.end; on = joins c m (told c m fit more event) others.end one others.on; all = others.all }
    ]

-- a handler takes all that is published
record Takes {E : Type 0} (c : Setup) (m : State E) (h : ℕ) : Type 0 where
  end : State E
  on : Advances c m end
  all : slice_index end.taken h ≡ front m

module _ {E : Type 0} (c : Setup) (m : State E) (fit : IsFit c m) (h : ℕ) (inside : h < handlers c) (left : m.retired h ≡ false) where
  take_all : front m ≤ available c m h → Takes c m h
  take_all open_up =
      elim (cases_lt (slice_index m.taken h) (available c m h)) [
        | inr none ↦ record { end = m; on = stays c m; all = (let t : slice_index m.taken h ≤ front m = fit.sound.in_front h in omega arith) }
        | inl more ↦
            let is : step c m (Poll h (front m + 1)) ≡ batch c m h (front m + 1) =
            goes c m fit.sound fit.tended (Poll h (front m + 1)) (lt-leb _ _ inside, (left, (ne_eqb (front m + 1) 0 (λ e. omega arith), tt))) ∙ cond-true _ _ _ (lt-ltb _ _ more) in
            let len : h < length m.taken = (let e : length m.taken ≡ handlers c = fit.sound.taken_len in omega arith) in
            let offers : available c m h ≤ front m = offered-le c m fit.sound (upstreams_of c.upstreams h) in
            let whole : slice_index m.taken h + min (available c m h - slice_index m.taken h) (front m + 1) ≡ front m = omega arith in
            record {
              end = (batch c m h (front m + 1)).state;
              on = record {
                rest = entry_of (Poll h (front m + 1)) (batch c m h (front m + 1)) ∷ [];
                leads = leads_on c m (Poll h (front m + 1)) (batch c m h (front m + 1)) [] (batch c m h (front m + 1)).state is refl;
                front = omega arith;
                owners = refl;
                halted = refl;
                retired = refl;
                written = λ s event is. is;
                completed = λ k. omega arith;
              };
              all = get_or-set_same m.taken h _ 0 len ∙ whole;
            }
      ]

  -- and completes all that it took
  abbrev finished : State E
  finished = (accepted c m (Complete h (slice_index m.taken h))).state

  allowed : NoneHold (refusals c m (Complete h (slice_index m.taken h)))
  allowed =
      let took : slice_index m.completed h ≤ slice_index m.taken h = fit.sound.took h in
      let same : slice_index m.taken h ≤ slice_index m.taken h = omega arith in
      (lt-leb _ _ inside, (left, (le-ltb _ _ took, (le-ltb _ _ same, tt))))

  complete_all : Advances c m finished
  complete_all = record {
    rest = entry_of (Complete h (slice_index m.taken h)) (accepted c m (Complete h (slice_index m.taken h))) ∷ [];
    leads = leads_on c m (Complete h (slice_index m.taken h)) (accepted c m (Complete h (slice_index m.taken h))) [] finished
        (goes c m fit.sound fit.tended (Complete h (slice_index m.taken h)) allowed) refl;
    front = omega arith;
    owners = refl;
    halted = refl;
    retired = refl;
    written = λ s event is. is;
    completed = λ k. accepted_rises c m (Complete h (slice_index m.taken h)) k fit.sound allowed;
  }

  completed_all : slice_index finished.completed h ≡ slice_index m.taken h
  completed_all = get_or-set_same m.completed h (slice_index m.taken h) 0 (let e : length m.completed ≡ handlers c = fit.sound.completed_len in omega arith)

-- the first handlers complete all that is claimed
record Completes {E : Type 0} (c : Setup) (m : State E) (count : ℕ) : Type 0 where
  end : State E
  on : Advances c m end
  all : (h : ℕ) → h < count → m.retired h ≡ false → next m ≤ slice_index end.completed h

module _ {E : Type 0} (c : Setup) (layered : IsLayered c.upstreams) (m : State E) (fit : IsFit c m) (published : front m ≡ next m) where
  complete_next : (count : ℕ) → count < handlers c → m.retired count ≡ false → Completes c m count → Completes c m (suc count)
  complete_next count inside left before =
      let n : State E = before.end in
      let fit_n : IsFit c n = fit_on c m n before.on fit in
      let same : next n ≡ next m = ap length before.on.owners in
      let up : front m ≤ front n = before.on.front in
      let within : front n ≤ next n = (least_is n.published (next n)).within in
      let here_n : n.retired count ≡ false = ap (λ (r : ℕ → Bool). r count) before.on.retired ∙ left in
      let offers : front n ≤ available c n count =
      offered_all c n fit_n.sound fit_n.tended (upstreams_of c.upstreams count)
      (λ u has.
      let below : u < count = layered count u has in
      let low : next m ≤ slice_index n.completed u = before.all u below (fit.tended.left count u left has) in
      let took : slice_index n.completed u ≤ slice_index n.taken u = fit_n.sound.took u in
      let high : slice_index n.taken u ≤ front n = fit_n.sound.in_front u in
      omega arith) in
      let takes : Takes c n count = take_all c n fit_n count inside here_n offers in
      let o : State E = takes.end in
      let fit_o : IsFit c o = fit_on c n o takes.on fit_n in
      let here_o : o.retired count ≡ false = ap (λ (r : ℕ → Bool). r count) takes.on.retired ∙ here_n in
      let end : State E = finished c o fit_o count inside here_o in
      let since : Advances c n end = joins c n o end takes.on (complete_all c o fit_o count inside here_o) in
      record {
        end = end;
        on = joins c m n end before.on since;
        all = λ h low left_h. elim (cases_lt h count) [
          | inl below ↦
              let done : next m ≤ slice_index n.completed h = before.all h below left_h in
              let rises : slice_index n.completed h ≤ slice_index end.completed h = since.completed h in
              omega arith
          | inr high ↦
              let e : count ≡ h = omega arith in
              let all : slice_index end.completed count ≡ slice_index o.taken count = completed_all c o fit_o count inside here_o in
              let taken : slice_index o.taken count ≡ front n = takes.all in
              subst (λ k. next m ≤ slice_index end.completed k) e (omega arith)
        ];
      }

  complete_first : (count : ℕ) → count ≤ handlers c → Completes c m count
  complete_first zero within = record { end = m; on = stays c m; all = λ h low left. absurd (omega arith) }
  complete_first (suc count) within =
      let before : Completes c m count = complete_first count (omega arith) in
      elim (cases_Bool (m.retired count)) [
        | inr left ↦ complete_next count (omega arith) left before
        | inl gone ↦ record {
          end = before.end;
          on = before.on;
          all = λ h low left. elim (cases_lt h count) [
            | inl below ↦ before.all h below left
            | inr high ↦ (let e : count ≡ h = omega arith in absurd (false≢true (sym left ∙ ap m.retired (sym e) ∙ gone)))
          ];
        }
      ]

pub can_finish : {E : Type 0} (event : E) (c : Setup) (t : Transcript E) (m : State E) → IsLayered c.upstreams → LeadsTo c t m → CanFinish c m
can_finish event c t m layered leads =
    let fit : IsFit c m = record { sound = (reached c t m leads).sound; tended = tended_along c t (opening c) m (opening_tended c) leads } in
    let published : Publishes c m = publish_all event c (next m) m (omega arith) fit in
    let fit_p : IsFit c published.end = fit_on c m published.end published.on fit in
    let done : Completes c published.end (handlers c) = complete_first c layered published.end fit_p published.all (handlers c) (omega arith) in
    let on : Advances c m done.end = joins c m published.end done.end published.on done.on in
    let fit_d : IsFit c done.end = fit_on c published.end done.end done.on fit_p in
    let same : next done.end ≡ next published.end = ap length done.on.owners in
    let up : front published.end ≤ front done.end = done.on.front in
    let within : front done.end ≤ next done.end = (least_is done.end.published (next done.end)).within in
    let all : front published.end ≡ next published.end = published.all in
    record {
      rest = on.rest;
      end = done.end;
      leads = on.leads;
      owners = on.owners;
      halted = on.halted;
      retired = on.retired;
      written = on.written;
      published = omega arith;
      completed = λ h inside left.
          let left_p : published.end.retired h ≡ false = ap (λ (r : ℕ → Bool). r h) (sym done.on.retired) ∙ left in
          let low : next published.end ≤ slice_index done.end.completed h = done.all h inside left_p in
          let took : slice_index done.end.completed h ≤ slice_index done.end.taken h = fit_d.sound.took h in
          let high : slice_index done.end.taken h ≤ front done.end = fit_d.sound.in_front h in
          omega arith;
    }
