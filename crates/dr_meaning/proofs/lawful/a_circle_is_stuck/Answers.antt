use Rattle.std.proofs.Common.{arith, ℕ, zero, suc, ◌≡◌, ◌<◌, ◌≤◌, ◌+◌, inl, inr, List, [], ◌∷◌, refl, ap, sym, subst, slice_index}
use Rattle.std.specs.Prelude.{◌⊎◌, Contains, get_or, true, false}
use Rattle.dr_graph.specs.Meaning.Graph.{upstreams_of}
use Rattle.dr_meaning.specs.declared.command.Command.TheVariants.{Poll}
use Rattle.dr_meaning.specs.declared.command.Reply.TheVariants.{Claimed, Written, Batch, Drained, Gating, Refused}
use Rattle.dr_meaning.specs.declared.mode.Mode.{Mode}
use Rattle.dr_meaning.specs.declared.mode.Mode.TheVariants.{Single, Multi}
use Rattle.dr_meaning.specs.declared.refusal.Refusal.TheVariants.{NoRoom, NoProducer}
use Rattle.dr_meaning.specs.Meaning.Machine.{Setup, State, opening, step, next, gating}
use Rattle.dr_meaning.specs.Meaning.Transcript.{Transcript, LeadsTo}
use Rattle.dr_meaning.specs.Meaning.Progress.{MayTake, MayComplete, WaitsFor, IsPathUp, CompletesAll, AwaitedGoesOn, reply_to}
use Rattle.dr_meaning.specs.Meaning.Stuck.{circle_of, circle, shared_circle, line, one_completed, two_completed, one_retired, halted, left_behind}
use Rattle.dr_meaning.specs.Meaning.TooFar.{two_published}
use Rattle.dr_meaning.proofs.lawful.a_circle_is_stuck.Goals as goal

-- the state to which the commands of a transcript lead from another
abbrev end_of : {E : Type 0} → Setup → State E → Transcript E → State E
end_of c m [] = m
end_of c m (e ∷ es) = end_of c (step c m e.command).state es

abbrev IsOfCircle : ℕ → Type 0
IsOfCircle h = (h ≡ 0) ⊎ (h ≡ 1)

abbrev GoesOn : Setup → State ℕ → ℕ → Type 0
GoesOn c m h = MayTake c m h ⊎ MayComplete c m h

-- a handler is told to wait for others, and has completed all that it took
abbrev Waits : Setup → State ℕ → ℕ → Type 0
Waits c m h = (reply_to c m (Poll h 1) ≡ Gating) × (slice_index m.completed h ≡ slice_index m.taken h)

waiting_stays : (c : Setup) (m : State ℕ) (h : ℕ) → (MayComplete c m h → slice_index m.completed h < slice_index m.taken h) → Waits c m h → GoesOn c m h → ⊥
waiting_stays c m h reads waits goes =
    elim goes [
      | inl take ↦ (let no : Gating ≡ Batch (slice_index m.taken h) 1 take.0 = subst (λ r. r ≡ Batch (slice_index m.taken h) 1 take.0) waits.0 take.1 in cc)
      | inr may ↦
          (let same : slice_index m.completed h ≡ slice_index m.taken h = waits.1 in
          let more : slice_index m.completed h < slice_index m.taken h = reads may in
          omega arith)
    ]

-- what the definitions say, which the answer that an edit of one names reads itself
record Reads (mode : Mode) (m : State ℕ) : Type 0 where
  pub upstream : (h up : ℕ) → WaitsFor (circle_of mode) m h up → Contains (upstreams_of circle.upstreams h) up
  pub taken : (h up : ℕ) → WaitsFor (circle_of mode) m h up → slice_index m.completed up ≤ slice_index m.taken h
  pub ends : (from to : ℕ) → IsPathUp (circle_of mode) m from [] to → from ≡ to
  pub more : (h : ℕ) → MayComplete (circle_of mode) m h → slice_index m.completed h < slice_index m.taken h

read_upstream : (mode : Mode) (m : State ℕ) (h up : ℕ) → WaitsFor (circle_of mode) m h up → Contains (upstreams_of circle.upstreams h) up
read_upstream mode m h up waits = waits.upstream

read_taken : (mode : Mode) (m : State ℕ) (h up : ℕ) → WaitsFor (circle_of mode) m h up → slice_index m.completed up ≤ slice_index m.taken h
read_taken mode m h up waits = waits.taken

read_end : (mode : Mode) (m : State ℕ) (from to : ℕ) → IsPathUp (circle_of mode) m from [] to → from ≡ to
read_end mode m from to leads = leads

read_more : (mode : Mode) (m : State ℕ) (h : ℕ) → MayComplete (circle_of mode) m h → slice_index m.completed h < slice_index m.taken h
read_more mode m h may = may.more

reads : (mode : Mode) (m : State ℕ) → Reads mode m
reads mode m = record { upstream = read_upstream mode m; taken = read_taken mode m; ends = read_end mode m; more = read_more mode m }

-- both of the circle wait
record IsBlocked (mode : Mode) (m : State ℕ) : Type 0 where
  pub reads : Reads mode m
  pub first : Waits (circle_of mode) m 0
  pub second : Waits (circle_of mode) m 1

-- so does the one behind it, which took less than its other upstream completed
record IsBlockedBehind (mode : Mode) (m : State ℕ) : Type 0 where
  pub circle : IsBlocked mode m
  pub behind : Waits (circle_of mode) m 4
  pub ahead : slice_index m.taken 4 < slice_index m.completed 2

waits_behind : (mode : Mode) (m : State ℕ) (n : ℕ) → Reads mode m → Waits (circle_of mode) m 0 → Waits (circle_of mode) m 1 → Waits (circle_of mode) m 4 → slice_index m.taken 4 ≡ 0 → slice_index m.completed 2 ≡ suc n → IsBlockedBehind mode m
waits_behind mode m n read first second behind none some =
    record { circle = record { reads = read; first = first; second = second }; behind = behind; ahead = omega arith }

only_at : (x up i : ℕ) → i < 1 → get_or (x ∷ []) i up ≡ up → x ≡ up
only_at x up zero lt at = at
only_at x up (suc i) lt at = absurd (omega arith)

either_at : (x y up i : ℕ) → i < 2 → get_or (x ∷ y ∷ []) i up ≡ up → (x ≡ up) ⊎ (y ≡ up)
either_at x y up zero lt at = inl at
either_at x y up (suc i) lt at = inr (only_at y up i (omega arith) at)

circle_up : (mode : Mode) (m : State ℕ) → Reads mode m → (h up : ℕ) → IsOfCircle h → WaitsFor (circle_of mode) m h up → IsOfCircle up
circle_up mode m r h up (inl e) waits =
    let has : Contains (1 ∷ []) up = subst (λ k. Contains (upstreams_of circle.upstreams k) up) e (r.upstream h up waits) in
    inr (sym (only_at 1 up has.0 has.1 has.2))
circle_up mode m r h up (inr e) waits =
    let has : Contains (0 ∷ []) up = subst (λ k. Contains (upstreams_of circle.upstreams k) up) e (r.upstream h up waits) in
    inl (sym (only_at 0 up has.0 has.1 has.2))

path_in_circle : (mode : Mode) (m : State ℕ) → Reads mode m → (path : List ℕ) (from to : ℕ) → IsOfCircle from → IsPathUp (circle_of mode) m from path to → IsOfCircle to
path_in_circle mode m r [] from to here leads = subst IsOfCircle (r.ends from to leads) here
path_in_circle mode m r (up ∷ ups) from to here leads = path_in_circle mode m r ups up to (circle_up mode m r from up here leads.0) leads.1

blocked : (mode : Mode) (m : State ℕ) → IsBlocked mode m → (h : ℕ) → IsOfCircle h → GoesOn (circle_of mode) m h → ⊥
blocked mode m b h (inl e) goes = waiting_stays (circle_of mode) m 0 (b.reads.more 0) b.first (subst (GoesOn (circle_of mode) m) e goes)
blocked mode m b h (inr e) goes = waiting_stays (circle_of mode) m 1 (b.reads.more 1) b.second (subst (GoesOn (circle_of mode) m) e goes)

circle_is_stuck : (mode : Mode) (m : State ℕ) → IsBlocked mode m → (h : ℕ) → IsOfCircle h → AwaitedGoesOn (circle_of mode) m h → ⊥
circle_is_stuck mode m b h here awaits =
    blocked mode m b awaits.awaited (path_in_circle mode m b.reads awaits.path h awaits.awaited here awaits.leads) awaits.goes_on

path_behind : (mode : Mode) (m : State ℕ) → IsBlockedBehind mode m → (path : List ℕ) (to : ℕ) → IsPathUp (circle_of mode) m 4 path to → GoesOn (circle_of mode) m to → ⊥
path_behind mode m b [] to leads goes = waiting_stays (circle_of mode) m 4 (b.circle.reads.more 4) b.behind (subst (GoesOn (circle_of mode) m) (sym (b.circle.reads.ends 4 to leads)) goes)
path_behind mode m b (up ∷ ups) to leads goes =
    let waits : WaitsFor (circle_of mode) m 4 up = leads.0 in
    let has : Contains (1 ∷ 2 ∷ []) up = b.circle.reads.upstream 4 up waits in
    elim (either_at 1 2 up has.0 has.1 has.2) [
      | inl second ↦ blocked mode m b.circle to (path_in_circle mode m b.circle.reads ups up to (inr (sym second)) leads.1) goes
      | inr third ↦
          let low : slice_index m.completed up ≤ slice_index m.taken 4 = b.circle.reads.taken 4 up waits in
          let same : slice_index m.completed 2 ≡ slice_index m.completed up = ap (λ k. slice_index m.completed k) third in
          let more : slice_index m.taken 4 < slice_index m.completed 2 = b.ahead in
          absurd (omega arith)
    ]

behind_is_stuck : (mode : Mode) (m : State ℕ) → IsBlockedBehind mode m → AwaitedGoesOn (circle_of mode) m 4 → ⊥
behind_is_stuck mode m b awaits = path_behind mode m b awaits.path awaits.awaited awaits.leads awaits.goes_on

-- a claim waits for nobody that can go on, where the last two gate it and the fourth left room
claim_is_stuck : (mode : Mode) (m : State ℕ) (n : ℕ) → IsBlockedBehind mode m → gating (circle_of mode) m ≡ 3 ∷ 4 ∷ [] → next m + n ≤ 2 + slice_index m.completed 3 → (last : ℕ) → Contains (gating (circle_of mode) m) last → 2 + slice_index m.completed last < next m + n → AwaitedGoesOn (circle_of mode) m last → ⊥
claim_is_stuck mode m n b gates room last gating_last low goes_on =
    let has : Contains (3 ∷ 4 ∷ []) last = subst (λ hs. Contains hs last) gates gating_last in
    elim (either_at 3 4 last has.0 has.1 has.2) [
      | inl beside ↦
          let same : slice_index m.completed 3 ≡ slice_index m.completed last = ap (λ k. slice_index m.completed k) beside in
          omega arith
      | inr behind ↦ behind_is_stuck mode m b (subst (AwaitedGoesOn (circle_of mode) m) (sym behind) goes_on)
    ]

abbrev after_all : Setup → Transcript ℕ → State ℕ
after_all c t = end_of c (opening c) t

abbrev one : State ℕ
one = after_all circle one_completed

led_to_one : LeadsTo circle one_completed one
unfolding Rattle.dr_meaning.specs.Meaning.Machine.least_outside
led_to_one = (refl, refl, (refl, refl, (refl, refl, (refl, refl, (refl, refl, (refl, refl, (refl, refl, (refl, refl, refl))))))))

blocked_one : Reads Single one → IsBlockedBehind Single one
unfolding Rattle.dr_meaning.specs.Meaning.Machine.least_outside
blocked_one read = waits_behind Single one 0 read (refl, refl) (refl, refl) (refl, refl) refl refl

stuck_of_circle : Reads Single one → CompletesAll circle one 0 → ⊥
unfolding Rattle.dr_meaning.specs.Meaning.Machine.least_outside
stuck_of_circle read holds =
    let inside : 0 < 5 = omega arith in
    elim (holds inside refl) [
      | inl all ↦ (let no : ◌≡◌ {A = ℕ} 0 2 = all in omega arith)
      | inr awaits ↦ circle_is_stuck Single one (blocked_one read).circle 0 (inl refl) awaits
    ]

pub returns-clause-whole : goal.returns-clause-whole
returns-clause-whole c = (one, led_to_one, λ whole. stuck_of_circle (reads Single one) (whole.completes 0))

pub returns-clause-of_the_circle : goal.returns-clause-of_the_circle
returns-clause-of_the_circle c = (
  one,
  led_to_one,
  stuck_of_circle (record { upstream = read_upstream Single one; taken = read_taken Single one; ends = λ from to leads. leads; more = λ h may. may.more }),
)

abbrev first_state : State ℕ
first_state = after_all circle two_published

pub returns-clause-of_the_circle_at_first : goal.returns-clause-of_the_circle_at_first
unfolding Rattle.dr_meaning.specs.Meaning.Machine.least_outside
returns-clause-of_the_circle_at_first c = (
  first_state,
  (refl, refl, (refl, refl, (refl, refl, (refl, refl, refl)))),
  λ holds.
      (let inside : 1 < 5 = omega arith in
      elim (holds inside refl) [
        | inl all ↦ (let no : ◌≡◌ {A = ℕ} 0 2 = all in omega arith)
        | inr awaits ↦ circle_is_stuck Single first_state (record { reads = record { upstream = λ h up waits. waits.upstream; taken = read_taken Single first_state; ends = read_end Single first_state; more = read_more Single first_state }; first = (refl, refl); second = (refl, refl) }) 1 (inr refl) awaits
      ]),
)

pub returns-clause-behind_the_circle : goal.returns-clause-behind_the_circle
unfolding Rattle.dr_meaning.specs.Meaning.Machine.least_outside
returns-clause-behind_the_circle c = (
  one,
  led_to_one,
  λ holds.
      (let inside : 4 < 5 = omega arith in
      elim (holds inside refl) [
        | inl all ↦ (let no : ◌≡◌ {A = ℕ} 0 2 = all in omega arith)
        | inr awaits ↦ behind_is_stuck Single one (blocked_one (record { upstream = read_upstream Single one; taken = λ h up waits. waits.taken; ends = read_end Single one; more = read_more Single one })) awaits
      ]),
)

path_from_left_behind : ((up : ℕ) → WaitsFor line left_behind 2 up → left_behind.retired up ≡ false) → (path : List ℕ) (to : ℕ) → IsPathUp line left_behind 2 path to → GoesOn line left_behind to → ⊥
unfolding Rattle.dr_meaning.specs.Meaning.Machine.least_outside
path_from_left_behind left [] to leads goes = waiting_stays line left_behind 2 (λ may. may.more) (refl, refl) (subst (GoesOn line left_behind) (sym leads) goes)
path_from_left_behind left (up ∷ ups) to leads goes =
    let waits : WaitsFor line left_behind 2 up = leads.0 in
    let has : Contains (1 ∷ []) up = waits.upstream in
    let no : true ≡ false = subst (λ h. left_behind.retired h ≡ false) (sym (only_at 1 up has.0 has.1 has.2)) (left up waits) in
    cc

pub returns-clause-behind_one_retired : goal.returns-clause-behind_one_retired
unfolding Rattle.dr_meaning.specs.Meaning.Machine.least_outside
returns-clause-behind_one_retired c = λ holds.
    (let inside : 2 < 3 = omega arith in
    elim (holds inside refl) [
      | inl all ↦ (let no : ◌≡◌ {A = ℕ} 0 1 = all in omega arith)
      | inr awaits ↦ path_from_left_behind (λ up waits. waits.left) awaits.path awaits.awaited awaits.leads awaits.goes_on
    ])

pub returns-clause-claim : goal.returns-clause-claim
unfolding Rattle.dr_meaning.specs.Meaning.Machine.least_outside
returns-clause-claim c = (
  one,
  led_to_one,
  λ holds.
      (let producer : 0 < 1 = omega arith in
      let some : 0 < 1 = omega arith in
      let limit : 3 ≤ 4 = omega arith in
      let left : 3 ≤ 3 = omega arith in
      elim (holds producer some refl limit limit) [
        | inl granted ↦ (let no : Refused NoRoom ≡ Claimed 2 2 = granted in cc)
        | inr awaits ↦ claim_is_stuck Single one 1 (blocked_one (reads Single one)) refl left awaits.last awaits.gates awaits.behind awaits.goes_on
      ]),
)

pub returns-clause-claim_of_two : goal.returns-clause-claim_of_two
unfolding Rattle.dr_meaning.specs.Meaning.Machine.least_outside
returns-clause-claim_of_two c = (
  after_all circle two_completed,
  (refl, refl, (refl, refl, (refl, refl, (refl, refl, (refl, refl, (refl, refl, (refl, refl, (refl, refl, (refl, refl, (refl, refl, (refl, refl, (refl, refl, refl)))))))))))),
  λ holds.
      (let producer : 0 < 1 = omega arith in
      let some : 0 < 2 = omega arith in
      let limit : 4 ≤ 4 = omega arith in
      elim (holds producer some refl limit limit) [
        | inl granted ↦ (let no : Refused NoRoom ≡ Claimed 2 3 = granted in cc)
        | inr awaits ↦ claim_is_stuck Single (after_all circle two_completed) 2 (waits_behind Single (after_all circle two_completed) 1 (reads Single (after_all circle two_completed)) (refl, refl) (refl, refl) (refl, refl) refl refl) refl limit awaits.last awaits.gates awaits.behind awaits.goes_on
      ]),
)

pub returns-clause-claim_of_the_second_producer : goal.returns-clause-claim_of_the_second_producer
unfolding Rattle.dr_meaning.specs.Meaning.Machine.least_outside
returns-clause-claim_of_the_second_producer c = (
  after_all shared_circle one_completed,
  (refl, refl, (refl, refl, (refl, refl, (refl, refl, (refl, refl, (refl, refl, (refl, refl, (refl, refl, refl)))))))),
  λ holds.
      (let producer : 1 < 2 = omega arith in
      let some : 0 < 1 = omega arith in
      let limit : 3 ≤ 4 = omega arith in
      let left : 3 ≤ 3 = omega arith in
      elim (holds producer some refl limit limit) [
        | inl granted ↦ (let no : Refused NoRoom ≡ Claimed 2 2 = granted in cc)
        | inr awaits ↦ claim_is_stuck (Multi 2) (after_all shared_circle one_completed) 1 (waits_behind (Multi 2) (after_all shared_circle one_completed) 0 (reads (Multi 2) (after_all shared_circle one_completed)) (refl, refl) (refl, refl) (refl, refl) refl refl) refl left awaits.last awaits.gates awaits.behind awaits.goes_on
      ]),
)

abbrev parted : State ℕ
parted = after_all circle one_retired

blocked_parted : IsBlockedBehind Single parted
unfolding Rattle.dr_meaning.specs.Meaning.Machine.least_outside
blocked_parted = waits_behind Single parted 0 (reads Single parted) (refl, refl) (refl, refl) (refl, refl) refl refl

-- the last one alone gates a claim there
stuck_parted : (last : ℕ) → Contains (gating circle parted) last → AwaitedGoesOn circle parted last → ⊥
unfolding Rattle.dr_meaning.specs.Meaning.Machine.least_outside
stuck_parted last gates goes_on =
    let has : Contains (4 ∷ []) last = gates in
    behind_is_stuck Single parted blocked_parted (subst (AwaitedGoesOn circle parted) (sym (only_at 4 last has.0 has.1 has.2)) goes_on)

pub returns-clause-claim_after_a_retirement : goal.returns-clause-claim_after_a_retirement
unfolding Rattle.dr_meaning.specs.Meaning.Machine.least_outside
returns-clause-claim_after_a_retirement c = (
  parted,
  (refl, refl, (refl, refl, (refl, refl, (refl, refl, (refl, refl, (refl, refl, (refl, refl, (refl, refl, (refl, refl, refl))))))))),
  λ holds.
      (let producer : 0 < 1 = omega arith in
      let some : 0 < 2 = omega arith in
      let limit : 4 ≤ 4 = omega arith in
      elim (holds producer some refl limit limit) [
        | inl granted ↦ (let no : Refused NoRoom ≡ Claimed 2 3 = granted in cc)
        | inr awaits ↦ stuck_parted awaits.last awaits.gates awaits.goes_on
      ]),
)

abbrev late : State ℕ
late = after_all circle halted

led_to_late : LeadsTo circle halted late
unfolding Rattle.dr_meaning.specs.Meaning.Machine.least_outside
led_to_late = (refl, refl, (refl, refl, (refl, refl, (refl, refl, (refl, refl, (refl, refl, (refl, refl, (refl, refl, (refl, refl, refl)))))))))

blocked_late : IsBlockedBehind Single late
unfolding Rattle.dr_meaning.specs.Meaning.Machine.least_outside
blocked_late = waits_behind Single late 0 (reads Single late) (refl, refl) (refl, refl) (refl, refl) refl refl

halt_is_stuck : (h max : ℕ) → reply_to circle late (Poll h max) ≡ Gating → (AwaitedGoesOn circle late h → ⊥) → (reply_to circle late (Poll h max) ≡ Drained) ⊎ AwaitedGoesOn circle late h → ⊥
halt_is_stuck h max reply stuck either =
    elim either [
      | inl drained ↦ (let no : Gating ≡ Drained = subst (λ r. r ≡ Drained) reply drained in cc)
      | inr awaits ↦ stuck awaits
    ]

pub returns-clause-after_a_halt : goal.returns-clause-after_a_halt
unfolding Rattle.dr_meaning.specs.Meaning.Machine.least_outside
returns-clause-after_a_halt c = (
  late,
  led_to_late,
  λ holds.
      (let inside : 0 < 5 = omega arith in
      let some : 0 < 1 = omega arith in
      halt_is_stuck 0 1 refl (circle_is_stuck Single late blocked_late.circle 0 (inl refl)) (holds inside refl some refl refl)),
)

pub returns-clause-after_a_halt_with_room : goal.returns-clause-after_a_halt_with_room
unfolding Rattle.dr_meaning.specs.Meaning.Machine.least_outside
returns-clause-after_a_halt_with_room c = (
  late,
  led_to_late,
  λ holds.
      (let inside : 1 < 5 = omega arith in
      let some : 0 < 2 = omega arith in
      halt_is_stuck 1 2 refl (circle_is_stuck Single late blocked_late.circle 1 (inr refl)) (holds inside refl some refl refl)),
)

pub returns-clause-after_a_halt_behind : goal.returns-clause-after_a_halt_behind
unfolding Rattle.dr_meaning.specs.Meaning.Machine.least_outside
returns-clause-after_a_halt_behind c = (
  late,
  led_to_late,
  λ holds.
      (let inside : 4 < 5 = omega arith in
      let some : 0 < 1 = omega arith in
      halt_is_stuck 4 1 refl (behind_is_stuck Single late blocked_late) (holds inside refl some refl refl)),
)

pub returns-clause-claimed_by_nobody : goal.returns-clause-claimed_by_nobody
unfolding Rattle.dr_meaning.specs.Meaning.Machine.least_outside
returns-clause-claimed_by_nobody c = λ holds.
    (let claimed : 0 < 1 = omega arith in
    let no : Refused NoProducer ≡ Written = (holds claimed).writes 5 in
    cc)
