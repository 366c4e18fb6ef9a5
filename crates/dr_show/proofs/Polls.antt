-- What the machine answers a poll, by what is counted.
use Rattle.std.proofs.Common.{◌≡◌, ℕ, ◌-◌, ◌<◌, inl, inr, Bool, true, false, ◌&&◌, arith, refl, sym, ap, ◌∙◌, slice_index}
use Rattle.std.specs.Prelude.{◌==◌, nat_le, nat_lt, if◌then◌else◌}
use Rattle.std.proofs.lemmas.Bool.{cases_lt, cond-false, cond-true, le-ltb, lt-leb, lt-ltb, ne_eqb}
use Rattle.dr_seq.specs.declared.event.Event.{Event}
use Rattle.dr_meaning.specs.declared.command.Command.TheVariants.{Poll}
use Rattle.dr_meaning.specs.declared.command.Reply.TheVariants as reply
use Rattle.dr_meaning.specs.declared.refusal.Refusal.TheVariants as refusal
use Rattle.dr_meaning.specs.Meaning.Machine.{Outcome, Setup, State, accepted, available, batch, cursor, handlers, next, step, unchanged}
use Rattle.dr_drive.specs.Meaning.StateLine.{ready}
use Rattle.dr_show.specs.declared.handlers.PollAnswer.{PollAnswer}
use Rattle.dr_show.specs.declared.handlers.PollAnswer.TheVariants.{Retired, Batch, Drained, Gating, Idle}
use Rattle.dr_show.specs.Meaning.StateText.{answer_of, poll_answer}

-- a handler's poll for some events is refused once the handler is retired
asked : (c : Setup) (m : State Event) (h max : ℕ) → h < handlers c → 0 < max
    → step c m (Poll h max) ≡ (if m.retired h then unchanged (reply.Refused refusal.Retired) m else accepted c m (Poll h max))
asked c m h max known some =
    let unless_retired : Outcome Event → Outcome Event = λ o. if m.retired h then unchanged (reply.Refused refusal.Retired) m else o in
    cond-false (nat_le (handlers c) h) _ _ (lt-leb (handlers c) h known) ∙ ap unless_retired (cond-false (max == 0) _ _ (ne_eqb max 0 (λ e. absurd (omega arith))))

-- the reply and its word, by the tests
by_tests : (c : Setup) (m : State Event) (h max : ℕ) (retired more drained behind : Bool)
    → answer_of (if retired then unchanged (reply.Refused refusal.Retired) m
    else if more then batch c m h max
    else if drained then unchanged reply.Drained m
    else if behind then unchanged reply.Gating m
    else unchanged reply.Idle m).reply
    ≡ (if retired then Retired else if more then Batch else if drained then Drained else if behind then Gating else Idle)
by_tests c m h max true more drained behind = refl
by_tests c m h max false true drained behind = refl
by_tests c m h max false false true behind = refl
by_tests c m h max false false false true = refl
by_tests c m h max false false false false = refl

-- more is offered than was taken where something is ready
some_ready : (taken offered : ℕ) → nat_lt 0 (offered - taken) ≡ nat_lt taken offered
some_ready taken offered = elim (cases_lt taken offered) [
  | inl more ↦ lt-ltb 0 (offered - taken) (omega arith) ∙ sym (lt-ltb taken offered more)
  | inr none ↦ le-ltb 0 (offered - taken) (omega arith) ∙ sym (le-ltb taken offered none)
]

by_ready : (retired : Bool) (taken offered : ℕ) (rest : PollAnswer)
    → (if retired then Retired else if nat_lt 0 (if retired then 0 else offered - taken) then Batch else rest)
    ≡ (if retired then Retired else if nat_lt taken offered then Batch else rest)
by_ready true taken offered rest = refl
by_ready false taken offered rest = ap (λ b. if b then Batch else rest) (some_ready taken offered)

-- where no event is ready
abbrev waits_as : Setup → State Event → ℕ → PollAnswer
waits_as c m h = if m.halted && (slice_index m.taken h == next m) then Drained else if nat_lt (slice_index m.taken h) (cursor c m) then Gating else Idle

-- the word of a poll, by what is counted
abbrev pub counted : Setup → State Event → ℕ → PollAnswer
counted c m h = if m.retired h then Retired else if nat_lt 0 (ready c m h) then Batch else waits_as c m h

pub counted_is : (c : Setup) (m : State Event) (h max : ℕ) → h < handlers c → 0 < max → answer_of (step c m (Poll h max)).reply ≡ counted c m h
counted_is c m h max known some =
    let taken : ℕ = slice_index m.taken h in
    ap (λ (o : Outcome Event). answer_of o.reply) (asked c m h max known some)
    ∙ by_tests c m h max (m.retired h) (nat_lt taken (available c m h)) (m.halted && (taken == next m)) (nat_lt taken (cursor c m))
    ∙ sym (by_ready (m.retired h) taken (available c m h) (waits_as c m h))

pub polled_alike : (c : Setup) (m : State Event) (h max : ℕ) → h < handlers c → 0 < max → answer_of (step c m (Poll h max)).reply ≡ poll_answer c m h
polled_alike c m h max known some = counted_is c m h max known some ∙ sym (counted_is c m h 1 known (omega arith))

-- a handler that is not retired has another word
retired_alone : (retired more drained behind : Bool)
    → (if retired then Retired else if more then Batch else if drained then Drained else if behind then Gating else Idle) ≡ Retired → retired ≡ true
retired_alone true more drained behind is = refl
retired_alone false true drained behind is = absurd (cc)
retired_alone false false true behind is = absurd (cc)
retired_alone false false false true is = absurd (cc)
retired_alone false false false false is = absurd (cc)

pub retired_refused : (c : Setup) (m : State Event) (h max : ℕ) → h < handlers c → 0 < max → poll_answer c m h ≡ Retired
    → (step c m (Poll h max)).reply ≡ reply.Refused refusal.Retired
retired_refused c m h max known some is =
    let taken : ℕ = slice_index m.taken h in
    let word : counted c m h ≡ Retired = sym (counted_is c m h 1 known (omega arith)) ∙ is in
    let gone : m.retired h ≡ true = retired_alone (m.retired h) (nat_lt 0 (ready c m h)) (m.halted && (taken == next m)) (nat_lt taken (cursor c m)) word in
    ap (λ (o : Outcome Event). o.reply) (asked c m h max known some ∙ cond-true (m.retired h) _ _ gone)
