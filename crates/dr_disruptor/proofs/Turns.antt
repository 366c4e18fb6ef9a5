-- A round of turns, one handler after another.
use Rattle.std.proofs.Common.{◌≡◌, ◌<◌, ◌≤◌, ◌^◌, ℕ, List, length, set, Ok, inl, inr, refl, sym, ap, subst, ◌+◌, ◌∙◌, arith}
use Rattle.std.proofs.lemmas.Bool.{cases_eq}
use Rattle.std.proofs.lemmas.List.{length-set}
use mathlib.Core.Option.{some}
use lib.ListN.{get_elem?}
use Rattle.atomic_table.proofs.Lists.{at_set}
use Rattle.dr_meaning.specs.Calls.Handling.{Relation}
use Rattle.dr_meaning.specs.declared.command.Polled.{Polled}
use Rattle.dr_meaning.specs.declared.command.Polled.TheVariants.{Batch, Drained, Gating, Idle}
use Rattle.dr_runs.proofs.Elements.{at_below}
use Rattle.dr_plain.specs.declared.record.ReceiverRecord.{ReceiverRecord}
use Rattle.dr_plain.specs.Calls.Ends.{ReceiverEnd, receiver_place}
use Rattle.dr_plain.specs.Calls.InPlace.{SawSome, does_in_place, offered_of}
use Rattle.dr_plain.specs.Calls.Turning.{TurnCall}
use Rattle.dr_plain.proofs.InPlaceReceiving.{looked, saw_same, takes}
use Rattle.dr_disruptor.specs.Here.{HadTurns}
use Rattle.dr_disruptor.specs.Serving.{IsIdle, Shows}
use Rattle.dr_disruptor.proofs.Rounds.{at_same}
use Rattle.dr_disruptor.proofs.Showing.{shows_batch, shows_nothing}
use Rattle.dr_disruptor.proofs.Ready.{received_by}

module _ {E A : Type 0} (goes : Relation E A) (room : ℕ) where
  -- a turn shows a handler what its end took, and completes it
  pub turn_shows : (e e' : ReceiverEnd E) (answer : Polled) (before after : A) → TurnCall goes e room e' (Ok answer) before after → IsIdle (received_by e) → 0 < room
      → length e'.knows.received < 2 ^ 64 → Shows receiver_place received_by SawSome does_in_place goes room before after e e'
  turn_shows e e' (Batch first count end) before after turn idle has fits =
      let (mid, poll, complete, through) = turn in
      let same : length e'.knows.received ≡ length mid.knows.received = ap (λ (r : ReceiverRecord E). length r.received) complete.1.2 in
      shows_batch receiver_place received_by SawSome does_in_place goes room before after e mid e' first count (offered_of mid) end poll.0 complete.0
      (looked room e mid (Batch first count end) poll) (saw_same mid.knows e'.knows (ap (λ (r : ReceiverRecord E). r.looks) complete.1.2))
      (takes room e mid (Batch first count end) poll (omega arith) has) poll complete through complete.1.1
  turn_shows e e' Drained before after turn idle has fits =
      subst (λ (a : A). Shows receiver_place received_by SawSome does_in_place goes room before a e e') (sym turn.1)
      (shows_nothing receiver_place received_by SawSome does_in_place goes room before e e' Drained turn.0.0 (takes room e e' Drained turn.0 fits has) (looked room e e' Drained turn.0) turn.0 refl idle)
  turn_shows e e' Gating before after turn idle has fits =
      subst (λ (a : A). Shows receiver_place received_by SawSome does_in_place goes room before a e e') (sym turn.1)
      (shows_nothing receiver_place received_by SawSome does_in_place goes room before e e' Gating turn.0.0 (takes room e e' Gating turn.0 fits has) (looked room e e' Gating turn.0) turn.0 refl idle)
  turn_shows e e' Idle before after turn idle has fits =
      subst (λ (a : A). Shows receiver_place received_by SawSome does_in_place goes room before a e e') (sym turn.1)
      (shows_nothing receiver_place received_by SawSome does_in_place goes room before e e' Idle turn.0.0 (takes room e e' Idle turn.0 fits has) (looked room e e' Idle turn.0) turn.0 refl idle)

  -- the handler at a place had its turn, or is yet to have it
  abbrev Went : List (ReceiverEnd E) → List A → ℕ → ReceiverEnd E → A → Type 0
  Went ends starts h receiver handler =
      (end : ReceiverEnd E) × (start : A) × (get_elem? ends h ≡ some end) × (get_elem? starts h ≡ some start)
      × (answer : Polled) × TurnCall goes end room receiver (Ok answer) start handler

  abbrev Waits : List (ReceiverEnd E) → List A → ℕ → ReceiverEnd E → A → Type 0
  Waits ends starts h receiver handler = (get_elem? ends h ≡ some receiver) × (get_elem? starts h ≡ some handler)

  -- those below a place had their turns
  pub record TurnsBelow (k : ℕ) (ends : List (ReceiverEnd E)) (starts : List A) (receivers : List (ReceiverEnd E)) (handlers : List A) : Type 0 where
    pub many : length receivers ≡ length ends
    pub alike : length handlers ≡ length receivers
    pub begun : length starts ≡ length ends
    pub each : (h : ℕ) (receiver : ReceiverEnd E) (handler : A) → get_elem? receivers h ≡ some receiver → get_elem? handlers h ≡ some handler
        → (h < k → Went ends starts h receiver handler) × (k ≤ h → Waits ends starts h receiver handler)

  pub turns_none : (ends : List (ReceiverEnd E)) (starts : List A) → length ends ≡ length starts → TurnsBelow 0 ends starts ends starts
  turns_none ends starts many = record {
    many = refl;
    alike = sym many;
    begun = sym many;
    each = λ h receiver handler at_receiver at_handler. ((λ below. absurd (omega arith)), (λ above. (at_receiver, at_handler)));
  }

  -- the next one has its turn
  pub turns_more : (k : ℕ) (ends : List (ReceiverEnd E)) (starts : List A) (receivers : List (ReceiverEnd E)) (handlers : List A)
      → (receiver after : ReceiverEnd E) (handler gone : A) (answer : Polled) → TurnsBelow k ends starts receivers handlers
      → get_elem? receivers k ≡ some receiver → get_elem? handlers k ≡ some handler → TurnCall goes receiver room after (Ok answer) handler gone
      → TurnsBelow (k + 1) ends starts (set receivers k after) (set handlers k gone)
  turns_more k ends starts receivers handlers receiver after handler gone answer turns at_receiver at_handler turn = record {
    many = length-set receivers k after ∙ turns.many;
    alike = length-set handlers k gone ∙ turns.alike ∙ sym (length-set receivers k after);
    begun = turns.begun;
    each = λ h r a at_r at_a.
        elim (at_set receivers k h after r at_r) [
          | inl here ↦
              let place : h ≡ k = here.0 in
              let gone_is : gone ≡ a = at_same handlers k gone a (ap (λ (i : ℕ). get_elem? (set handlers k gone) i) (sym place) ∙ at_a) in
              let was = (turns.each k receiver handler at_receiver at_handler).1 (omega arith) in (
                (λ below. (
                  receiver,
                  handler,
                  ap (λ (i : ℕ). get_elem? ends i) place ∙ was.0,
                  ap (λ (i : ℕ). get_elem? starts i) place ∙ was.1,
                  answer,
                  subst (λ (x : A). TurnCall goes receiver room r (Ok answer) handler x) gone_is
                      (subst (λ (x : ReceiverEnd E). TurnCall goes receiver room x (Ok answer) handler gone) here.1 turn),
                )),
                (λ above. absurd (omega arith)),
              )
          | inr other ↦
              elim (at_set handlers k h gone a at_a) [
                | inl here ↦ absurd (other.0 here.0)
                | inr apart ↦
                    let before = turns.each h r a other.1 apart.1 in (
                      (λ below. before.0 (elim (cases_eq h k) [ inl same ↦ absurd (other.0 same) | inr differs ↦ omega arith ])),
                      (λ above. before.1 (omega arith)),
                    )
              ]
        ];
  }

  -- all of them had
  pub turns_all : (k : ℕ) (ends : List (ReceiverEnd E)) (starts : List A) (receivers : List (ReceiverEnd E)) (handlers : List A)
      → TurnsBelow k ends starts receivers handlers → length receivers ≤ k → HadTurns goes room ends starts receivers handlers
  turns_all k ends starts receivers handlers turns all = record {
    many = turns.many;
    alike = turns.alike;
    begun = turns.begun;
    each = λ h receiver handler at_receiver at_handler.
        let inside = at_below receivers h receiver at_receiver in
        (turns.each h receiver handler at_receiver at_handler).0 (omega arith);
  }
