-- What is put of a core, and of slots that tell of its last sequences, is what the machine's state has.
use Rattle.std.proofs.Common.{◌≡◌, ℕ, zero, suc, ◌+◌, ◌-◌, ◌<◌, ◌≤◌, inl, inr, min, Bool, true, not, List, [], ◌++◌, ◌&&◌, ◌||◌, refl, sym, ap, ◌∙◌, arith, length, flat_map, codes, decimal, slice_index}
use Rattle.std.specs.Prelude.{◌==◌, if◌then◌else◌}
use Rattle.std.proofs.lemmas.Bool.{cases_eq, eq-eqb}
use Rattle.std.specs.List.{range_with_len}
use Rattle.dr_seq.specs.declared.event.Event.{Event}
use Rattle.dr_meaning.specs.Meaning.Machine.{Setup, State, cursor, gate, handlers, next}
use Rattle.dr_core.specs.Calls.CoreView.{CoreView, retired_in}
use Rattle.dr_core.specs.Calls.Shows.{Shows}
use Rattle.dr_core.proofs.Shown.{same_completed, same_front, same_halted, same_next, same_taken}
use Rattle.dr_drive.specs.Meaning.StateLine.{ready}
use Rattle.dr_drive.proofs.Telling.{gate_same, ready_same, room_same}
use Rattle.dr_show.specs.declared.handlers.HandlerState.{HandlerState}
use Rattle.dr_show.specs.declared.handlers.PollAnswer.{PollAnswer}
use Rattle.dr_show.specs.declared.sequences.Sequence.{Sequence}
use Rattle.dr_show.proofs.Polls.{counted_is}
use Rattle.dr_show.specs.Meaning.Texts.{comma_before}
use Rattle.dr_show.specs.Meaning.StateText.{are_alike, begins, gates, handler_object, handler_of, most_drawn, round, round_from, round_text, sequence_of, stage_word, state_text, stretch_text, written_text}
use Rattle.dr_show.specs.Inside.Seen.{cursor_in, handler_in, handler_seen, state_seen}
use Rattle.dr_show.specs.Inside.Sequences.{Remembers, said_of}

-- two texts that agree on some numbers
flat_map_below : (f g : ℕ → List ℕ) (a n : ℕ) → ((k : ℕ) → a ≤ k → k < a + n → f k ≡ g k) → flat_map f (range_with_len a n) ≡ flat_map g (range_with_len a n)
flat_map_below f g a zero same = refl
flat_map_below f g a (suc n) same = rw (same a (omega arith) (omega arith), flat_map_below f g (a + 1) n (λ k low high. same k (omega arith) (omega arith))) refl

begins_same : (f g : ℕ → Sequence) (from s : ℕ) → from ≤ s → (from < s → f (s - 1) ≡ g (s - 1)) → f s ≡ g s → begins f from s ≡ begins g from s
begins_same f g from s within before here = elim (cases_eq s from) [
  | inl e ↦ (let first : (s == from) ≡ true = eq-eqb s from e in
      ap (λ b. b || not (are_alike (f (s - 1)) (f s))) first ∙ sym (ap (λ b. b || not (are_alike (g (s - 1)) (g s))) first))
  | inr ne ↦ (let back : f (s - 1) ≡ g (s - 1) = before (omega arith) in
      ap (λ it. (s == from) || not (are_alike it (f s))) back ∙ ap (λ it. (s == from) || not (are_alike (g (s - 1)) it)) here)
]

abbrev stretch_at : Bool → ℕ → ℕ → Sequence → List ℕ
stretch_at b from s it = if b then comma_before (s - from) ++ codes "[" ++ decimal s ++ codes "," ++ decimal it.producer ++ codes ",\"" ++ stage_word it ++ codes "\"]" else []

stretch_same : (f g : ℕ → Sequence) (from s : ℕ) → from ≤ s → (from < s → f (s - 1) ≡ g (s - 1)) → f s ≡ g s → stretch_text f from s ≡ stretch_text g from s
stretch_same f g from s within before here =
    ap (λ b. stretch_at b from s (f s)) (begins_same f g from s within before here) ∙ ap (λ it. stretch_at (begins g from s) from s it) here

-- the round of those that agree on its sequences
round_same : (f g : ℕ → Sequence) (size claimed : ℕ) → ((s : ℕ) → s < claimed → claimed ≤ s + size → f s ≡ g s)
    → round_text f size claimed ≡ round_text g size claimed
round_same f g size claimed same =
    let from : ℕ = round_from size claimed in
    let drawn : ℕ = round_from (min size most_drawn) claimed in
    let stretches : flat_map (stretch_text f from) (round size claimed) ≡ flat_map (stretch_text g from) (round size claimed) =
    flat_map_below (stretch_text f from) (stretch_text g from) from (claimed - from) (λ s low high. stretch_same f g from s low (λ after. same (s - 1) (omega arith) (omega arith)) (same s (omega arith) (omega arith))) in
    let events : flat_map (λ s. written_text s (f s).event) (round (min size most_drawn) claimed) ≡ flat_map (λ s. written_text s (g s).event) (round (min size most_drawn) claimed) =
    flat_map_below (λ s. written_text s (f s).event) (λ s. written_text s (g s).event) drawn (claimed - drawn) (λ s low high. ap (λ (it : Sequence). written_text s it.event) (same s (omega arith) (omega arith))) in
    ap (λ t. codes ",\"round\":[" ++ t ++ codes "],\"events\":\"" ++ flat_map (λ s. written_text s (f s).event) (round (min size most_drawn) claimed) ++ codes "\"") stretches
    ∙ ap (λ t. codes ",\"round\":[" ++ flat_map (stretch_text g from) (round size claimed) ++ codes "],\"events\":\"" ++ t ++ codes "\"") events

-- a handler now, whose poll is answered so
abbrev handler_with : Setup → State Event → ℕ → PollAnswer → HandlerState
handler_with c m h poll = record {
  taken = slice_index m.taken h;
  completed = slice_index m.completed h;
  ready = ready c m h;
  poll = poll;
  is_retired = m.retired h;
  gates = gates c m h;
  holds = gates c m h && (slice_index m.completed h == gate c m);
}

module _ (v : CoreView Event) (m : State Event) (shows : Shows v m) where
  retired_same : m.retired ≡ retired_in v
  retired_same = ap (λ f. f.retired) shows.flags

  cursor_same : cursor v.setup m ≡ cursor_in v
  cursor_same = rw (same_front shows, same_next shows) refl

  handler_same : (h : ℕ) → h < handlers v.setup → handler_of v.setup m h ≡ handler_in v h
  handler_same h known =
      ap (handler_with v.setup m h) (counted_is v.setup m h 1 known (omega arith))
      ∙ rw (ready_same v m shows h, gate_same v m shows, cursor_same, retired_same, same_taken shows, same_completed shows, same_halted shows, same_next shows) refl

  pub state_same : (slots : List Sequence) → length slots ≡ v.setup.size → Remembers slots m → state_text v.setup m ≡ state_seen v slots
  state_same slots size remembers =
      let all : flat_map (λ h. handler_object h (handler_of v.setup m h)) (range_with_len 0 (handlers v.setup)) ≡ flat_map (handler_seen v) (range_with_len 0 (handlers v.setup)) =
      flat_map_below (λ h. handler_object h (handler_of v.setup m h)) (handler_seen v) 0 (handlers v.setup) (λ h low high. ap (handler_object h) (handler_same h (omega arith))) in
      let last : round_text (sequence_of m) v.setup.size (next m) ≡ round_text (said_of slots) v.setup.size v.next =
      sym (round_same (said_of slots) (sequence_of m) v.setup.size (next m) (λ s within recent. remembers.at s within (omega (arith, size))))
      ∙ ap (λ n. round_text (said_of slots) v.setup.size n) (same_next shows) in
      rw (all, last, room_same v m shows, same_front shows, same_halted shows, same_next shows) refl
