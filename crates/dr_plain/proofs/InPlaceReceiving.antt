-- What a poll of a receiver takes and sees, of a ring with one sender.
use Rattle.std.proofs.Common.{◌≡◌, ◌<◌, ◌≤◌, ◌+◌, ◌-◌, ◌^◌, ℕ, zero, suc, min, List, [], ◌∷◌, ◌++◌, length, Ok, inl, inr, refl, sym, ap, subst, ◌∙◌, arith, append_assoc}
use Rattle.std.specs.Prelude.{max}
use Rattle.std.proofs.lemmas.List.{append-nil, length-append, length-map, map-append}
use mathlib.Core.Option.{some, some-ne-none}
use lib.ListN.{get_elem?}
use Rattle.dr_graph.specs.Meaning.Graph.{least_of, upstreams_of}
use Rattle.dr_meaning.proofs.Leasts.{least_of-le}
use Rattle.dr_meaning.specs.declared.command.Polled.{Polled}
use Rattle.dr_meaning.specs.declared.command.Polled.TheVariants.{Batch, Drained, Gating, Idle}
use Rattle.dr_lent.specs.declared.lent.Lent.{Lent}
use Rattle.dr_runs.specs.declared.look.Look.{Look}
use Rattle.dr_runs.specs.Looks.{look, offered_by}
use Rattle.dr_runs.specs.OneSender.Looks.{count_looks}
use Rattle.dr_runs.specs.LastLooks.{found_last}
use Rattle.dr_runs.specs.OneSender.Polls.{PollLooks, offer}
use Rattle.dr_runs.specs.OneSender.Words.{closed_word, count_word, cursor_word}
use Rattle.dr_runs.proofs.LastLooks.{found_behind, found_counts}
use Rattle.dr_runs.proofs.Lists.{at_behind}
use Rattle.dr_plain.specs.declared.record.ReceiverRecord.{ReceiverRecord}
use Rattle.dr_lent.specs.Events.{events_of}
use Rattle.dr_plain.specs.Calls.Ends.{ReceiverEnd, received_of}
use Rattle.dr_plain.specs.Calls.Receiving.{PollCall}
use Rattle.dr_meaning.specs.Calls.InPlaceOutlets.{SawMore, TakesNext, TakesUpTo}
use Rattle.dr_plain.specs.Calls.InPlace.{SawPublished, offered_in, offered_of}

at_front : {A : Type 0} (xs ys : List A) (i : ℕ) (x : A) → get_elem? xs i ≡ some x → get_elem? (xs ++ ys) i ≡ some x
at_front [] ys i x at = absurd (some-ne-none x (sym at))
at_front (y ∷ xs) ys zero x at = at
at_front (y ∷ xs) ys (suc i) x at = at_front xs ys i x at

-- its last looks found what its barrier offered
offered_is : (old : List Look) (closed cursor : ℕ) (ups counts : List ℕ) → length counts ≡ length ups
    → offered_in (length ups) (old ++ look closed_word closed ∷ look cursor_word cursor ∷ count_looks ups counts) ≡ offered_by cursor counts
offered_is old closed cursor [] [] many =
    ap least_of (ap (found_last 1) (sym (append_assoc old (look closed_word closed ∷ []) (look cursor_word cursor ∷ [])))
    ∙ found_behind (old ++ look closed_word closed ∷ []) (look cursor_word cursor ∷ []) 1 refl)
offered_is old closed cursor [] (c ∷ counts) many = absurd (omega arith)
offered_is old closed cursor (u ∷ ups) [] many = absurd (omega arith)
offered_is old closed cursor (u ∷ ups) (c ∷ counts) many =
    let looks : List Look = count_looks (u ∷ ups) (c ∷ counts) in
    let all : max 1 (length (u ∷ ups)) ≡ length (u ∷ ups) = omega arith in
    ap least_of (ap (λ (n : ℕ). found_last n (old ++ look closed_word closed ∷ look cursor_word cursor ∷ looks)) all
    ∙ ap (found_last (length (u ∷ ups))) (sym (append_assoc old (look closed_word closed ∷ look cursor_word cursor ∷ []) looks))
    ∙ found_counts count_word (old ++ look closed_word closed ∷ look cursor_word cursor ∷ []) (u ∷ ups) (c ∷ counts) many)

module _ {T : Type 0} where
  -- what it looked at further
  saw_more : (r r' : ReceiverRecord T) (more : List Look) → r'.looks ≡ r.looks ++ more → SawMore (SawPublished r) (SawPublished r')
  saw_more r r' more grew = λ n s.
      record {
        place = s.place;
        saw = s.saw;
        there = ap (λ (l : List Look). get_elem? l s.place) grew ∙ at_front r.looks more s.place s.saw s.there;
        word = s.word;
        enough = s.enough;
      }

  -- what its barrier offered was published
  saw_offer : (r : ReceiverRecord T) (n closed cursor : ℕ) (old : List Look) (ups counts : List ℕ) → length counts ≡ length ups
      → r.looks ≡ old ++ look closed_word closed ∷ look cursor_word cursor ∷ count_looks ups counts → n ≤ offered_by cursor counts → SawPublished r n
  saw_offer r n closed cursor old ups [] many is enough = record {
    place = length old + 1;
    saw = look cursor_word cursor;
    there = ap (λ (l : List Look). get_elem? l (length old + 1)) is
        ∙ at_behind old (look closed_word closed ∷ look cursor_word cursor ∷ count_looks ups []) 1 (look cursor_word cursor) refl;
    word = inl refl;
    enough = enough;
  }
  saw_offer r n closed cursor old [] (c ∷ counts) many is enough = absurd (omega arith)
  saw_offer r n closed cursor old (u ∷ ups) (c ∷ counts) many is enough =
      let least = least_of-le (c ∷ counts) 0 (omega arith) in
      record {
        place = length old + 2;
        saw = look (count_word u) c;
        there = ap (λ (l : List Look). get_elem? l (length old + 2)) is
            ∙ at_behind old (look closed_word closed ∷ look cursor_word cursor ∷ count_looks (u ∷ ups) (c ∷ counts)) 2 (look (count_word u) c) refl;
        word = inr (u, refl);
        enough = omega arith;
      }

  pub looked : (room : ℕ) (e e' : ReceiverEnd T) (polled : Polled) → PollCall e room e' (Ok polled) → SawMore (SawPublished e.knows) (SawPublished e'.knows)
  looked room e e' (Batch first count end) call = saw_more e.knows e'.knows _ (ap (λ (r : ReceiverRecord T). r.looks) call.1.1.2.5.2)
  looked room e e' Drained call = saw_more e.knows e'.knows _ (ap (λ (r : ReceiverRecord T). r.looks) call.1.1.2.3)
  looked room e e' Gating call = saw_more e.knows e'.knows _ (ap (λ (r : ReceiverRecord T). r.looks) call.1.1.2.3)
  looked room e e' Idle call = saw_more e.knows e'.knows _ (ap (λ (r : ReceiverRecord T). r.looks) call.1.1.2.3)

  pub saw_same : (r r' : ReceiverRecord T) → r'.looks ≡ r.looks → SawMore (SawPublished r) (SawPublished r')
  saw_same r r' same = saw_more r r' [] (same ∙ sym (append-nil r.looks))

  pub takes : (room : ℕ) (e e' : ReceiverEnd T) (polled : Polled) → PollCall e room e' (Ok polled) → length e'.knows.received < 2 ^ 64 → 0 < room
      → TakesUpTo room (offered_of e') (SawPublished e'.knows) polled (received_of e.knows) (received_of e'.knows)
  takes room e e' (Batch first count end) call fits there =
      let sees = call.1.1 in
      let seen : PollLooks = sees.0 in
      let A = sees.2 in
      let lents = A.5.0 in
      let offered : first < offer seen = A.1 in
      let many : count ≡ min (offer seen - first) room = A.2 in
      let next : first ≡ length e.knows.received = A.0 in
      let taken : length lents ≡ count = A.5.1 in
      let all : length e'.knows.received ≡ length e.knows.received + length lents = ap (λ (r : ReceiverRecord T). length r.received) A.5.2
      ∙ length-append e.knows.received lents in
      let events : events_of e'.knows.received ≡ events_of e.knows.received ++ events_of lents =
      ap (λ (r : ReceiverRecord T). events_of r.received) A.5.2 ∙ map-append (λ (l : Lent T). l.event) e.knows.received lents in
      let completed = ap (λ (r : ReceiverRecord T). r.completed) A.5.2 in
      let looks = ap (λ (r : ReceiverRecord T). r.looks) A.5.2 in
      let ups = upstreams_of e.knows.plan.upstreams e.knows.number in
      let off : offered_of e' ≡ offer seen =
      ap (λ (r : ReceiverRecord T). offered_in (length (upstreams_of r.plan.upstreams r.number)) r.looks) A.5.2
      ∙ offered_is e.knows.looks seen.closed seen.cursor ups seen.counts sees.1 in
      subst (λ (o : ℕ). TakesNext room o (SawPublished e'.knows) first count end (received_of e.knows) (received_of e'.knows)) (sym off) (record {
        events = events_of lents;
        many = length-map lents (λ (l : Lent T). l.event) ∙ taken;
        begins = next ∙ sym (length-map e.knows.received (λ (l : Lent T). l.event));
        some = omega arith;
        whole = many;
        marked = A.3;
        saw = (let least : offer seen ≤ offered_by seen.cursor seen.counts = omega arith in
            saw_offer e'.knows (offer seen) seen.closed seen.cursor e.knows.looks ups seen.counts sees.1 looks least);
        fits = omega arith;
        taken = λ i. record { events = events i; completed = completed i };
      })
  takes room e e' Drained call fits there = ap received_of call.1.1.2.3
  takes room e e' Gating call fits there = ap received_of call.1.1.2.3
  takes room e e' Idle call fits there = ap received_of call.1.1.2.3
