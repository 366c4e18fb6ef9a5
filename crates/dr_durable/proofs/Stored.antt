-- A handler that journals has stored what it was shown of batches, each of which ends with a mark.
use Rattle.std.proofs.Common.{◌≡◌, ℕ, ◌+◌, ◌≤◌, All, Bool, true, List, [], ◌∷◌, ◌++◌, length, Option, None, Some, map}
use Rattle.std.proofs.Common.{refl, sym, ◌∙◌, ap, subst, arith, append-nil}
use Rattle.std.proofs.lemmas.List.{map-append}
use Rattle.dr_meaning.specs.Calls.Handling.{GoesThrough, Relation, Showing}
use Rattle.dr_workers.specs.Meaning.Work.{Dealt, dealt_events, shown_of}
use Rattle.dr_disruptor.specs.Handlers.{WentThrough}
use Rattle.dr_journal.specs.Calls.Handling.{HasFirst, Writer, Journals, journaled}
use Rattle.dr_journal.specs.Calls.Journals.{CrashLeaves, IsAtRest, records_of}
use Rattle.dr_journal.specs.Calls.Records.{AreValues}
use Rattle.dr_journal.proofs.Shown.{keeps_all, none_waits, only_adds, well_before}
use Rattle.dr_durable.specs.Storing.{HadStored, IsFresh, Stores}
use Rattle.dr_disruptor.proofs.Marked.{all_marked}
use Rattle.dr_disruptor.specs.Serving.{IsMarked, IsPolled}
use Rattle.dr_durable.proofs.Batches.{LastMarked, ends_marked, event_of, events_of_all, last_marked, marked_front, marked_last, parted, shown_append}

-- a handler of events of any type, whose every call journals the event's record
module _ {D E A : Type 0} (seen : D → List ℕ) (may_leave : D → List ℕ → Type 0) (moment : D → ℕ)
    (left_since : D → ℕ → List ℕ → Type 0) (faults : D → ℕ) (writer_of : A → Writer D) (record_of : E → List ℕ) (goes : Relation E A)
    (tells : (old new : A) (event : E) (s : ℕ) (end : Bool) → goes old event s end new
    → Journals seen may_leave moment left_since faults (writer_of old) (record_of event) end (writer_of new)) where
  abbrev as_record : Showing E → Showing (List ℕ)
  as_record x = record { event = record_of x.event; sequence = x.sequence; end = x.end }

  abbrev as_records : List (Showing E) → List (Showing (List ℕ))
  as_records shown = map as_record shown

  abbrev records : List (Dealt E) → List (List ℕ)
  records batches = map record_of (dealt_events batches)

  abbrev steps : Writer D → List ℕ → ℕ → Bool → Writer D → Type 0
  steps = journaled seen may_leave moment left_since faults

  abbrev IsWell : A → Type 0
  IsWell a = (writer_of a).fault ≡ None

  as_writers : (shown : List (Showing E)) (old new : A) → GoesThrough goes old shown new
      → GoesThrough steps (writer_of old) (as_records shown) (writer_of new)
  as_writers [] old new is = ap writer_of is
  as_writers (x ∷ shown) old new is = (writer_of is.0, tells old is.0 x.event x.sequence x.end is.1, as_writers shown is.0 new is.2)

  records_shown : (shown : List (Showing E)) → map event_of (as_records shown) ≡ map record_of (map event_of shown)
  records_shown [] = refl
  records_shown (x ∷ shown) = ap (λ (l : List (List ℕ)). record_of x.event ∷ l) (records_shown shown)

  records_of_all : (batches : List (Dealt E)) → map event_of (as_records (shown_of batches)) ≡ records batches
  records_of_all batches = records_shown (shown_of batches) ∙ ap (λ (l : List E). map record_of l) (events_of_all batches)

  -- all of it is on the disk, and nothing waits
  pub stored : (batches : List (Dealt E)) (start after : A) → LastMarked batches → IsFresh seen may_leave (writer_of start)
      → GoesThrough goes start (shown_of batches) after → IsWell after
      → Stores seen may_leave (writer_of start).journal (writer_of after).journal (records batches) × ((writer_of after).waiting ≡ [])
  stored [] start after marked fresh is none =
      let same : writer_of start ≡ writer_of after = ap writer_of is in (
        record {
          at_rest = subst (λ (w : Writer D). IsAtRest seen may_leave w.journal) same fresh.at_rest;
          stored = ap (λ (w : Writer D). records_of seen w.journal) (sym same) ∙ sym (append-nil (records_of seen (writer_of start).journal));
        },
        ap (λ (w : Writer D). w.waiting) (sym same) ∙ fresh.idle,
      )
  stored (b ∷ batches) start after marked fresh is none =
      let all = shown_of (b ∷ batches) in
      let past = records_of seen (writer_of start).journal in
      let ends = ends_marked b batches marked in
      let front = as_records ends.0 in
      let last = as_record ends.1 in
      let shown : as_records all ≡ front ++ last ∷ [] =
      ap as_records ends.2 ∙ map-append as_record ends.0 (ends.1 ∷ []) in
      let through : GoesThrough steps (writer_of start) (front ++ last ∷ []) (writer_of after) =
      subst (λ (l : List (Showing (List ℕ))). GoesThrough steps (writer_of start) l (writer_of after)) shown (as_writers all start after is) in
      let kept = keeps_all seen may_leave moment left_since faults front last (writer_of start) (writer_of after) ends.3 through none in
      let came : map event_of front ++ last.event ∷ [] ≡ records (b ∷ batches) =
      sym (map-append event_of front (last ∷ []))
      ∙ ap (λ (l : List (Showing (List ℕ))). map event_of l) (sym shown)
      ∙ records_of_all (b ∷ batches) in (
        record {
          at_rest = kept.0;
          stored = kept.1
              ∙ ap (λ (l : List (List ℕ)). past ++ (l ++ (map event_of front ++ last.event ∷ []))) fresh.idle
              ∙ ap (λ (l : List (List ℕ)). past ++ l) came;
        },
        none_waits seen may_leave moment left_since faults front last (writer_of start) (writer_of after) ends.3 through none,
      )

  -- so it is of the first batches, and each crash that comes later leaves them
  pub had_stored : ((file : D) (c : List ℕ) → left_since file (moment file) c → may_leave file c)
      → (front rest : List (Dealt E)) (start after : A) → All IsMarked (front ++ rest) → IsFresh seen may_leave (writer_of start)
      → GoesThrough goes start (shown_of (front ++ rest)) after
      → HadStored seen may_leave moment left_since writer_of record_of goes start after front rest
  had_stored only_now front rest start after marked fresh is =
      let all = subst (λ (l : List (Showing E)). GoesThrough goes start l after) (shown_append front rest) is in
      let parts = parted goes start (shown_of front) (shown_of rest) after all in
      let mid = parts.0 in
      let so_far = stored front start mid (marked_last front (marked_front front rest marked)) fresh parts.1 in
      let behind = as_records (shown_of rest) in record {
        between = mid;
        through = parts.1;
        later = parts.2;
        stores = λ none. (so_far none).0;
        any_moment = λ none.
            let had = so_far none in
            let came : (writer_of mid).waiting ++ map event_of behind ≡ records rest =
            ap (λ (l : List (List ℕ)). l ++ map event_of behind) had.1 ∙ records_of_all rest in
            let left = only_adds seen may_leave moment left_since faults only_now behind (writer_of mid) (writer_of after) none
            had.0.at_rest (as_writers (shown_of rest) mid after parts.2) in
            subst (λ (past : List (List ℕ)). CrashLeaves moment left_since (writer_of mid).journal (writer_of after).journal (HasFirst past (records rest)))
            had.0.stored
            (subst (λ (l : List (List ℕ)). CrashLeaves moment left_since (writer_of mid).journal (writer_of after).journal
            (HasFirst (records_of seen (writer_of mid).journal) l)) came left);
      }

  -- so it is of the first batches of a run
  pub run_had_stored : ((file : D) (c : List ℕ) → left_since file (moment file) c → may_leave file c)
      → (most : ℕ) (start after : A) (events : List E) (went : WentThrough goes most start after events) → length events ≤ most
      → IsFresh seen may_leave (writer_of start) → (front rest : List (Dealt E)) → went.batches ≡ front ++ rest
      → HadStored seen may_leave moment left_since writer_of record_of goes start after front rest
  run_had_stored only_now most start after events went few fresh front rest are =
      let marked = subst (All IsMarked) are (all_marked most (length events) 0 went.batches few went.order went.polled) in
      had_stored only_now front rest start after marked fresh
      (subst (λ (l : List (Dealt E)). GoesThrough goes start (shown_of l) after) are went.through)

  module _ {V : Type 0} (value : E → V) (value_in : List ℕ → Option V)
      (back : (old new : A) (event : E) (s : ℕ) (end : Bool) → goes old event s end new → IsWell new
      → value_in (record_of event) ≡ Some (value event)) where
    pub come_back : (shown : List (Showing E)) (old new : A) → GoesThrough goes old shown new → IsWell new
        → AreValues value_in (map record_of (map event_of shown)) (map value (map event_of shown))
    come_back [] old new is none = refl
    come_back (x ∷ shown) old new is none =
        let well : IsWell is.0 =
        well_before seen may_leave moment left_since faults (as_records shown) (writer_of is.0) (writer_of new) (as_writers shown is.0 new is.2) none in
        ap (λ (o : Option V). o ∷ map value_in (map record_of (map event_of shown))) (back old is.0 x.event x.sequence x.end is.1 well)
        ∙ ap (λ (l : List (Option V)). Some (value x.event) ∷ l) (come_back shown is.0 new is.2 none)

    -- after a run all of its events are on the disk, and each reads back as it was
    pub run_stored : (most : ℕ) (start after : A) (events : List E) → WentThrough goes most start after events
        → IsFresh seen may_leave (writer_of start) → IsWell after
        → Stores seen may_leave (writer_of start).journal (writer_of after).journal (map record_of events)
        × AreValues value_in (map record_of events) (map value events)
    run_stored most start after events went fresh none =
        let many : length (dealt_events went.batches) ≡ length events = ap length went.dealt in
        let all : length events ≡ 0 + length (dealt_events went.batches) = omega arith in
        let marked = last_marked most 0 went.batches went.order (subst (λ (n : ℕ). All (IsPolled most (λ k. k ≤ n)) went.batches) all went.polled) in
        let is = stored went.batches start after marked fresh went.through none in
        let shown = come_back (shown_of went.batches) start after went.through none in (
          subst (λ (l : List E). Stores seen may_leave (writer_of start).journal (writer_of after).journal (map record_of l)) went.dealt is.0,
          subst (λ (l : List E). AreValues value_in (map record_of l) (map value l)) (events_of_all went.batches ∙ went.dealt) shown,
        )
