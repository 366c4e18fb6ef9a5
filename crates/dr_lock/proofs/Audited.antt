-- What a list of sequences says of the transcript that it was made of.
use Rattle.std.proofs.Common.{◌≡◌, ℕ, ◌+◌, ◌<◌, ◌≤◌, inl, inr, Bool, true, false, ◌&&◌, List, [], ◌++◌, arith, refl, ap}
use Rattle.std.proofs.Common.{sym, ◌∙◌, length, take, get_or, Option, Some, slice_index, eq-eqb}
use Rattle.std.proofs.Math.ListN.{get_or-eq_default}
use Rattle.std.specs.Prelude.{◌==◌, filter, is_none, slice_get}
use Rattle.std.specs.List.{range_with_len, filter_map}
use Rattle.std.proofs.lemmas.Bool.{cases_lt, cases_Bool, false≢true, eqb-true, and_parts}
use Rattle.std.proofs.lemmas.List.{append-nil, take_all, take-append-le}
use Rattle.std.proofs.lemmas.List.Elements.{filter_map-append}
use Rattle.std.proofs.lemmas.Option.{slice_get-get_or}
use Rattle.dr_meaning.specs.Meaning.Machine.{Setup, State, next, producers, handlers}
use Rattle.dr_meaning.specs.Meaning.Transcript.{Transcript, next_of, owner_of, is_published, event_of, front_of, received_by, taken_by}
use Rattle.dr_meaning.specs.Meaning.Laws.{Laws, ReceivedInOrder}
use Rattle.dr_meaning.proofs.Leasts.{least_is, IsLeast}
use Rattle.dr_meaning.specs.Meaning.Tells.{Tells}
use Rattle.dr_lock.specs.declared.sequences.Sequence.{Sequence}
use Rattle.dr_lock.specs.Inside.Sequences.{Lists, nothing, known, known_in, published_of, sent_of}
use Rattle.dr_workers.specs.Meaning.Merge.{IsMerge}
use Rattle.dr_lock.specs.Meaning.Audit.{is_owner, published_by_all, published_by, script_of}
use Rattle.dr_lock.proofs.Reached.{IsHeld}
use Rattle.dr_workers.proofs.Picks.{picks, picks_none, picks_first, picks_map, picks_both, picked_passes, none_passes, list_is, length-picked, picked_at, listed}

owned_by : (o : Option ℕ) (q p : ℕ) → o ≡ Some q → is_owner o p ≡ (q == p)
owned_by o q p e = rw e refl

differ : (q p : ℕ) → q < p → (q == p) ≡ false
differ q p l = elim (cases_Bool (q == p)) [ inl y ↦ absurd (let e : q ≡ p = eqb-true q p y in omega arith) | inr n ↦ n ]

and_false : (b : Bool) → (b && false) ≡ false
and_false true = refl
and_false false = refl

module _ {E : Type 0} (c : Setup) (t : Transcript E) (m : State E) (tells : Tells t m) (held : IsHeld c m) where
  owner_is : (s p : ℕ) → s < next m → is_owner (owner_of t s) p ≡ (slice_index m.owners s == p)
  owner_is s p l = owned_by (owner_of t s) (slice_index m.owners s) p (tells.owners s ∙ slice_get-get_or m.owners s 0 l)

  event_is : (s : ℕ) → m.published s ≡ true → m.written s ≡ event_of t s
  event_is s y = sym (tells.events s y)

  module _ (list : List (Sequence E)) (lists : Lists list m) where
    same_at : (s : ℕ) → s < length list → known list s ≡ known_in m s
    same_at s l = lists.at s (let e : length list ≡ next m = lists.length in omega arith)

    long : length list ≡ next_of t
    long = lists.length ∙ sym tells.next

    pub published_is : published_of list ≡ published_by_all t
    published_is =
        ap published_of (list_is list nothing)
        ∙ picks_map (known list) (λ x. x.event) (λ x. x.is_published) (range_with_len 0 (length list))
        ∙ picks (λ s. (known list s).event) (event_of t) (λ s. (known list s).is_published) (is_published t) 0 (length list) (λ s a l.
        let same : known list s ≡ known_in m s = same_at s (omega arith) in
        (ap (λ x. x.is_published) same ∙ sym (tells.published s), λ y. ap (λ x. x.event) same ∙ event_is s (sym (tells.published s) ∙ y)))
        ∙ ap (λ n. filter_map (event_of t) (filter (is_published t) (range_with_len 0 n))) long

    pub sent_is : (p : ℕ) → sent_of list p ≡ published_by t p
    sent_is p =
        ap (λ l. sent_of l p) (list_is list nothing)
        ∙ picks_map (known list) (λ x. x.event) (λ x. x.is_published && x.owner == p) (range_with_len 0 (length list))
        ∙ picks (λ s. (known list s).event) (event_of t) (λ s. (known list s).is_published && (known list s).owner == p) (λ s. is_published t s && is_owner (owner_of t s) p) 0 (length list) (λ s a l.
        let e : length list ≡ next m = lists.length in
        let same : known list s ≡ known_in m s = same_at s (omega arith) in
        (ap (λ x. x.is_published && x.owner == p) same ∙ rw (tells.published s, owner_is s p (omega arith)) refl, λ y. ap (λ x. x.event) same ∙ event_is s (sym (tells.published s) ∙ (and_parts _ _ y).0)))
        ∙ ap (λ n. filter_map (event_of t) (filter (λ s. is_published t s && is_owner (owner_of t s) p) (range_with_len 0 n))) long

  -- no other producer published anything
  pub others_none : (p : ℕ) → producers c.mode ≤ p → published_by t p ≡ []
  others_none p le =
      ap (filter_map (event_of t)) (picks_none (λ s. is_published t s && is_owner (owner_of t s) p) 0 (next_of t) (λ s a l.
      let n : next_of t ≡ next m = tells.next in
      let own : slice_index m.owners s < producers c.mode = held.owned s (omega arith) in
      let other : is_owner (owner_of t s) p ≡ false = owner_is s p (omega arith) ∙ differ (slice_index m.owners s) p (omega arith) in
      rw other (and_false (is_published t s))))

  -- what a handler received are the first published events
  pub received_some : Laws c t → (h : ℕ) → h < handlers c → received_by t h ≡ take (taken_by t h) (published_by_all t)
  received_some laws h inside =
      let n : ℕ = taken_by t h in
      let order : ReceivedInOrder t h = laws.received_in_order t [] (append-nil t) h inside in
      let within : n ≤ front_of t = order.published in
      let least : IsLeast (is_published t) (next_of t) (front_of t) = least_is (is_published t) (next_of t) in
      let few : n ≤ next_of t = (let ahead : front_of t ≤ next_of t = least.within in omega arith) in
      let first : (rest : List ℕ) × (filter (is_published t) (range_with_len 0 (next_of t)) ≡ range_with_len 0 n ++ rest) =
      picks_first (is_published t) 0 n (next_of t) few (λ s a l. least.below s (omega arith)) in
      let own : filter_map (event_of t) (range_with_len 0 n) ≡ received_by t h = listed (event_of t) (received_by t h) 0 n refl (λ k l. (let at : k ≡ 0 + k = omega arith in order.events k l ∙ ap (event_of t) at)) in
      let split : published_by_all t ≡ received_by t h ++ filter_map (event_of t) first.0 =
      ap (filter_map (event_of t)) first.1 ∙ filter_map-append (event_of t) (range_with_len 0 n) first.0 ∙ ap (λ l. l ++ filter_map (event_of t) first.0) own in
      sym (ap (take n) split ∙ take-append-le n (received_by t h) (filter_map (event_of t) first.0) (omega arith) ∙ take_all n (received_by t h) (omega arith))

  -- so a handler that took as many events as were published received them all
  pub received_all : Laws c t → (h : ℕ) → h < handlers c → taken_by t h ≡ length (published_by_all t)
      → received_by t h ≡ published_by_all t
  received_all laws h inside drained = received_some laws h inside ∙ take_all (taken_by t h) (published_by_all t) (omega (arith, drained))

  -- a published sequence is claimed
  claimed_there : (x : ℕ) → is_published t x ≡ true → x < next m
  claimed_there x y = elim (cases_lt x (next m)) [
    | inl l ↦ l
    | inr past ↦ absurd (false≢true (sym (tells.published x ∙ held.unpublished x past) ∙ y))
  ]

  passes : (xs : List ℕ) → xs ≡ filter (is_published t) (range_with_len 0 (next_of t)) → (s : ℕ) → s < length xs
      → is_published t (get_or xs s 0) ≡ true
  passes xs is s = rw is (λ l. picked_passes (is_published t) (range_with_len 0 (next_of t)) s 0 l)

  module _ (marked : (s : ℕ) → m.published s ≡ true → is_none (m.written s) ≡ false) where
    -- a published sequence has an event
    has_event : (s : ℕ) → is_published t s ≡ true → is_none (event_of t s) ≡ false
    has_event s y = (let marks : m.published s ≡ true = sym (tells.published s) ∙ y in ap is_none (tells.events s marks) ∙ marked s marks)

    have_events : (xs : List ℕ) → xs ≡ filter (is_published t) (range_with_len 0 (next_of t)) → (j : ℕ) → j < length xs
        → is_none (event_of t (get_or xs j 0)) ≡ false
    have_events xs is j l = has_event (get_or xs j 0) (passes xs is j l)

    -- the published events of a producer, picked from those of all
    part_is : (xs : List ℕ) → xs ≡ filter (is_published t) (range_with_len 0 (next_of t)) → (i : ℕ)
        → published_by t i ≡ filter_map (slice_get (filter_map (event_of t) xs)) (filter (λ s. slice_index m.owners (get_or xs s 0) == i) (range_with_len 0 (length xs)))
    part_is xs is i =
        ap (filter_map (event_of t)) (picks_both (is_published t) (λ s. is_owner (owner_of t s) i) (range_with_len 0 (next_of t)))
        ∙ ap (λ ys. filter_map (event_of t) (filter (λ s. is_owner (owner_of t s) i) ys)) (sym is ∙ list_is xs 0)
        ∙ picks_map (λ s. get_or xs s 0) (event_of t) (λ s. is_owner (owner_of t s) i) (range_with_len 0 (length xs))
        ∙ picks (λ s. event_of t (get_or xs s 0)) (slice_get (filter_map (event_of t) xs)) (λ s. is_owner (owner_of t (get_or xs s 0)) i) (λ s. slice_index m.owners (get_or xs s 0) == i) 0 (length xs) (λ s a l.
        let inside : s < length xs = omega arith in
        (owner_is (get_or xs s 0) i (claimed_there (get_or xs s 0) (passes xs is s inside)), λ y. sym (picked_at (event_of t) xs s (have_events xs is) inside)))

    -- each published sequence is that of a producer with a script
    part_within : (xs : List ℕ) → xs ≡ filter (is_published t) (range_with_len 0 (next_of t)) → (s p : ℕ)
        → s < length xs → slice_index m.owners (get_or xs s 0) ≡ p → published_by t p ≡ [] → ⊥
    part_within xs is s p l own nothing_sent =
        let both : ℕ → Bool = λ s. is_published t s && is_owner (owner_of t s) p in
        let zs : List ℕ = filter (λ s. is_published t s && is_owner (owner_of t s) p) (range_with_len 0 (next_of t)) in
        let some : (j : ℕ) → j < length zs → is_none (event_of t (get_or zs j 0)) ≡ false =
        λ j k. has_event (get_or zs j 0) (and_parts _ _ (picked_passes both (range_with_len 0 (next_of t)) j 0 k)).0 in
        let few : length (filter (λ s. is_owner (owner_of t s) p) xs) ≡ 0 =
        ap (λ ys. length (filter (λ s. is_owner (owner_of t s) p) ys)) is
        ∙ sym (ap length (picks_both (is_published t) (λ s. is_owner (owner_of t s) p) (range_with_len 0 (next_of t))))
        ∙ sym (length-picked (event_of t) zs some)
        ∙ ap length nothing_sent in
        let not_own : is_owner (owner_of t (get_or xs s 0)) p ≡ false = none_passes (λ s. is_owner (owner_of t s) p) xs s 0 few l in
        let is_own : is_owner (owner_of t (get_or xs s 0)) p ≡ true = owner_is (get_or xs s 0) p (claimed_there (get_or xs s 0) (passes xs is s l)) ∙ eq-eqb (slice_index m.owners (get_or xs s 0)) p own in
        false≢true (sym not_own ∙ is_own)

    -- where each producer's published events are its script, all published events are a merge of the scripts
    pub merged : (scripts : List (List E)) → ((p : ℕ) → published_by t p ≡ script_of scripts p)
        → IsMerge scripts (published_by_all t)
    merged scripts sent =
        let xs : List ℕ = filter (is_published t) (range_with_len 0 (next_of t)) in
        let long : length (filter_map (event_of t) xs) ≡ length xs = length-picked (event_of t) xs (have_events xs refl) in
        record {
          part = λ s. slice_index m.owners (get_or xs s 0);
          within = λ s l. elim (cases_lt (slice_index m.owners (get_or xs s 0)) (length scripts)) [
            | inl i ↦ i
            | inr past ↦ absurd (part_within xs refl s (slice_index m.owners (get_or xs s 0)) (rw long at l) refl (sent (slice_index m.owners (get_or xs s 0)) ∙ get_or-eq_default scripts [] past))
          ];
          each = λ i l. sym (sent i) ∙ part_is xs refl i ∙ ap (λ n. filter_map (slice_get (published_by_all t)) (filter (λ s. slice_index m.owners (get_or xs s 0) == i) (range_with_len 0 n))) (sym long);
        }

  -- the scripts of some producers, of which the rest published nothing and have no script
  pub all_sent : (list : List (Sequence E)) → Lists list m → (scripts : List (List E)) (bound : ℕ)
      → producers c.mode ≤ bound → length scripts ≤ bound
      → ((p : ℕ) → p < bound → sent_of list p ≡ script_of scripts p) → (p : ℕ)
      → published_by t p ≡ script_of scripts p
  all_sent list lists scripts bound few short same p =
      elim (cases_lt p bound) [
        | inl l ↦ sym (sent_is list lists p) ∙ same p l
        | inr past ↦ others_none p (omega arith) ∙ sym (get_or-eq_default scripts [] (omega arith))
      ]
