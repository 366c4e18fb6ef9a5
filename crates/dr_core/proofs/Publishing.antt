-- A publication of the core is the machine's.
use Rattle.std.proofs.Common.{◌≡◌, ◌⊎◌, ℕ, ◌+◌, ◌-◌, ◌<◌, ◌≤◌, ◌≢◌, inl, inr, Bool, true, false, not, ◌||◌, ◌&&◌, List}
use Rattle.std.proofs.Common.{[], ◌∷◌, ◌++◌, arith, refl, ap, sym, ◌∙◌, slice_index, Option, Some, None, add-zero}
use Rattle.std.specs.Prelude.{◌==◌, nat_le, is_none, flat_map}
use Rattle.std.specs.List.{range_with_len}
use Rattle.std.proofs.lemmas.Bool.{cases_Bool, cases_lt, lt-leb, le-leb, le-ltb, ne_eqb, and_left, and_right, and_from, or_right, or_left, or_from}
use Rattle.dr_meaning.specs.declared.command.Command.TheVariants.{Publish}
use Rattle.dr_meaning.specs.declared.command.Reply.TheVariants.{Published, Refused}
use Rattle.dr_meaning.specs.declared.refusal.Refusal.{Refusal}
use Rattle.dr_meaning.specs.declared.refusal.Refusal.TheVariants.{NotClaimed, AlreadyPublished, NotWritten, OutOfOrder}
use Rattle.dr_seq.specs.Rounds.{IsFront}
use Rattle.dr_meaning.specs.Meaning.Machine.{State, producers, is_single, next, front, least_outside, refusals, publish_faults}
use Rattle.dr_core.specs.Calls.CoreView.{Known, Nothing, ClaimedBy, WrittenBy, PublishedWith, CoreView, recent_of, known_at}
use Rattle.dr_core.specs.Inside.Availability.{publish_fault, event_known, is_shown}
use Rattle.dr_core.specs.Calls.Shows.{KnowsRecents, Shows, Agrees, IsStep}
use Rattle.dr_core.specs.Inside.Fields.{IsWhole}
use Rattle.dr_core.proofs.Shown.{same_next, same_front}
use Rattle.dr_meaning.proofs.Leasts.{least_is, least_one}
use Rattle.dr_meaning.proofs.Causes.{first_left, first_right, first_of_stretch}
use Rattle.dr_meaning.proofs.Steps.{IsHolding, IsFailing, NoneHold, NoneHold-join, NoneHold-stretch, Refuses}
use Rattle.dr_core.proofs.CoreSteps.{refused_step, accepted_step, known_at-recent}
use Rattle.dr_core.proofs.Writing.{below_front, near, disowned, owned, unwritten_refused}

-- the tests of one sequence
abbrev tests_of : {E : Type 0} → ℕ → ℕ → Bool → Option E → List (Bool × Refusal)
tests_of p o b w = (b, AlreadyPublished) ∷ (not (o == p), NotClaimed) ∷ (is_none w, NotWritten) ∷ []

no_fault : {E : Type 0} (known : Known E) (p o : ℕ) (b : Bool) (w : Option E) → Agrees known o b w → publish_fault known p ≡ None → NoneHold (tests_of p o b w)
no_fault Nothing p o b w h e = absurd h
no_fault (ClaimedBy q) p o b w h e = absurd (unwritten_refused (q == p) e)
no_fault (WrittenBy q event) p o b w h e = (h.1, (ap not (ap (λ k. k == p) h.0 ∙ owned (q == p) NotClaimed e), (ap is_none h.2, tt)))
no_fault (PublishedWith event) p o b w h e = absurd (let f : ◌≡◌ {A = Option Refusal} (Some AlreadyPublished) None = e in cc)

a_fault : {E : Type 0} (known : Known E) (p o : ℕ) (b : Bool) (w : Option E) (r : Refusal) → Agrees known o b w → publish_fault known p ≡ Some r
    → Refuses r (tests_of p o b w)
a_fault Nothing p o b w r h e = absurd h
a_fault (ClaimedBy q) p o b w r h e = elim (cases_Bool (q == p)) [
  | inl y ↦ (let f : ◌≡◌ {A = Option Refusal} (Some NotWritten) (Some r) = rw y at e in
      inr (h.1, inr (ap not (ap (λ k. k == p) h.0 ∙ y), inl (ap is_none h.2, cc))))
  | inr n ↦ (let f : ◌≡◌ {A = Option Refusal} (Some NotClaimed) (Some r) = rw n at e in inr (h.1, inl (ap not (ap (λ k. k == p) h.0 ∙ n), cc)))
]
a_fault (WrittenBy q event) p o b w r h e =
    let d : ((q == p) ≡ false) × (NotClaimed ≡ r) = disowned (q == p) NotClaimed r e in inr (h.1, inl (ap not (ap (λ k. k == p) h.0 ∙ d.0), d.1))
a_fault (PublishedWith event) p o b w r h e = inl (h.0, (let f : ◌≡◌ {A = Option Refusal} (Some AlreadyPublished) (Some r) = e in cc))

module _ {E : Type 0} (v : CoreView E) (p lo hi : ℕ) (whole : IsWhole v) (producer : p < producers v.setup.mode) (order : lo ≤ hi) (claimed : hi < v.next) where
  -- the tests before those of the stretch
  past : (m : State E) → Shows v m → (r : Refusal)
      → Refuses r (flat_map (publish_faults m p) (range_with_len lo (hi + 1 - lo)) ++ (is_single v.setup.mode && not (lo == front m), OutOfOrder) ∷ [])
      → Refuses r (refusals v.setup m (Publish p lo hi))
  past m sh r h = inr (lt-leb _ _ producer, inr (le-ltb _ _ order, inr ((let n : next m ≡ v.next = same_next sh in rw n (lt-leb _ _ claimed)), h)))

  pub publish_front : lo < v.front → IsStep v (Publish p lo hi) (Refused AlreadyPublished) [] v
  publish_front old =
      refused_step v (Publish p lo hi) AlreadyPublished (λ m sh. past m sh AlreadyPublished
      (first_left IsHolding IsFailing AlreadyPublished (flat_map (publish_faults m p) (range_with_len lo (hi + 1 - lo))) _ (first_of_stretch IsHolding IsFailing (publish_faults m p) lo (hi + 1 - lo) 0 AlreadyPublished (omega arith) (λ j l. absurd (omega arith)) (rw add-zero (inl (below_front v m sh lo old, refl))))))

  there : v.front ≤ lo → (m : State E) → Shows v m → (k : ℕ) → k < hi + 1 - lo
      → Agrees (known_at v (lo + k)) (slice_index m.owners (lo + k)) (m.published (lo + k)) (m.written (lo + k))
  there fresh m sh k l = sh.recent (lo + k) (omega arith) (near v whole (lo + k) (omega arith))

  pub publish_refused : v.front ≤ lo → (r : Refusal) (k : ℕ) → k < hi + 1 - lo → ((j : ℕ) → j < k → publish_fault (known_at v (lo + j)) p ≡ None)
      → publish_fault (known_at v (lo + k)) p ≡ Some r → IsStep v (Publish p lo hi) (Refused r) [] v
  publish_refused fresh r k l before here =
      refused_step v (Publish p lo hi) r (λ m sh. past m sh r
      (first_left IsHolding IsFailing r (flat_map (publish_faults m p) (range_with_len lo (hi + 1 - lo))) _
      (first_of_stretch IsHolding IsFailing (publish_faults m p) lo (hi + 1 - lo) k r l
      (λ j b. no_fault (known_at v (lo + j)) p _ _ _ (there fresh m sh j (omega arith)) (before j b))
      (a_fault (known_at v (lo + k)) p _ _ _ r (there fresh m sh k l) here))))

  none_here : v.front ≤ lo → ((j : ℕ) → j < hi + 1 - lo → publish_fault (known_at v (lo + j)) p ≡ None) → (m : State E) → Shows v m
      → NoneHold (flat_map (publish_faults m p) (range_with_len lo (hi + 1 - lo)))
  none_here fresh none m sh =
      NoneHold-stretch (publish_faults m p) lo (hi + 1 - lo) (λ k l. no_fault (known_at v (lo + k)) p _ _ _ (there fresh m sh k l) (none k l))

  pub publish_order : v.front ≤ lo → ((j : ℕ) → j < hi + 1 - lo → publish_fault (known_at v (lo + j)) p ≡ None) → is_single v.setup.mode ≡ true
      → lo ≢ v.front → IsStep v (Publish p lo hi) (Refused OutOfOrder) [] v
  publish_order fresh none single late =
      refused_step v (Publish p lo hi) OutOfOrder (λ m sh. past m sh OutOfOrder
      (first_right IsHolding IsFailing OutOfOrder (flat_map (publish_faults m p) (range_with_len lo (hi + 1 - lo))) _ (none_here fresh none m sh)
      (inl (and_from _ _ single (let f : front m ≡ v.front = same_front sh in rw f (ap not (ne_eqb lo v.front late))), refl))))

-- what may be published is known with the event that was written
fault_written : {E : Type 0} (known : Known E) (p o : ℕ) (b : Bool) (w : Option E) → Agrees known o b w → publish_fault known p ≡ None → w ≡ event_known known
fault_written Nothing p o b w h e = absurd h
fault_written (ClaimedBy q) p o b w h e = absurd (unwritten_refused (q == p) e)
fault_written (WrittenBy q event) p o b w h e = h.2
fault_written (PublishedWith event) p o b w h e = h.1

shown_published : {E : Type 0} (known : Known E) (o : ℕ) (b : Bool) (w : Option E) → Agrees known o b w → is_shown known ≡ b
shown_published Nothing o b w h = absurd h
shown_published (ClaimedBy q) o b w h = sym h.1
shown_published (WrittenBy q event) o b w h = sym h.1
shown_published (PublishedWith event) o b w h = sym h.0

agrees_mark : {E : Type 0} (known : Known E) (o : ℕ) (b c : Bool) (w : Option E) → b ≡ c → Agrees known o b w → Agrees known o c w
agrees_mark known o b c w e h = rw (← e) h

-- whether a sequence is in the stretch
abbrev pub in_stretch : ℕ → ℕ → ℕ → Bool
in_stretch lo hi k = nat_le lo k && nat_le k hi

inside_is : (lo hi k : ℕ) → lo ≤ k → k ≤ hi → in_stretch lo hi k ≡ true
inside_is lo hi k a b = and_from _ _ (le-leb lo k a) (le-leb k hi b)

outside_is : (lo hi k : ℕ) → (k < lo) ⊎ (hi < k) → in_stretch lo hi k ≡ false
outside_is lo hi k (inl a) = and_left _ _ (lt-leb lo k a)
outside_is lo hi k (inr b) = and_right _ _ (lt-leb k hi b)

stretch_cases : (lo hi k : ℕ) → ((lo ≤ k) × (k ≤ hi)) ⊎ ((k < lo) ⊎ (hi < k))
stretch_cases lo hi k = elim (cases_lt k lo) [ inl a ↦ inr (inl a) | inr b ↦ elim (cases_lt hi k) [ inl d ↦ inr (inr d) | inr e ↦ inl (b, e) ] ]

or-no : (b c : Bool) → c ≡ false → (b || c) ≡ b
or-no true c h = refl
or-no false c h = h

-- what a publication leaves known: the stretch is published with what was written, and of the others as much as before
pub record PublishesKnown {E : Type 0} (v : CoreView E) (lo hi : ℕ) (known : ℕ → Known E) : Type 0 where
  pub inside : (k : ℕ) → lo ≤ k → k ≤ hi → (event : E) × (known k ≡ PublishedWith event) × (event_known (known_at v k) ≡ Some event)
  pub outside : (k : ℕ) → k < v.next → v.next ≤ k + v.setup.size → (k < lo) ⊎ (hi < k) → known k ≡ known_at v k

module _ {E : Type 0} (v : CoreView E) (p lo hi front' : ℕ) (known : ℕ → Known E) (knows : PublishesKnown v lo hi known) (whole : IsWhole v)
    (producer : p < producers v.setup.mode) (order : lo ≤ hi) (claimed : hi < v.next) (fresh : v.front ≤ lo)
    (none : (j : ℕ) → j < hi + 1 - lo → publish_fault (known_at v (lo + j)) p ≡ None)
    (found : IsFront (λ s. is_shown (known s)) v.front v.next front') where
  now_published : (m : State E) → Shows v m → (k : ℕ) → k < v.next → v.next ≤ k + v.setup.size → is_shown (known k) ≡ (m.published k || in_stretch lo hi k)
  now_published m sh k l r = elim (stretch_cases lo hi k) [
    | inl i ↦ ap is_shown (knows.inside k i.0 i.1).1 ∙ sym (or_right (m.published k) _ (inside_is lo hi k i.0 i.1))
    | inr o ↦ ap is_shown (knows.outside k l r o)
        ∙ shown_published (known_at v k) _ _ _ (sh.recent k l r)
        ∙ sym (or-no (m.published k) _ (outside_is lo hi k o))
  ]

  front_moves : (m : State E) → Shows v m → least_outside (λ k. m.published k || in_stretch lo hi k) (next m) ≡ front'
  front_moves m sh =
      let here : next m ≡ v.next = same_next sh in
      let round : v.next ≤ v.front + v.setup.size = near v whole v.front (omega arith) in
      let low : v.front ≤ front' = found.low in
      let high : front' ≤ v.next = found.high in
      least_one (λ k. m.published k || in_stretch lo hi k) (next m) _ _ (least_is (λ k. m.published k || in_stretch lo hi k) (next m))
      (record {
        within = omega arith;
        below = λ k l. elim (cases_lt k v.front) [
          | inl old ↦ or_left (m.published k) _ (below_front v m sh k old)
          | inr g ↦ sym (now_published m sh k (omega arith) (omega arith)) ∙ found.below k g l
        ];
        here = λ l. sym (now_published m sh front' (omega arith) (omega arith)) ∙ found.here (omega arith);
      })

  published_recents : (m : State E) → Shows v m
      → KnowsRecents v.setup.size v.next (known_at (record v { recent = recent_of known v.next v.setup.size; front = front' })) m.owners
      (λ k. m.published k || in_stretch lo hi k) m.written
  published_recents m sh = record {
    recent = λ k l r. rw (known_at-recent known v.next v.setup.size k l r) (elim (stretch_cases lo hi k) [
      | inl i ↦ (let off : lo + (k - lo) ≡ k = omega arith in
          let ok : publish_fault (known_at v k) p ≡ None = rw off at (none (k - lo) (omega arith)) in
          let now : (event : E) × (known k ≡ PublishedWith event) × (event_known (known_at v k) ≡ Some event) = knows.inside k i.0 i.1 in
          rw now.1 (or_right (m.published k) _ (inside_is lo hi k i.0 i.1), fault_written (known_at v k) p _ _ _ (sh.recent k l r) ok ∙ now.2))
      | inr o ↦ rw (knows.outside k l r o) (agrees_mark (known_at v k) _ (m.published k) _ _ (sym (or-no (m.published k) _ (outside_is lo hi k o))) (sh.recent k l r))
    ]);
    unclaimed = λ k g. (or_from _ _ (sh.unclaimed k g).0 (outside_is lo hi k (inr (omega arith))), (sh.unclaimed k g).1);
  }

  pub publish_step : (is_single v.setup.mode && not (lo == v.front)) ≡ false
      → IsStep v (Publish p lo hi) Published [] (record v { recent = recent_of known v.next v.setup.size; front = front' })
  publish_step in_order = accepted_step refl refl (λ m sh. record {
    passes = (
      lt-leb _ _ producer,
      (
        le-ltb _ _ order,
        (
          rw (same_next sh) (lt-leb _ _ claimed),
          NoneHold-join (flat_map (publish_faults m p) (range_with_len lo (hi + 1 - lo))) _
              (none_here v p lo hi whole producer order claimed fresh none m sh) (rw (same_front sh) in_order, tt),
        ),
      ),
    );
    replies = refl;
    hands_out = refl;
    shown = record { counts = λ i. record (sh.counts i) { front = front_moves m sh i }; flags = sh.flags; recents = published_recents m sh };
  })
