-- The machine replies on the picture of a ring with one sender as an end of the ring answers.
use Rattle.std.proofs.Common.{◌≡◌, ℕ, zero, suc, ◌+◌, ◌-◌, ◌<◌, ◌≤◌, inl, inr, Bool, true, false, not, ◌==◌, ◌||◌, List, ◌++◌, length, get_or, map}
use Rattle.std.proofs.Common.{Option, Some, None, is_none, Result, Ok, Err, sym, refl, ap, ◌∙◌, subst, arith}
use Rattle.std.specs.Prelude.{nat_lt, nat_le, Contains, flat_map}
use Rattle.std.specs.List.{range_with_len}
use Rattle.std.proofs.Math.Bool.{and-false}
use Rattle.std.proofs.lemmas.Bool.{cases_eq, eq-eqb, ne_eqb, lt-ltb, lt-leb, ltb-false}
use Rattle.std.proofs.lemmas.List.{length-map, get_or-append_right}
use Rattle.dr_meaning.specs.declared.refusal.Refusal.{Refusal}
use Rattle.dr_meaning.specs.declared.refusal.Refusal.TheVariants.{NoRoom, Halted, Exhausted}
use Rattle.dr_meaning.specs.declared.command.Claimed.{Claimed as Stretch}
use Rattle.dr_meaning.specs.declared.command.Command.{Command}
use Rattle.dr_meaning.specs.declared.command.Command.TheVariants.{Claim, Write, Publish, Poll, Complete}
use Rattle.dr_meaning.specs.declared.command.Reply.{Reply}
use Rattle.dr_meaning.specs.declared.command.Reply.TheVariants.{Claimed, Written, Published, Completed}
use Rattle.dr_meaning.specs.declared.command.Polled.{Polled}
use Rattle.dr_meaning.specs.declared.command.Polled.TheVariants.{Batch, Drained, Gating, Idle}
use Rattle.dr_meaning.specs.Meaning.Refusals.{PollTests, CompleteTests, IsFirst, claim_causes, write_causes}
use Rattle.dr_meaning.specs.Meaning.Refusals.{sequence_causes, publish_causes, poll_causes, complete_causes}
use Rattle.dr_meaning.specs.Meaning.Machine.{Setup, State, Outcome, front, available, least_completed, refusals, accepted, publish_faults, step}
use Rattle.dr_meaning.specs.Calls.Replies.{claim_reply, unit_reply, poll_reply}
use Rattle.dr_meaning.specs.Calls.Ends.{Verdict, Exactly, MayHold, MayFail, Sent, Received, IsAnswerOf, WriteAnswers, PublishAnswers, as_end}
use Rattle.dr_meaning.specs.Calls.Ends.{claimed_in, write_tests, end_sequence_tests, publish_tests, poll_tests, complete_tests}
use Rattle.dr_meaning.proofs.Steps.{Refuses, unless-none, unless-refused}
use Rattle.dr_meaning.proofs.Leasts.{least_of-member}
use Rattle.dr_graph.specs.Meaning.Graph.{upstreams_of, finals, IsGraph}
use Rattle.dr_runs.specs.OneSender.Words.{cursor_word, closed_word, halt_word, count_word}
use Rattle.dr_runs.specs.OneSender.Replies.{claim_tests_of, DecidesClaimOf, DecidesPollOf}
use Rattle.dr_runs.proofs.Completions.{counts_of, count_at, upstream_inside}
use Rattle.dr_runs.proofs.Elements.{all_zero, word_at}
use Rattle.dr_runs.proofs.Exact.{AreExact, none_exact, first_exact, exact_join, exact_stretch, unit_replies, offered_low}
use Rattle.dr_runs.proofs.Exact.{drained_reply, gating_reply, idle_reply}
use Rattle.dr_runs.proofs.Offers.{final_inside, offered_at_most}
use Rattle.dr_runs.proofs.OneSender.{setup_of, shown, count_owners, shown_front, claim_step}

-- a ring as the machine is to show it: what it was made for, its words, and what was sent and taken
pub record Picture (T : Type 0) : Type 0 where
  pub graph : List (List ℕ)
  pub size : ℕ
  pub limit : ℕ
  pub words : List ℕ
  pub published : ℕ
  pub pending : ℕ
  -- what is written to each sequence
  pub writes : List (Option T)
  pub taken : List ℕ

-- what the rule of a ring says of it, as far as answers go by it
pub record IsKept {T : Type 0} (p : Picture T) : Type 0 where
  pub graph : IsGraph p.graph
  pub cursor : word_at p.words cursor_word ≡ p.published
  pub completed : (h : ℕ) → h < length p.graph → word_at p.words (count_word h) ≤ p.published
  pub closed : word_at p.words closed_word ≡ 1 → (word_at p.words halt_word ≡ 1) × (p.pending ≡ 0)

module _ {T : Type 0} where
  abbrev pub setup : Picture T → Setup
  setup p = setup_of p.graph p.size p.limit

  abbrev pub claimed : Picture T → ℕ
  claimed p = p.published + p.pending

  -- the machine that shows it, whether it is halted or not
  abbrev pub state_where : Picture T → Bool → State T
  state_where p halted =
      shown p.graph p.size p.limit (claimed p) p.writes (word_at p.words cursor_word) p.taken (counts_of p.graph p.words) halted

  abbrev pub state : Picture T → State T
  state p = state_where p (word_at p.words halt_word == 1)

  abbrev pub Replies : Picture T → Command T → Reply → Type 0
  Replies p command reply = (step (setup p) (state p) command).reply ≡ reply

-- the sender's claims, of which these show the events and the open sequences
pub record Shows {T : Type 0} (p : Picture T) (sent : Sent T) : Type 0 where
  pub published : length sent.published ≡ p.published
  pub pending : length sent.pending ≡ p.pending
  pub writes : p.writes ≡ map (λ event. Some event) sent.published ++ sent.pending

-- n more sequences fit
pub record HasRoom {T : Type 0} (p : Picture T) (n : ℕ) : Type 0 where
  pub size : n ≤ p.size
  pub limit : claimed p + n ≤ p.limit
  pub completed : claimed p + n ≤ p.size + least_completed (state p) (finals p.graph)

-- a handler received and completed so much
pub record IsAt {T : Type 0} (p : Picture T) (h : ℕ) (r : Received T) : Type 0 where
  pub inside : h < length p.graph
  pub taken : get_or p.taken h 0 ≡ length r.events
  pub completed : word_at p.words (count_word h) ≡ r.completed

module _ {T : Type 0} (p : Picture T) (K : IsKept p) where
  abbrev c : Setup
  c = setup p

  abbrev m : State T
  m = state p

  owned : length m.owners ≡ claimed p
  owned = count_owners (claimed p)

  mine : (s : ℕ) → not (get_or m.owners s 0 == 0) ≡ false
  mine s = ap not (eq-eqb (get_or m.owners s 0) 0 (all_zero (claimed p) s))

  pub at_front : front m ≡ p.published
  at_front =
      let cursor = K.cursor in
      shown_front p.graph p.size p.limit (claimed p) p.writes (word_at p.words cursor_word) p.taken (counts_of p.graph p.words)
      (word_at p.words halt_word == 1) (omega arith)
      ∙ cursor

  -- The sender's writes and publications.
  module _ (sent : Sent T) (S : Shows p sent) where
    counted : length sent.published ≡ word_at p.words cursor_word
    counted = S.published ∙ sym K.cursor

    all_owned : claimed_in sent ≡ length m.owners
    all_owned = (let a = S.published in let b = S.pending in let e = owned in omega arith)

    write_exact : (s : ℕ) (event : T) → AreExact (write_causes (write_tests (Some sent) s)) (refusals c m (Write 0 s event))
    write_exact s event = (
      refl,
      refl,
      λ a. (
        ap (λ (n : ℕ). Exactly (nat_le n s)) all_owned,
        refl,
        λ b. (
          ap (λ (n : ℕ). Exactly (nat_lt s n)) counted,
          refl,
          λ d. (
            ap Exactly (sym (mine s)),
            refl,
            λ e. tt,
          ),
        ),
      ),
    )

    pub write_replies : (s : ℕ) (event : T) (result : Result (Unit {0}) Refusal) → WriteAnswers (Some sent) s (as_end result)
        → Replies p (Write 0 s event) (unit_reply Written result)
    write_replies s event result answer =
        let causes = write_causes (write_tests (Some sent) s) in let command = Write 0 s event in
        unit_replies causes (refusals c m command) m (accepted c m command) result (write_exact s event) answer

    -- what is written to a sequence that is not published
    written_later : (s : ℕ) → word_at p.words cursor_word ≤ s → get_or sent.pending (s - length sent.published) None ≡ m.written s
    written_later s late =
        let old = map (λ (event : T). Some event) sent.published in let count = counted in
        sym (ap (λ (vs : List (Option T)). get_or vs s None) S.writes
        ∙ get_or-append_right old sent.pending (length sent.published) s None (length-map sent.published (λ (event : T). Some event)) (omega arith))

    sequence_exact : (s : ℕ) → AreExact (sequence_causes (end_sequence_tests (Some sent) s)) (publish_faults m 0 s)
    sequence_exact s = (
      ap (λ (n : ℕ). Exactly (nat_lt s n)) counted,
      refl,
      λ still. (
        ap Exactly (sym (mine s)),
        refl,
        λ b. (ap (λ (o : Option T). Exactly (is_none o)) (written_later s (ltb-false s (word_at p.words cursor_word) still)), refl, λ d. tt),
      ),
    )

    publish_exact : (lo hi : ℕ) → AreExact (publish_causes lo hi (publish_tests (Some sent) lo hi)) (refusals c m (Publish 0 lo hi))
    publish_exact lo hi = (
      refl,
      refl,
      λ a. (
        refl,
        refl,
        λ b. (
          ap (λ (n : ℕ). Exactly (nat_le n hi)) all_owned,
          refl,
          λ d.
              exact_join (flat_map (λ s. sequence_causes (end_sequence_tests (Some sent) s)) (range_with_len lo (hi + 1 - lo))) _
              (flat_map (publish_faults m 0) (range_with_len lo (hi + 1 - lo))) _
              (exact_stretch (λ s. sequence_causes (end_sequence_tests (Some sent) s)) (publish_faults m 0) lo (hi + 1 - lo) sequence_exact)
              (ap (λ (n : ℕ). Exactly (not (lo == n))) (S.published ∙ sym at_front), refl, λ e. tt),
        ),
      ),
    )

    pub publish_replies : (lo hi : ℕ) (result : Result (Unit {0}) Refusal) → PublishAnswers (Some sent) lo hi (as_end result)
        → Replies p (Publish 0 lo hi) (unit_reply Published result)
    publish_replies lo hi result answer =
        let causes = publish_causes lo hi (publish_tests (Some sent) lo hi) in
        unit_replies causes (refusals c m (Publish 0 lo hi)) m (accepted c m (Publish 0 lo hi)) result (publish_exact lo hi) answer

  -- A claim, for which the sender saw room.
  module _ (Room : Type 0) (n : ℕ) (fits : Room → HasRoom p n) where
    abbrev Decides : Result Stretch Refusal → Type 0
    Decides = DecidesClaimOf p.graph p.words p.size (claimed p) Room n

    exhausted : (b : Bool) → nat_lt p.limit (claimed p + n) ≡ b → nat_lt p.limit (length m.owners + n) ≡ b
    exhausted b is = ap (λ (o : ℕ). nat_lt p.limit (o + n)) owned ∙ is

    no_room : (f : ℕ) → Contains (finals p.graph) f → p.size + word_at p.words (count_word f) < claimed p + n
        → nat_lt (p.size + least_completed m (finals p.graph)) (length m.owners + n) ≡ true
    no_room f has short =
        let low : least_completed m (finals p.graph) ≤ get_or m.completed f 0 = least_of-member (λ h. get_or m.completed h 0) (finals p.graph) f has in
        let count = count_at p.graph p.words f (final_inside p.graph f has) in let same = owned in lt-ltb _ _ (omega arith)

    going : word_at p.words halt_word ≡ 0 → m.halted ≡ false
    going found = ne_eqb (word_at p.words halt_word) 1 (λ (e : word_at p.words halt_word ≡ 1). omega arith)

    decided : (r refusal : Refusal) → r ≡ refusal → Decides (Err refusal) → Decides (Err r)
    decided r refusal is D = subst (λ (x : Refusal). Decides (Err x)) (sym is) D

    claim_refused : (r : Refusal) → IsFirst MayHold MayFail r (claim_causes (claim_tests_of p.size p.limit (claimed p) n)) → Decides (Err r)
        → Refuses r (refusals c m (Claim 0 n))
    claim_refused r (inl h) D = absurd (let no = h.0 in cc)
    claim_refused r (inr a) D = elim a.1 [
      | inl h ↦ inr (refl, inl (h.0, h.1))
      | inr b ↦ elim b.1 [
        | inl h ↦ inr (refl, inr (b.0, inl (eq-eqb (word_at p.words halt_word) 1 (decided Halted r h.1 D), h.1)))
        | inr d ↦ elim d.1 [
          | inl h ↦ inr (refl, inr (b.0, inr (going (decided Exhausted r h.1 D), inl (exhausted true h.0, h.1))))
          | inr e ↦ elim e.1 [
            | inl h ↦ (let found = decided NoRoom r h.1 D in
                inr (refl, inr (b.0, inr (going found.0, inr (exhausted false e.0, inl (no_room found.1.0 found.1.1 found.1.2, h.1))))))
            | inr h ↦ absurd h.1
          ]
        ]
      ]
    ]

    some_claimed : (j : ℕ) → ((j == 0) || nat_lt p.size j) ≡ false → 0 < j
    some_claimed zero is = absurd (cc)
    some_claimed (suc j) is = omega arith

    pub claim_replies : (result : Result Stretch Refusal) → IsAnswerOf (claim_causes (claim_tests_of p.size p.limit (claimed p) n)) (as_end result)
        → Decides result → Replies p (Claim 0 n) (claim_reply result)
    claim_replies (Err r) answer D =
        ap (λ (x : Outcome T). x.reply) (unless-refused r (refusals c m (Claim 0 n)) m (accepted c m (Claim 0 n)) (claim_refused r answer D))
    claim_replies (Ok stretch) answer D =
        let room = fits D.1 in
        let claims = claim_step p.graph p.size p.limit (claimed p) n p.writes p.writes (word_at p.words cursor_word) p.taken
        (counts_of p.graph p.words) (λ _. refl) (some_claimed n answer.1.0) room.size room.limit room.completed in
        subst (λ (b : Bool). (step c (state_where p b) (Claim 0 n)).reply ≡ claim_reply (Ok stretch)) (sym (going D.0))
        (ap (λ (x : Outcome T). x.reply) claims ∙ ap (λ (x : Stretch). Claimed x.lo x.hi) (sym D.2))

  -- A handler's calls.
  module _ (h : ℕ) (r : Received T) (A : IsAt p h r) where
    handler : nat_le (length p.graph) h ≡ false
    handler = lt-leb (length p.graph) h A.inside

    -- no handler retires
    abbrev complete_known : ℕ → CompleteTests Verdict
    complete_known upto = record (complete_tests (Some r) upto) { retired = Exactly false }

    abbrev poll_known : ℕ → PollTests Verdict
    poll_known room = record (poll_tests (Some r) room) { retired = Exactly false }

    complete_exact : (upto : ℕ) → AreExact (complete_causes (complete_known upto)) (refusals c m (Complete h upto))
    complete_exact upto =
        let done : get_or m.completed h 0 ≡ r.completed = count_at p.graph p.words h A.inside ∙ A.completed in (
          ap Exactly (sym handler),
          refl,
          λ a. (
            refl,
            refl,
            λ b. (
              ap (λ (n : ℕ). Exactly (nat_lt upto n)) (sym done),
              refl,
              λ d. (
                ap (λ (n : ℕ). Exactly (nat_lt n upto)) (sym A.taken),
                refl,
                λ e. tt,
              ),
            ),
          ),
        )

    pub complete_replies : (upto : ℕ) (result : Result (Unit {0}) Refusal) → IsAnswerOf (complete_causes (complete_known upto)) (as_end result)
        → Replies p (Complete h upto) (unit_reply Completed result)
    complete_replies upto result answer =
        let causes = complete_causes (complete_known upto) in
        unit_replies causes (refusals c m (Complete h upto)) m (accepted c m (Complete h upto)) result (complete_exact upto) answer

    poll_exact : (room : ℕ) → AreExact (poll_causes (poll_known room)) (refusals c m (Poll h room))
    poll_exact room = (ap Exactly (sym handler), refl, λ a. (refl, refl, λ b. (refl, refl, λ d. tt)))

    -- no more is offered than is published
    offered_all : available c m h ≤ p.published
    offered_all =
        let front = at_front in
        offered_at_most m (upstreams_of p.graph h) p.published (omega arith)
        (λ u has. (let i = upstream_inside p.graph K.graph h u A.inside has in let d = count_at p.graph p.words u i in let e = K.completed u i in omega arith))

    abbrev Finds : Result Polled Refusal → Type 0
    Finds = DecidesPollOf p.graph p.words h (length r.events) p.pending

    nothing_taken : (room : ℕ) (polled : Polled) → Finds (Ok polled) → (accepted c m (Poll h room)).reply ≡ poll_reply (Ok polled)
    nothing_taken room (Batch first count last) D = absurd D
    nothing_taken room Drained D =
        let closed = K.closed D.0 in let none = closed.1 in let found = D.1 in let cursor = K.cursor in let taken = A.taken in
        let all = owned in let most = offered_all in
        drained_reply c m h room (omega arith) (eq-eqb (word_at p.words halt_word) 1 closed.0) (omega arith)
    nothing_taken room Gating D =
        let u = D.1.0 in let has = D.1.1 in
        let low = offered_low m (upstreams_of p.graph h) u has in let count = count_at p.graph p.words u (upstream_inside p.graph K.graph h u A.inside has) in
        let found = D.1.2 in let more = D.0 in let taken = A.taken in let front = at_front in let cursor = K.cursor in let all = owned in
        gating_reply c m h room (omega arith) (rw (ne_eqb (get_or m.taken h 0) (length m.owners) (λ e. omega arith)) (and-false m.halted)) (omega arith)
    nothing_taken room Idle D =
        let found = D.0 in let cursor = K.cursor in let taken = A.taken in let front = at_front in let all = owned in let most = offered_all in
        idle_reply c m h room (omega arith) (elim (cases_eq (word_at p.words halt_word) 1) [
          | inl on ↦ (let claimed_more = D.1 on in rw (ne_eqb (get_or m.taken h 0) (length m.owners) (λ e. omega arith)) (and-false m.halted))
          | inr off ↦ rw (ne_eqb (word_at p.words halt_word) 1 off) refl
        ]) (omega arith)

    pub poll_replies : (room : ℕ) (result : Result Polled Refusal) → IsAnswerOf (poll_causes (poll_known room)) (as_end result) → Finds result
        → Replies p (Poll h room) (poll_reply result)
    poll_replies room (Ok polled) answer D =
        let none = none_exact (poll_causes (poll_known room)) (refusals c m (Poll h room)) (poll_exact room) answer in
        ap (λ (x : Outcome T). x.reply) (unless-none (refusals c m (Poll h room)) m (accepted c m (Poll h room)) none) ∙ nothing_taken room polled D
    poll_replies room (Err refusal) answer D =
        let first = first_exact refusal (poll_causes (poll_known room)) (refusals c m (Poll h room)) (poll_exact room) answer in
        ap (λ (x : Outcome T). x.reply) (unless-refused refusal (refusals c m (Poll h room)) m (accepted c m (Poll h room)) first)
