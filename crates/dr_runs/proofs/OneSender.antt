-- What the machine of one producer answers to the entries of a ring's steps.
use Rattle.std.proofs.Common.{◌≡◌, ℕ, zero, suc, ◌+◌, ◌-◌, ◌<◌, ◌≤◌, inl, inr, Bool, true, false, ◌==◌, ◌&&◌, ◌||◌, min, List, [], ◌∷◌, ◌++◌}
use Rattle.std.proofs.Common.{length, get_or, set, replicate, Option, None, is_none, sym, refl, ap, ◌∙◌, subst, arith}
use Rattle.std.specs.Prelude.{nat_lt, nat_le, not, flat_map}
use Rattle.std.specs.List.{range_with_len, filter_map}
use Rattle.std.proofs.Math.Bool.{and-false}
use Rattle.std.proofs.Math.Nat.{suc-add, zero-add}
use Rattle.std.proofs.lemmas.Bool.{cases_lt, eq-eqb, ne_eqb, lt-ltb, le-ltb, le-leb, lt-leb}
use Rattle.std.proofs.lemmas.List.{length-replicate, get_or-replicate}
use Rattle.dr_meaning.specs.declared.mode.Mode.TheVariants.{Single}
use Rattle.dr_meaning.specs.declared.command.Command.{Command}
use Rattle.dr_meaning.specs.declared.command.Command.TheVariants.{Claim, Publish, Poll, Complete}
use Rattle.dr_meaning.specs.declared.command.Reply.{Reply}
use Rattle.dr_meaning.specs.declared.command.Reply.TheVariants.{Claimed, Published, Batch, Drained, Completed}
use Rattle.dr_graph.specs.Meaning.Graph.{finals}
use Rattle.dr_meaning.specs.Meaning.Machine.{Setup, State, Outcome, opening, least_outside, front, available, least_completed, publish_faults, refusals, accepted, step}
use Rattle.dr_meaning.specs.Meaning.Transcript.{Transcript, LeadsFrom}
use Rattle.dr_meaning.proofs.Steps.{NoneHold, NoneHold-join, unless-none}
use Rattle.dr_runs.specs.Entries.{entry}

abbrev pub owners : ℕ → List ℕ
owners n = replicate n 0

pub count_owners : (n : ℕ) → length (owners n) ≡ n
count_owners n = let z : ℕ = 0 in length-replicate n z

-- the least number that is not below f, up to n
below_all : (f n : ℕ) → least_outside (λ s. nat_lt s f) n ≡ min n f
unfolding least_outside
below_all f zero = omega arith
below_all f (suc b) =
    let rest = below_all f b in
    elim (cases_lt b f) [
      | inl lt ↦ (let here : least_outside (λ s. nat_lt s f) b ≡ b = omega arith in
          rw (eq-eqb (least_outside (λ s. nat_lt s f) b) b here, lt-ltb b f lt) (omega arith))
      | inr ge ↦ rw (le-ltb b f ge, and-false (least_outside (λ s. nat_lt s f) b == b)) (omega arith)
    ]

more_owners : (n j : ℕ) → owners n ++ owners j ≡ owners (n + j)
more_owners zero j = ap owners (sym (zero-add j))
more_owners (suc n) j = ap (λ (xs : List ℕ). 0 ∷ xs) (more_owners n j) ∙ ap owners (sym (suc-add n j))

-- each claimed sequence is of the one producer
pub owner_is : (n s : ℕ) → s < n → (get_or (owners n) s 0 == 0) ≡ true
owner_is n s lt = let z : ℕ = 0 in eq-eqb (get_or (owners n) s 0) 0 (get_or-replicate n s z z lt)

covers_below : (f q s : ℕ) → f < q → (nat_lt s f || (nat_le f s && nat_le s (q - 1))) ≡ nat_lt s q
covers_below f q s lt =
    elim (cases_lt s f) [
      | inl below ↦ rw (lt-ltb s f below) (sym (lt-ltb s q (omega arith)))
      | inr above ↦ rw (le-ltb s f above, le-leb f s above) (elim (cases_lt s q) [
        | inl in_it ↦ rw (le-leb s (q - 1) (omega arith)) (sym (lt-ltb s q in_it))
        | inr past ↦ rw (lt-leb s (q - 1) (omega arith)) (sym (le-ltb s q past))
      ])
    ]

module _ {T : Type 0} where
  -- from a state the machine gives these replies and events, and ends in another: one entry more
  pub leads_one : (c : Setup) (command : Command T) (reply : Reply) (values : List T) (rest : Transcript T) (m n end : State T)
      → step c m command ≡ record { reply = reply; values = values; state = n } → LeadsFrom c n rest end
      → LeadsFrom c m (entry command reply values ++ rest) end
  leads_one c command reply values rest m n end is leads = (
    ap (λ (o : Outcome T). o.reply) is,
    ap (λ (o : Outcome T). o.values) is,
    subst (λ (x : State T). LeadsFrom c x rest end) (sym (ap (λ (o : Outcome T). o.state) is)) leads,
  )

-- the machine of one producer
abbrev pub setup_of : List (List ℕ) → ℕ → ℕ → Setup
setup_of ups size limit = record { upstreams = ups; size = size; mode = Single; limit = limit }

module _ {T : Type 0} (ups : List (List ℕ)) (size limit : ℕ) where
  -- a state of which n sequences are claimed, with what is written to each, and all below f published; the rest is as at the opening
  abbrev pub shown : ℕ → List (Option T) → ℕ → List ℕ → List ℕ → Bool → State T
  shown n vs f t d b = record (opening (setup_of ups size limit)) {
    owners = replicate n 0;
    written = λ s. get_or vs s None;
    published = λ s. nat_lt s f;
    taken = t;
    completed = d;
    halted = b;
  }

  pub shown_front : (n : ℕ) (vs : List (Option T)) (f : ℕ) (t d : List ℕ) (b : Bool) → f ≤ n → front (shown n vs f t d b) ≡ f
  shown_front n vs f t d b le = let all = below_all f (length (owners n)) in let e = count_owners n in omega arith

  -- a claim, of which the sequences have these writes
  pub claim_step : (n j : ℕ) (vs vs' : List (Option T)) (f : ℕ) (t d : List ℕ) → ((s : ℕ) → get_or vs s None ≡ get_or vs' s None) → 0 < j → j ≤ size → n + j ≤ limit
      → n + j ≤ size + least_completed (shown n vs f t d false) (finals ups)
      → step (setup_of ups size limit) (shown n vs f t d false) (Claim 0 j) ≡ record { reply = Claimed n (n + j - 1); values = []; state = shown (n + j) vs' f t d false }
  claim_step n j vs vs' f t d same some_one fits most room =
      let m = shown n vs f t d false in let len = count_owners n in
      unless-none (refusals (setup_of ups size limit) m (Claim 0 j)) m (accepted (setup_of ups size limit) m (Claim 0 j)) (
        refl,
        (
          rw (ne_eqb j 0 (λ (e : j ≡ 0). omega arith)) (le-ltb size j fits),
          (
            refl,
            (
              le-ltb limit (length (owners n) + j) (omega arith),
              (le-ltb (size + least_completed m (finals ups)) (length (owners n) + j) (omega arith), tt),
            ),
          ),
        ),
      )
      ∙ (λ i. record { reply = Claimed (len i) (len i + j - 1); values = []; state = record m { owners = more_owners n j i; written = λ s. same s i } })

  publishable : (n : ℕ) (vs : List (Option T)) (f : ℕ) (t d : List ℕ) (b : Bool) (lo c : ℕ) → f ≤ lo → lo + c ≤ n
      → ((s : ℕ) → lo ≤ s → s < lo + c → is_none (get_or vs s None) ≡ false)
      → NoneHold (flat_map (publish_faults (shown n vs f t d b) 0) (range_with_len lo c))
  publishable n vs f t d b lo zero le within all = tt
  publishable n vs f t d b lo (suc c) le within all = (
    le-ltb lo f le,
    (
      ap not (owner_is n lo (omega arith)),
      (all lo (omega arith) (omega arith), publishable n vs f t d b (lo + 1) c (omega arith) (omega arith) (λ s a l. all s (omega arith) (omega arith))),
    ),
  )

  pub publish_step : (n : ℕ) (vs : List (Option T)) (f : ℕ) (t d : List ℕ) (b : Bool) (q : ℕ) → f < q → q ≤ n → ((s : ℕ) → f ≤ s → s < q → is_none (get_or vs s None) ≡ false)
      → step (setup_of ups size limit) (shown n vs f t d b) (Publish 0 f (q - 1)) ≡ record { reply = Published; values = []; state = shown n vs q t d b }
  publish_step n vs f t d b q lt within all =
      let m = shown n vs f t d b in let len = count_owners n in
      let at : f ≡ front m = sym (shown_front n vs f t d b (omega arith)) in
      unless-none (refusals (setup_of ups size limit) m (Publish 0 f (q - 1))) m (accepted (setup_of ups size limit) m (Publish 0 f (q - 1))) (
        refl,
        (
          le-ltb (q - 1) f (omega arith),
          (
            lt-leb (length (owners n)) (q - 1) (omega arith),
            NoneHold-join (flat_map (publish_faults m 0) (range_with_len f (q - 1 + 1 - f))) _
                (publishable n vs f t d b f (q - 1 + 1 - f) (omega arith) (omega arith) (λ s a l. all s a (omega arith)))
                (ap not (eq-eqb f (front m) at), tt),
          ),
        ),
      )
      ∙ (λ i. record { reply = Published; values = []; state = record m { published = λ s. covers_below f q s lt i } })

  -- so many are taken that the barrier lets through
  pub take_step : (m : State T) (h n : ℕ) (events : List T) → h < length ups → m.retired h ≡ false → 0 < n
      → get_or m.taken h 0 + n ≤ available (setup_of ups size limit) m h → filter_map m.written (range_with_len (get_or m.taken h 0) n) ≡ events
      → step (setup_of ups size limit) m (Poll h n) ≡ record {
        reply = Batch (get_or m.taken h 0) n (get_or m.taken h 0 + n == available (setup_of ups size limit) m h);
        values = events;
        state = record m { taken = set m.taken h (get_or m.taken h 0 + n) };
      }
  take_step m h n events inside here some_one below are =
      let at = get_or m.taken h 0 in let to = available (setup_of ups size limit) m h in let all : min (to - at) n ≡ n = omega arith in
      unless-none (refusals (setup_of ups size limit) m (Poll h n)) m (accepted (setup_of ups size limit) m (Poll h n))
      (lt-leb (length ups) h inside, (here, (ne_eqb n 0 (λ (e : n ≡ 0). omega arith), tt)))
      ∙ rw (lt-ltb at to (omega arith))
      (λ i. record { reply = Batch at (all i) (at + all i == to); values = filter_map m.written (range_with_len at (all i)); state = record m { taken = set m.taken h (at + all i) } })
      ∙ (λ i. record { reply = Batch at n (at + n == to); values = are i; state = record m { taken = set m.taken h (at + n) } })

  pub drained_step : (n : ℕ) (vs : List (Option T)) (f : ℕ) (t d : List ℕ) (h : ℕ) → h < length ups
      → available (setup_of ups size limit) (shown n vs f t d true) h ≤ n → get_or t h 0 ≡ n
      → step (setup_of ups size limit) (shown n vs f t d true) (Poll h 1) ≡ record { reply = Drained; values = []; state = shown n vs f t d true }
  drained_step n vs f t d h inside none all =
      let m = shown n vs f t d true in let len = count_owners n in
      unless-none (refusals (setup_of ups size limit) m (Poll h 1)) m (accepted (setup_of ups size limit) m (Poll h 1)) (lt-leb (length ups) h inside, (refl, (refl, tt)))
      ∙ rw (le-ltb (get_or t h 0) (available (setup_of ups size limit) m h) (omega arith), eq-eqb (get_or t h 0) (length (owners n)) (omega arith)) refl

  pub complete_step : (m : State T) (h n : ℕ) → h < length ups → m.retired h ≡ false → get_or m.completed h 0 ≤ n → n ≤ get_or m.taken h 0
      → step (setup_of ups size limit) m (Complete h n) ≡ record { reply = Completed; values = []; state = record m { completed = set m.completed h n } }
  complete_step m h n inside here rise le =
      unless-none (refusals (setup_of ups size limit) m (Complete h n)) m (accepted (setup_of ups size limit) m (Complete h n))
      (lt-leb (length ups) h inside, (here, (le-ltb n (get_or m.completed h 0) rise, (le-ltb (get_or m.taken h 0) n le, tt))))
