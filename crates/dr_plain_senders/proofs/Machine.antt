-- What the machine answers to the entries of a ring's steps.
use Rattle.std.proofs.Common.{◌≡◌, ℕ, zero, suc, ◌+◌, ◌-◌, ◌<◌, ◌≤◌, inl, inr, Bool, true, false, ◌==◌, ◌&&◌, ◌||◌, if◌then◌else◌, min, List, [], ◌∷◌}
use Rattle.std.proofs.Common.{◌++◌, length, get_or, set, map, replicate, Some, None, is_none, sym, refl, ap, ◌∙◌, subst, arith, get_or-set_same}
use Rattle.std.proofs.Common.{get_or-set_other}
use Rattle.std.specs.Prelude.{nat_le, not, flat_map, is_some}
use Rattle.std.specs.List.{range_with_len, filter_map}
use Rattle.std.proofs.lemmas.Bool.{cases_eq, cases_lt, eq-eqb, ne_eqb, lt-ltb, le-ltb, le-leb, lt-leb}
use Rattle.std.proofs.lemmas.List.{length-map, map-append, get_or_append_left, get_or-append_right, get_or_past, get_or-map}
use lib.Seq.{map-set_same}
use mathlib.Core.Option.{some}
use lib.ListN.{get_elem?}
use Rattle.dr_meaning.specs.declared.command.Command.TheVariants.{Claim, Write, Publish, Poll, Complete}
use Rattle.dr_meaning.specs.declared.command.Reply.TheVariants.{Claimed, Written, Published, Batch, Drained, Completed}
use Rattle.dr_graph.specs.Meaning.Graph.{finals}
use Rattle.dr_meaning.specs.Meaning.Machine.{Setup, State, opening, handlers, front, next, available, least_completed, publish_faults, refusals, accepted, step}
use Rattle.dr_meaning.proofs.Leasts.{IsLeast, least_is}
use Rattle.dr_meaning.proofs.Steps.{NoneHold, NoneHold-join, unless-none}
use Rattle.dr_runs.proofs.Elements.{at_below, value_at}
use Rattle.dr_lent.specs.declared.lent.Lent.{Lent}
use Rattle.dr_plain_senders.specs.Meaning.Shape.{Shape, ring_setup}
use Rattle.dr_plain_senders.specs.declared.record.Stage.{Stage}
use Rattle.dr_plain_senders.specs.Meaning.Records.{fresh_stage, published, is_published}
use Rattle.dr_plain_senders.specs.Meaning.Rule.{IsOut}
use Rattle.dr_plain_senders.specs.Meaning.Moments.{stage_at, event_in, event_of}

or_false : (b : Bool) → (b || false) ≡ b
or_false true = refl
or_false false = refl

or_true : (b : Bool) → (b || true) ≡ true
or_true true = refl
or_true false = refl

owners_more : (T : Type 0) (n p : ℕ) → map (λ (t : Stage T). t.owner) (replicate n (fresh_stage {T = T} p)) ≡ replicate n p
owners_more T zero p = refl
owners_more T (suc n) p = ap (λ (xs : List ℕ). p ∷ xs) (owners_more T n p)

module _ {T : Type 0} where
  -- a state by its stages
  abbrev pub shown : Shape T → List (Stage T) → List ℕ → List ℕ → Bool → State T
  shown k stages t d b =
      record (opening (ring_setup k)) {
        owners = map (λ t. t.owner) stages;
        written = λ s. event_of (stage_at stages s);
        published =
            λ s. is_published (stage_at stages s);
        taken = t;
        completed = d;
        halted = b;
      }

  count_owners : (stages : List (Stage T)) → length (map (λ (t : Stage T). t.owner) stages) ≡ length stages
  count_owners stages = length-map stages (λ t. t.owner)

  pub at_stage : (stages : List (Stage T)) (s : ℕ) (t : Stage T) → get_elem? stages s ≡ some t → stage_at stages s ≡ t
  at_stage stages s t at = value_at stages s t (fresh_stage 0) at

  fresh_there : (n p i : ℕ) → (get_or (replicate n (fresh_stage {T = T} p)) i (fresh_stage 0)).lent ≡ None
  fresh_there zero p i = refl
  fresh_there (suc n) p zero = refl
  fresh_there (suc n) p (suc i) = fresh_there n p i

  fresh_after : (stages : List (Stage T)) (p n s : ℕ) → (stage_at stages s).lent ≡ (stage_at (stages ++ replicate n (fresh_stage p)) s).lent
  fresh_after stages p n s =
      let more = replicate n (fresh_stage {T = T} p) in
      elim (cases_lt s (length stages)) [
        | inl lt ↦ (let e = get_or_append_left stages more (fresh_stage 0) s lt in ap (λ (t : Stage T). t.lent) (sym e))
        | inr past ↦ (
            let a = get_or_past stages s (fresh_stage 0) past in let b = get_or-append_right stages more (length stages) s (fresh_stage 0) refl past in
            ap (λ (t : Stage T). t.lent) a ∙ sym (fresh_there n p (s - length stages)) ∙ ap (λ (t : Stage T). t.lent) (sym b))
      ]

  pub claim_step : (k : Shape T) (stages : List (Stage T)) (p n : ℕ) (t d : List ℕ) → p < k.senders → 0 < n → n ≤ k.size → length stages + n ≤ k.limit
      → length stages + n ≤ k.size + least_completed (shown k stages t d false) (finals k.upstreams)
      → step (ring_setup k) (shown k stages t d false)
      (Claim p n) ≡ record {
        reply = Claimed (length stages) (length stages + n - 1);
        values = [];
        state =
            shown k (stages ++ replicate n (fresh_stage p)) t d false;
      }
  claim_step k stages p n t d who some_one fits limit room =
      let m = shown k stages t d false in let len = count_owners stages in let more = replicate n (fresh_stage {T = T} p) in
      let owners : map (λ (t : Stage T). t.owner) stages ++ replicate n p ≡ map (λ (t : Stage T). t.owner) (stages ++ more) =
      ap (λ (xs : List ℕ). map (λ (t : Stage T). t.owner) stages ++ xs) (sym (owners_more T n p)) ∙ sym (map-append (λ (t : Stage T). t.owner) stages more) in
      unless-none (refusals (ring_setup k) m (Claim p n)) m (accepted (ring_setup k) m (Claim p n)) (
        lt-leb k.senders p who,
        (
          rw (ne_eqb n 0 (λ (e : n ≡ 0). omega arith)) (le-ltb k.size n fits),
          (
            refl,
            (
              le-ltb k.limit (length (map (λ (t : Stage T). t.owner) stages) + n) (omega arith),
              (le-ltb (k.size + least_completed m (finals k.upstreams)) (length (map (λ (t : Stage T). t.owner) stages) + n) (omega arith), tt),
            ),
          ),
        ),
      )
      ∙ (λ i. record {
        reply = Claimed (len i) (len i + n - 1);
        values = [];
        state =
            record m {
              owners = owners i;
              written = λ s. event_in (fresh_after stages p n s i);
              published = λ s. is_some (fresh_after stages p n s i);
              taken = t;
              completed =
                  d;
              halted = false;
            };
      })

  -- the stages after one was brought further
  pub stage_after : (stages : List (Stage T)) (s q : ℕ) (u : Stage T) → s < length stages
      → stage_at (set stages s u) q ≡ (if q == s then u else stage_at stages q)
  stage_after stages s q u lt = elim (cases_eq q s) [
    | inl e ↦ rw (eq-eqb q s e) (ap (λ (j : ℕ). stage_at (set stages s u) j) e ∙ get_or-set_same stages s u (fresh_stage 0) lt)
    | inr ne ↦ rw (ne_eqb q s ne) (get_or-set_other stages s q u (fresh_stage 0) ne)
  ]

  pub same_owners : (stages : List (Stage T)) (s : ℕ) (t u : Stage T) → get_elem? stages s ≡ some t → u.owner ≡ t.owner
      → map (λ (x : Stage T). x.owner) (set stages s u) ≡ map (λ (x : Stage T). x.owner) stages
  same_owners stages s t u at same =
      map-set_same (λ (x : Stage T). x.owner) stages s u (fresh_stage 0) (same ∙ ap (λ (x : Stage T). x.owner) (sym (at_stage stages s t at)))

  -- a part of the stages that stays
  pub same_part : {A : Type 0} (part : Stage T → A) (stages : List (Stage T)) (s : ℕ) (t u : Stage T) → get_elem? stages s ≡ some t → part u ≡ part t → (q : ℕ)
      → part (stage_at (set stages s u) q) ≡ part (stage_at stages q)
  same_part part stages s t u at same q = elim (cases_eq q s) [
    | inl e ↦ ap part (ap (λ (j : ℕ). stage_at (set stages s u) j) e ∙ get_or-set_same stages s u (fresh_stage 0) (at_below stages s t at)) ∙ same
        ∙ ap part (sym (at_stage stages s t at)) ∙ ap (λ (j : ℕ). part (stage_at stages j)) (sym e)
    | inr ne ↦ ap part (get_or-set_other stages s q u (fresh_stage 0) ne)
  ]

  pub owner_at : (stages : List (Stage T)) (s : ℕ) (t : Stage T) → get_elem? stages s ≡ some t → get_or (map (λ (x : Stage T). x.owner) stages) s 0 ≡ t.owner
  owner_at stages s t at = get_or-map (λ (x : Stage T). x.owner) stages s (fresh_stage 0) 0 (at_below stages s t at)
      ∙ ap (λ (x : Stage T). x.owner) (at_stage stages s t at)

  -- one of the claimed sequences is written
  abbrev pub wrote : State T → ℕ → T → State T
  wrote m s e = record m { written = λ q. if q == s then Some e else m.written q }

  pub write_step : (k : Shape T) (stages : List (Stage T)) (p s : ℕ) (e : T) (t : Stage T) (ts d : List ℕ) (b : Bool)
      → p < k.senders → get_elem? stages s ≡ some t
      → t.owner ≡ p → t.lent ≡ None
      → step (ring_setup k) (shown k stages ts d b) (Write p s e) ≡ record { reply = Written; values = []; state = wrote (shown k stages ts d b) s e }
  write_step k stages p s e t ts d b who at own unshown =
      let m = shown k stages ts d b in let len = count_owners stages in let lt = at_below stages s t at in
      unless-none (refusals (ring_setup k) m (Write p s e)) m (accepted (ring_setup k) m (Write p s e)) (
        lt-leb k.senders p who,
        (
          lt-leb (length (map (λ (x : Stage T). x.owner) stages)) s (omega arith),
          (
            ap is_published (at_stage stages s t at) ∙ ap is_some unshown,
            (ap not (eq-eqb (get_or (map (λ (x : Stage T). x.owner) stages) s 0) p (owner_at stages s t at ∙ own)), tt),
          ),
        ),
      )

  one_fault : (m : State T) (p s c : ℕ) → c ≡ 1 → (m.published s ≡ false) → (get_or m.owners s 0 ≡ p) → (is_none (m.written s) ≡ false)
      → NoneHold (flat_map (publish_faults m p) (range_with_len s c))
  one_fault m p s c one shown owner whole =
      subst (λ (n : ℕ). NoneHold (flat_map (publish_faults m p) (range_with_len s n))) (sym one)
      (shown, (ap not (eq-eqb (get_or m.owners s 0) p owner), (whole, tt)))

  -- and published
  pub publish_step : (k : Shape T) (stages : List (Stage T)) (p s : ℕ) (l : Lent T) (t : Stage T) (ts d : List ℕ) (b : Bool) → p < k.senders
      → get_elem? stages s ≡ some t → t.owner ≡ p → t.lent ≡ None
      → step (ring_setup k) (wrote (shown k stages ts d b) s l.event) (Publish p s s)
      ≡ record { reply = Published; values = []; state = shown k (set stages s (published l t)) ts d b }
  publish_step k stages p s l t ts d b who at own unshown =
      let m = wrote (shown k stages ts d b) s l.event in let len = count_owners stages in let lt = at_below stages s t at in let u = published l t in
      let here : stage_at (set stages s u) s ≡ u = get_or-set_same stages s u (fresh_stage 0) lt in
      let covers : (q : ℕ)
      → (is_published (stage_at stages q) || (nat_le s q && nat_le q s)) ≡ is_published (stage_at (set stages s u) q) = λ q. elim (cases_eq q s) [
        | inl same ↦ rw (le-leb s q (omega arith), le-leb q s (omega arith)) (or_true (is_published (stage_at stages q))
            ∙ sym (ap (λ (j : ℕ). is_published (stage_at (set stages s u) j)) same ∙ ap is_published here))
        | inr ne ↦ (let stays : is_published (stage_at stages q) ≡ is_published (stage_at (set stages s u) q) =
            sym (ap is_published (get_or-set_other stages s q u (fresh_stage 0) ne)) in
            elim (cases_lt q s) [
              | inl below ↦ rw (lt-leb s q below) (or_false (is_published (stage_at stages q)) ∙ stays)
              | inr above ↦ rw (le-leb s q above, lt-leb q s (omega arith)) (or_false (is_published (stage_at stages q)) ∙ stays)
            ])
      ] in
      let event : (q : ℕ)
      → (if q == s then Some l.event else event_of (stage_at stages q)) ≡ event_of (stage_at (set stages s u) q) = λ q. elim (cases_eq q s) [
        | inl same ↦ rw (eq-eqb q s same) (sym (ap (λ (j : ℕ). event_of (stage_at (set stages s u) j)) same ∙ ap event_of here))
        | inr ne ↦ rw (ne_eqb q s ne) (sym (ap event_of (get_or-set_other stages s q u (fresh_stage 0) ne)))
      ] in
      let whole : is_none (m.written s) ≡ false = ap (λ (c : Bool). is_none (if c then Some l.event else event_of (stage_at stages s))) (eq-eqb s s refl) in
      let owners = same_owners stages s t u at refl in
      unless-none (refusals (ring_setup k) m (Publish p s s)) m (accepted (ring_setup k) m (Publish p s s)) (
        lt-leb k.senders p who,
        (
          le-ltb s s (omega arith),
          (
            lt-leb (length (map (λ (x : Stage T). x.owner) stages)) s (omega arith),
            NoneHold-join (flat_map (publish_faults m p) (range_with_len s (s + 1 - s))) _
                (one_fault m p s (s + 1 - s) (omega arith) (ap is_published (at_stage stages s t at) ∙ ap is_some unshown) (owner_at stages s t at ∙ own) whole)
                (refl, tt),
          ),
        ),
      )
      ∙ (λ i. record {
        reply = Published;
        values = [];
        state =
            record m {
              owners = sym owners i;
              written = λ q. event q i;
              published = λ q. covers q i;
              taken = ts;
              completed = d;
              halted = b;
            };
      })

  -- so many are taken that the barrier lets through
  pub take_step : (c : Setup) (m : State T) (h n : ℕ) (events : List T) → h < handlers c → m.retired h ≡ false → 0 < n
      → get_or m.taken h 0 + n ≤ available c m h → filter_map m.written (range_with_len (get_or m.taken h 0) n) ≡ events
      → step c m (Poll h n) ≡ record {
        reply = Batch (get_or m.taken h 0) n (get_or m.taken h 0 + n == available c m h);
        values = events;
        state = record m { taken = set m.taken h (get_or m.taken h 0 + n) };
      }
  take_step c m h n events inside here some_one below are =
      let at = get_or m.taken h 0 in let to = available c m h in let all : min (to - at) n ≡ n = omega arith in
      unless-none (refusals c m (Poll h n)) m (accepted c m (Poll h n))
      (lt-leb (handlers c) h inside, (here, (ne_eqb n 0 (λ (e : n ≡ 0). omega arith), tt)))
      ∙ rw (lt-ltb at to (omega arith))
      (λ i. record {
        reply = Batch at (all i) (at + all i == to);
        values = filter_map m.written (range_with_len at (all i));
        state = record m { taken = set m.taken h (at + all i) };
      })
      ∙ (λ i. record { reply = Batch at n (at + n == to); values = are i; state = record m { taken = set m.taken h (at + n) } })

  pub drained_step : (c : Setup) (m : State T) (h : ℕ) → h < handlers c → m.retired h ≡ false → m.halted ≡ true → available c m h ≤ next m
      → get_or m.taken h 0 ≡ next m
      → step c m (Poll h 1) ≡ record { reply = Drained; values = []; state = m }
  drained_step c m h inside here halted none all =
      unless-none (refusals c m (Poll h 1)) m (accepted c m (Poll h 1)) (lt-leb (handlers c) h inside, (here, (refl, tt)))
      ∙ rw (le-ltb (get_or m.taken h 0) (available c m h) (omega arith), halted, eq-eqb (get_or m.taken h 0) (next m) all) refl

  pub complete_step : (c : Setup) (m : State T) (h n : ℕ) → h < handlers c → m.retired h ≡ false → get_or m.completed h 0 ≤ n → n ≤ get_or m.taken h 0
      → step c m (Complete h n) ≡ record { reply = Completed; values = []; state = record m { completed = set m.completed h n } }
  complete_step c m h n inside here rise le =
      unless-none (refusals c m (Complete h n)) m (accepted c m (Complete h n))
      (lt-leb (handlers c) h inside, (here, (le-ltb n (get_or m.completed h 0) rise, (le-ltb (get_or m.taken h 0) n le, tt))))

  -- the front is within what is claimed, and beyond what is published from the first on
  pub front_within : (k : Shape T) (stages : List (Stage T)) (t d : List ℕ) (b : Bool) → front (shown k stages t d b) ≤ length stages
  front_within k stages t d b =
      let m = shown k stages t d b in let l : IsLeast m.published (next m) (front m) = least_is m.published (next m) in let a = l.within in
      let e = count_owners stages in omega arith

  pub front_beyond : (k : Shape T) (stages : List (Stage T)) (t d : List ℕ) (b : Bool) (n : ℕ) → n < length stages → ((s : ℕ) → s ≤ n → IsOut stages s)
      → n < front (shown k stages t d b)
  front_beyond k stages t d b n lt all =
      let m = shown k stages t d b in let l : IsLeast m.published (next m) (front m) = least_is m.published (next m) in let e = count_owners stages in
      elim (cases_lt n (front m)) [
        | inl more ↦ more
        | inr less ↦ absurd (
            let x = all (front m) less in let off : m.published (front m) ≡ false = l.here (omega arith) in
            let on : m.published (front m) ≡ true = ap is_published (at_stage stages (front m) x.1.0 x.1.1) ∙ ap is_some x.1.2 in cc)
      ]

  -- the front is no further than what is not published
  pub front_at_most : (k : Shape T) (stages : List (Stage T)) (t d : List ℕ) (b : Bool) (n : ℕ) → is_published (stage_at stages n) ≡ false
      → front (shown k stages t d b) ≤ n
  front_at_most k stages t d b n off =
      let m = shown k stages t d b in let l : IsLeast m.published (next m) (front m) = least_is m.published (next m) in
      elim (cases_lt n (front m)) [
        | inl beyond ↦ absurd (let on = l.below n beyond in cc)
        | inr within ↦ within
      ]
