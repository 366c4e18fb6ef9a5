-- A call of the core is the machine's step, on each state that the core shows.
use Rattle.std.proofs.Common.{◌≡◌, ℕ, ◌+◌, ◌-◌, ◌<◌, ◌≤◌, ◌≢◌, inl, inr, true, false, cond, List, [], ◌++◌, arith}
use Rattle.std.proofs.Common.{refl, ap, ◌∙◌, length, map, min, get_or, replicate, slice_index, slice_set}
use Rattle.std.proofs.lemmas.Bool.{cond_both, eqb-true, or_from, cases_lt, lt-leb, le-ltb, ne_eqb}
use Rattle.std.proofs.lemmas.List.{length-append, length-replicate, get_or_append_left, get_or-append_right, get_or-replicate}
use Rattle.std.specs.Prelude.{◌==◌}
use Rattle.std.proofs.lemmas.List.FromFn.{get_or-map-range_with_len}
use Rattle.dr_meaning.specs.declared.command.Command.{Command}
use Rattle.dr_meaning.specs.declared.command.Command.TheVariants.{Claim, Complete, Halt}
use Rattle.dr_meaning.specs.declared.command.Reply.{Reply}
use Rattle.dr_meaning.specs.declared.command.Reply.TheVariants.{Claimed, Completed, Halting, Refused}
use Rattle.dr_meaning.specs.declared.refusal.Refusal.{Refusal}
use Rattle.dr_graph.specs.Meaning.Graph.{finals_without, least_of}
use Rattle.dr_graph.proofs.Gating.{finals_agree, least_gates}
use Rattle.dr_meaning.specs.Meaning.Machine.{Setup, State, least_outside, handlers, producers, next, front, gating, least_completed, refusals, accepted}
use Rattle.dr_core.specs.Calls.CoreView.{Known, Nothing, ClaimedBy, CoreView, recent_of, known_at, retired_in, gate_of}
use Rattle.dr_core.specs.Calls.Shows.{KnowsRecents, Shows, IsStep, CanComplete}
use Rattle.dr_core.specs.Inside.Fields.{IsWhole}
use Rattle.dr_core.proofs.Shown.{same_next, same_front, same_taken, same_completed, same_halted, same_retired}
use Rattle.dr_meaning.proofs.Leasts.{IsLeast, least_is, least_one}
use Rattle.dr_meaning.proofs.Sound.{orderly, set_count}
use Rattle.dr_meaning.proofs.Steps.{NoneHold, Refuses, unless-none, unless-refused}

-- in a state the machine accepts a command with this reply and these events, and what it leaves is shown
pub record Accepts {E : Type 0} (c : Setup) (m : State E) (command : Command E) (reply : Reply) (values : List E) (new : CoreView E) : Type 0 where
  pub passes : NoneHold (refusals c m command)
  pub replies : (accepted c m command).reply ≡ reply
  pub hands_out : (accepted c m command).values ≡ values
  pub shown : Shows new (accepted c m command).state

-- where no test holds, what is to show is of the accepted command
pub accepted_step : {E : Type 0} {old new : (CoreView E)} {command : (Command E)} {reply : Reply} {values : List E} → new.setup ≡ old.setup → new.names ≡ old.names
    → ((m : State E) → Shows old m → Accepts old.setup m command reply values new) → IsStep old command reply values new
accepted_step {E} {old = old} {command = command} same named accepts =
    let is = λ (m : State E) (sh : Shows old m). unless-none (refusals old.setup m command) m (accepted old.setup m command) (accepts m sh).passes in
    record {
      same_setup = same;
      same_names = named;
      replies = λ m sh. ap (λ o. o.reply) (is m sh) ∙ (accepts m sh).replies;
      hands_out = λ m sh. ap (λ o. o.values) (is m sh) ∙ (accepts m sh).hands_out;
      shown = λ m sh. rw (is m sh) (accepts m sh).shown;
    }

pub refused_step : {E : Type 0} (v : CoreView E) (command : Command E) (r : Refusal) → ((m : State E) → Shows v m → Refuses r (refusals v.setup m command))
    → IsStep v command (Refused r) [] v
refused_step {E} v command r refuses =
    let is = λ (m : State E) (sh : Shows v m). unless-refused r (refusals v.setup m command) m (accepted v.setup m command) (refuses m sh) in
    record {
      same_setup = refl;
      same_names = refl;
      replies = λ m sh. ap (λ o. o.reply) (is m sh);
      hands_out = λ m sh. ap (λ o. o.values) (is m sh);
      shown = λ m sh. rw (is m sh) sh;
    }

pub halt_step : {E : Type 0} (v : CoreView E) → IsStep v Halt Halting [] (record v { halted = true })
halt_step v = accepted_step refl refl (λ m sh. record {
  passes = tt;
  replies = refl;
  hands_out = refl;
  shown = record { counts = sh.counts; flags = λ i. record (sh.flags i) { halted = true }; recents = sh.recents };
})

pub complete_step : {E : Type 0} (v : CoreView E) (h upto : ℕ) → CanComplete v h upto
    → IsStep v (Complete h upto) Completed [] (record v { completed = slice_set v.completed h upto })
complete_step v h upto can = accepted_step refl refl (λ m sh. record {
  passes =
      (lt-leb _ _ can.handler, (same_retired sh h ∙ can.left, (rw (same_completed sh) (le-ltb _ _ can.completed), (rw (same_taken sh) (le-ltb _ _ can.taken), tt))));
  replies = refl;
  hands_out = refl;
  shown = record { counts = λ i. record (sh.counts i) { completed = slice_set (sh.counts i).completed h upto }; flags = sh.flags; recents = sh.recents };
})

-- the claim's gate is the least completed count that the core finds
pub gate_same : {E : Type 0} (v : CoreView E) (m : State E) → Shows v m → least_completed m (gating v.setup m) ≡ gate_of v
gate_same v m sh =
    ap (λ fs. least_of (map (λ h. slice_index m.completed h) fs)) (finals_agree v.setup.upstreams m.retired (retired_in v) (same_retired sh))
    ∙ ap (λ cs. least_of (map (λ h. slice_index cs h) (finals_without v.setup.upstreams (retired_in v)))) (same_completed sh)

module _ {E : Type 0} (v : CoreView E) (h upto : ℕ) (whole : IsWhole v) (can : CanComplete v h upto) where
  abbrev counts : List ℕ
  counts = slice_set v.completed h upto

  count_is : (k : ℕ) → slice_index counts k ≡ cond (k == h) upto (slice_index v.completed k)
  count_is k =
      let len : length v.completed ≡ handlers v.setup = whole.completed_len in
      let inside : h < handlers v.setup = can.handler in
      set_count v.completed h upto k (omega arith)

  pub completed_grows : (k : ℕ) → slice_index v.completed k ≤ slice_index counts k
  completed_grows k =
      rw (count_is k) (cond_both (k == h) upto (slice_index v.completed k) (λ n. slice_index v.completed k ≤ n)
      (λ y. (let e : k ≡ h = eqb-true k h y in rw e can.completed)) (λ n. omega arith))

-- the owners after a claim
owner_before : (owners : List ℕ) (n p s : ℕ) → s < length owners → slice_index (owners ++ replicate n p) s ≡ slice_index owners s
owner_before owners n p s l = get_or_append_left owners (replicate n p) 0 s l

owner_after : (owners : List ℕ) (n p s : ℕ) → length owners ≤ s → s < length owners + n → slice_index (owners ++ replicate n p) s ≡ p
owner_after owners n p s l g = get_or-append_right owners (replicate n p) (length owners) s 0 refl l ∙ get_or-replicate n (s - length owners) p 0 (omega arith)

-- a recent sequence is found among the last claimed
pub known_at-recent : {E : Type 0} (known : ℕ → Known E) (next size s : ℕ) → s < next → next ≤ s + size
    → get_or (recent_of known next size) (s - (next - size)) Nothing ≡ known s
known_at-recent known next size s claimed near =
    get_or-map-range_with_len known (next - size) (min next size) (s - (next - size)) s Nothing (omega arith) (omega arith)

-- what a claim leaves known: the fresh sequences are claimed, and of the others as much as before
pub record ClaimsKnown {E : Type 0} (v : CoreView E) (p n : ℕ) (known : ℕ → Known E) : Type 0 where
  pub fresh : (s : ℕ) → v.next ≤ s → s < v.next + n → known s ≡ ClaimedBy p
  pub kept : (s : ℕ) → s < v.next → v.next + n ≤ s + v.setup.size → known s ≡ known_at v s

module _ {E : Type 0} (v : CoreView E) (p n : ℕ) (known : ℕ → Known E) (knows : ClaimsKnown v p n known) where
  more_claimed : (m : State E) → Shows v m → length (m.owners ++ replicate n p) ≡ v.next + n
  more_claimed m sh = length-append m.owners (replicate n p) ∙ ap (λ k. length m.owners + k) (length-replicate n p) ∙ ap (λ k. k + n) (same_next sh)

  -- what is claimed is not published yet, so the front stays
  front_stays : (m : State E) → Shows v m → least_outside m.published (length (m.owners ++ replicate n p)) ≡ v.front
  front_stays m sh =
      let least : IsLeast m.published (next m) (front m) = least_is m.published (next m) in
      let here : next m ≡ v.next = same_next sh in
      let same : front m ≡ v.front = same_front sh in
      let more : length (m.owners ++ replicate n p) ≡ v.next + n = more_claimed m sh in
      least_one m.published (length (m.owners ++ replicate n p)) _ _ (least_is m.published (length (m.owners ++ replicate n p)))
      (record {
        within = (let w : front m ≤ next m = least.within in omega arith);
        below = λ k l. least.below k (omega arith);
        here = λ l. elim (cases_lt v.front v.next) [
          | inl lt ↦ rw same at (least.here (omega arith))
          | inr ge ↦ (sh.unclaimed v.front ge).0
        ];
      })

  claimed_recents : n ≤ v.setup.size → (m : State E) → Shows v m
      → KnowsRecents v.setup.size (v.next + n) (known_at (record v { next = v.next + n; recent = recent_of known (v.next + n) v.setup.size }))
      (m.owners ++ replicate n p) m.published m.written
  claimed_recents fits m sh =
      let here : length m.owners ≡ v.next = same_next sh in
      record {
        recent = λ s l r. rw (known_at-recent known (v.next + n) v.setup.size s l r) (elim (cases_lt s v.next) [
          | inl old ↦ (let owner : slice_index (m.owners ++ replicate n p) s ≡ slice_index m.owners s = owner_before m.owners n p s (omega arith) in
              rw (knows.kept s old r, owner) (sh.recent s old (omega arith)))
          | inr fresh ↦ rw (knows.fresh s fresh l) (owner_after m.owners n p s (omega arith) (omega arith), (sh.unclaimed s fresh).0, (sh.unclaimed s fresh).1)
        ]);
        unclaimed = λ s g. sh.unclaimed s (omega arith);
      }

  pub claim_step : p < producers v.setup.mode → n ≢ 0 → n ≤ v.setup.size → v.halted ≡ false → v.next + n ≤ v.setup.limit
      → v.next + n ≤ v.setup.size + gate_of v
      → IsStep v (Claim p n) (Claimed v.next (v.next + n - 1)) [] (record v { next = v.next + n; recent = recent_of known (v.next + n) v.setup.size })
  claim_step producer some fits going limit room = accepted_step refl refl (λ m sh. let here : next m ≡ v.next = same_next sh in record {
    passes = (
      lt-leb _ _ producer,
      (
        or_from _ _ (ne_eqb n 0 some) (le-ltb _ _ fits),
        (
          same_halted sh ∙ going,
          (
            rw here (le-ltb _ _ limit),
            (rw (here, gate_same v m sh) (le-ltb _ _ room), tt),
          ),
        ),
      ),
    );
    replies = rw here;
    hands_out = refl;
    shown = record {
      counts = λ i. record (sh.counts i) { next = more_claimed m sh i; front = front_stays m sh i };
      flags = sh.flags;
      recents = claimed_recents fits m sh;
    };
  })

-- the least of the finals' counts is the least of all that are left
pub finals_least : {E : Type 0} (v : CoreView E) → IsWhole v → (h : ℕ) → h < handlers v.setup → retired_in v h ≡ false → gate_of v ≤ slice_index v.completed h
finals_least v whole h inside left =
    least_gates v.setup.upstreams whole.graph.gate (retired_in v) (λ k. slice_index v.completed k) (orderly whole.order) h inside left
