-- Claims wait for the handlers that hold them up, and for no others.
use Rattle.std.proofs.Common.{◌≡◌, ℕ, zero, suc, ◌+◌, ◌-◌, ◌<◌, ◌≤◌, inl, inr, min, Bool, true, false, List, [], ◌∷◌, arith, refl, sym, ap, subst, ◌∙◌}
use Rattle.std.proofs.Common.{length, map, filter, slice_index, slice_set}
use Rattle.std.specs.Prelude.{◌⊎◌, ◌==◌, nat_lt, if◌then◌else◌, get_or, Contains}
use Rattle.std.specs.List.{range_with_len}
use Rattle.std.proofs.lemmas.Bool.{cond_both, and_parts, and_cases, eq-eqb, eqb-true, eqb-false, false≢true, ltb-false, or_parts}
use Rattle.std.proofs.lemmas.List.{get_or-set_other}
use Rattle.std.proofs.lemmas.List.FromFn.{length-range_with_len, get_or-range_with_len}
use Rattle.dr_seq.specs.declared.event.Event.{Event}
use Rattle.dr_graph.specs.Meaning.Graph.{finals_without, is_final_without, least_of}
use Rattle.dr_graph.proofs.Gating.{least_above_some, least_among}
use Rattle.dr_meaning.specs.declared.command.Command.TheVariants.{Claim, Complete}
use Rattle.dr_meaning.specs.declared.command.Reply.{Reply}
use Rattle.dr_meaning.specs.declared.command.Reply.TheVariants.{Claimed}
use Rattle.dr_meaning.specs.Meaning.Machine.{Outcome, Setup, State, accepted, gate, gating, handlers, next, refusals}
use Rattle.dr_meaning.specs.Meaning.Progress.{after, reply_to}
use Rattle.dr_meaning.proofs.Leasts.{least_of-one}
use Rattle.dr_meaning.proofs.Steps.{unless-cases}
use Rattle.dr_drive.specs.Meaning.StateLine.{room}
use Rattle.dr_show.specs.Meaning.StateText.{handler_of}

first_or_later : (x : ℕ) (xs : List ℕ) (f i : ℕ) → i < length (x ∷ xs) → get_or (x ∷ xs) i f ≡ f → (x ≡ f) ⊎ Contains xs f
first_or_later x xs f zero lt at = inl at
first_or_later x xs f (suc i) lt at = inr (i, omega arith, at)

-- what a filter keeps of a list passes
kept_passes : (p : ℕ → Bool) (xs : List ℕ) (f : ℕ) → Contains (filter p xs) f → p f ≡ true
kept_passes p [] f has = absurd (let l : has.0 < 0 = has.1 in omega arith)
kept_passes p (x ∷ xs) f has =
    cond_both (p x) (x ∷ filter p xs) (filter p xs) (λ ys. Contains ys f → p f ≡ true)
    (λ yes kept. elim (first_or_later x (filter p xs) f kept.0 kept.1 kept.2) [
      | inl e ↦ ap p (sym e) ∙ yes
      | inr later ↦ kept_passes p xs f later
    ])
    (λ no kept. kept_passes p xs f kept)
    has

-- what passes of a list is kept
passing_kept : (p : ℕ → Bool) (xs : List ℕ) (f : ℕ) → Contains xs f → p f ≡ true → Contains (filter p xs) f
passing_kept p [] f has passing = absurd (let l : has.0 < 0 = has.1 in omega arith)
passing_kept p (x ∷ xs) f has passing =
    elim (first_or_later x xs f has.0 has.1 has.2) [
      | inl e ↦ cond_both (p x) (x ∷ filter p xs) (filter p xs) (λ ys. Contains ys f) (λ y. (0, omega arith, e))
          (λ n. absurd (false≢true (sym n ∙ ap p e ∙ passing)))
      | inr later ↦ (let rest : Contains (filter p xs) f = passing_kept p xs f later passing in
          cond_both (p x) (x ∷ filter p xs) (filter p xs) (λ ys. Contains ys f) (λ y. (suc rest.0, omega (arith, rest.1), rest.2)) (λ n. rest))
    ]

in_range : (n h : ℕ) → h < n → Contains (range_with_len 0 n) h
in_range n h lt = (h, rw length-range_with_len lt, rw get_or-range_with_len (omega arith))

final_is_kept : (graph : List (List ℕ)) (gone : ℕ → Bool) (h : ℕ) → h < length graph → is_final_without graph gone h ≡ true
    → Contains (finals_without graph gone) h
final_is_kept graph gone h lt passing =
    passing_kept (is_final_without graph gone) (range_with_len 0 (length graph)) h (in_range (length graph) h lt) passing

-- a count of one handler is raised, and the others stay
raised : (counts : List ℕ) (h upto k : ℕ) → slice_index counts h ≤ upto → slice_index counts k ≤ slice_index (slice_set counts h upto) k
raised [] h upto k more = omega arith
raised (n ∷ ns) zero upto zero more = more
raised (n ∷ ns) zero upto (suc k) more = omega arith
raised (n ∷ ns) (suc h) upto zero more = omega arith
raised (n ∷ ns) (suc h) upto (suc k) more = raised ns h upto k more

other_stays : (counts : List ℕ) (h upto k : ℕ) → (k ≡ h → ⊥) → slice_index (slice_set counts h upto) k ≡ slice_index counts k
other_stays counts h upto k other = get_or-set_other counts h k upto 0 other

-- the least count of some handlers stays where one of those that have it stays, and none falls
least_stays : (f g : ℕ → ℕ) (hs : List ℕ) (at : ℕ) → Contains hs at → ((k : ℕ) → f k ≤ g k) → f at ≡ least_of (map f hs) → g at ≡ f at
    → least_of (map g hs) ≡ least_of (map f hs)
least_stays f g hs at has grows least stays =
    let down : least_of (map g hs) ≤ g at = least_among g hs at has in
    let up : least_of (map f hs) ≤ least_of (map g hs) =
    least_above_some g (least_of (map f hs)) at hs has
    (λ k among. let a : least_of (map f hs) ≤ f k = least_among f hs k among in let b : f k ≤ g k = grows k in omega arith) in
    omega arith

-- so where the handler whose count rises is none of those that have the least
least_stays_but : (f g : ℕ → ℕ) (hs : List ℕ) (h : ℕ) → ((k : ℕ) → f k ≤ g k) → ((k : ℕ) → (k ≡ h → ⊥) → g k ≡ f k)
    → (Contains hs h → f h ≡ least_of (map f hs) → ⊥)
    → least_of (map g hs) ≡ least_of (map f hs)
least_stays_but f g [] h grows stays none = refl
least_stays_but f g (x ∷ xs) h grows stays none =
    let one : (k : ℕ) × Contains (x ∷ xs) k × (least_of (map f (x ∷ xs)) ≡ f k) = least_of-one f x xs in
    let among : Contains (x ∷ xs) one.0 = one.1 in
    let least : f one.0 ≡ least_of (map f (x ∷ xs)) = sym one.2 in
    least_stays f g (x ∷ xs) one.0 among grows least
    (stays one.0 (λ e. none (subst (λ k. Contains (x ∷ xs) k) e among) (subst (λ k. f k ≡ least_of (map f (x ∷ xs))) e least)))

room_by_gate : (halted : Bool) (limit size claimed was is : ℕ) → is ≡ was
    → (if halted then 0 else min (limit - claimed) (size - (claimed - is))) ≡ (if halted then 0 else min (limit - claimed) (size - (claimed - was)))
room_by_gate halted limit size claimed was is e = ap (λ n. if halted then 0 else min (limit - claimed) (size - (claimed - n))) e

-- what is completed gives no room where the gate stays
by_gate : (c : Setup) (m : State Event) (h upto : ℕ)
    → (slice_index m.completed h ≤ upto → gate c (accepted c m (Complete h upto)).state ≡ gate c m)
    → room c (after c m (Complete h upto)) ≡ room c m
by_gate c m h upto stays =
    let done : State Event = (accepted c m (Complete h upto)).state in
    unless-cases (λ (o : Outcome Event). room c o.state ≡ room c m) (refusals c m (Complete h upto)) m (accepted c m (Complete h upto)) (λ r. refl)
    (λ none. room_by_gate m.halted c.limit c.size (next m) (gate c m) (gate c done) (stays (ltb-false upto (slice_index m.completed h) none.1.1.0)))

pub no_room_by_others : (c : Setup) (m : State Event) (h upto : ℕ) → h < handlers c → (handler_of c m h).holds ≡ false
    → room c (after c m (Complete h upto)) ≡ room c m
no_room_by_others c m h upto known free =
    by_gate c m h upto (λ more.
    least_stays_but (λ k. slice_index m.completed k) (λ k. slice_index (slice_set m.completed h upto) k) (gating c m) h
    (λ k. raised m.completed h upto k more)
    (λ k other. other_stays m.completed h upto k other)
    (λ among least. elim (and_cases (is_final_without c.upstreams m.retired h) (slice_index m.completed h == gate c m) free) [
      | inl no_final ↦ false≢true (sym no_final ∙ kept_passes (is_final_without c.upstreams m.retired) (range_with_len 0 (handlers c)) h among)
      | inr ahead ↦ false≢true (sym ahead ∙ eq-eqb (slice_index m.completed h) (gate c m) least)
    ]))

pub no_room_meanwhile : (c : Setup) (m : State Event) (h other upto : ℕ) → h < handlers c → (handler_of c m h).holds ≡ true → (other ≡ h → ⊥)
    → room c (after c m (Complete other upto)) ≡ room c m
no_room_meanwhile c m h other upto known holding apart =
    let both : (is_final_without c.upstreams m.retired h ≡ true) × ((slice_index m.completed h == gate c m) ≡ true) = and_parts _ _ holding in
    by_gate c m other upto (λ more.
    least_stays (λ k. slice_index m.completed k) (λ k. slice_index (slice_set m.completed other upto) k) (gating c m) h
    (final_is_kept c.upstreams m.retired h known both.0)
    (λ k. raised m.completed other upto k more)
    (eqb-true (slice_index m.completed h) (gate c m) both.1)
    (other_stays m.completed other upto h (λ e. apart (sym e))))

-- the last sequence of a claim's reply
abbrev last_of : Reply → ℕ
last_of (Claimed lo hi) = hi
last_of other = 0

claimed_to : {lo hi first last : ℕ} → Claimed first last ≡ Claimed lo hi → last ≡ hi
claimed_to e = ap (λ r. last_of r) e

-- a claim that is given sequences goes no further than a round beyond what each handler completed that claims wait for
pub within_round : (c : Setup) (m : State Event) (p n lo hi h : ℕ) → h < handlers c → (handler_of c m h).gates ≡ true
    → reply_to c m (Claim p n) ≡ Claimed lo hi → hi < c.size + slice_index m.completed h
within_round c m p n lo hi h known gating_one =
    let behind : gate c m ≤ slice_index m.completed h =
    least_among (λ k. slice_index m.completed k) (gating c m) h (final_is_kept c.upstreams m.retired h known gating_one) in
    unless-cases (λ (o : Outcome Event). o.reply ≡ Claimed lo hi → hi < c.size + slice_index m.completed h) (refusals c m (Claim p n)) m (accepted c m (Claim p n))
    (λ r e. absurd (cc))
    (λ none e.
    let some : (n ≡ 0) → ⊥ = eqb-false n 0 (or_parts (n == 0) (nat_lt c.size n) none.1.0).0 in
    let near : next m + n ≤ c.size + gate c m = ltb-false (c.size + gate c m) (next m + n) none.1.1.1.1.0 in
    let last : next m + n - 1 ≡ hi = claimed_to e in
    omega arith)
