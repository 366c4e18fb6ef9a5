-- What the machine answers a claim and a poll, by its room and by what is ready.
use Rattle.std.proofs.Common.{◌≡◌, ℕ, ◌+◌, ◌-◌, ◌<◌, ◌≤◌, min, Bool, true, false, ◌&&◌, ◌||◌, arith, refl, ap, ◌∙◌, slice_index}
use Rattle.std.specs.Prelude.{◌==◌, nat_lt, if◌then◌else◌}
use Rattle.std.proofs.lemmas.Bool.{cond_both, cond-true, eq-eqb, le-ltb, lt-leb, lt-ltb, ltb-false, ltb-true, ne_eqb, or_from, or_parts}
use Rattle.dr_seq.specs.declared.event.Event.{Event}
use Rattle.dr_meaning.specs.declared.command.Command.TheVariants.{Claim, Poll}
use Rattle.dr_meaning.specs.declared.command.Reply.TheVariants.{Batch, Claimed}
use Rattle.dr_meaning.specs.Meaning.Machine.{Outcome, Setup, State, accepted, available, cursor, gate, handlers, next, producers, refusals, step}
use Rattle.dr_meaning.specs.Meaning.Runs.{count_in}
use Rattle.dr_meaning.proofs.Steps.{NoneHold, unless-cases, unless-none}
use Rattle.dr_drive.specs.Meaning.StateLine.{ready, room}

-- numbers that are 0 where a test holds
test_fails : (b : Bool) (n k : ℕ) → 0 < n → n ≤ (if b then 0 else k) → (b ≡ false) × (n ≤ k)
test_fails true n k some within = absurd (omega arith)
test_fails false n k some within = (refl, within)

live : (b : Bool) (k : ℕ) → 0 < (if b then 0 else k) → b ≡ false
live true k some = absurd (omega arith)
live false k some = refl

failing : (b : Bool) (k : ℕ) → b ≡ false → (if b then 0 else k) ≡ k
failing true k fails = absurd (cc)
failing false k fails = refl

-- how far a claim goes that has room
below_limit : (n claimed limit free : ℕ) → 0 < n → n ≤ min (limit - claimed) free → claimed + n ≤ limit
below_limit n claimed limit free some within = omega arith

within_size : (n claimed limit size gated : ℕ) → n ≤ min (limit - claimed) (size - (claimed - gated)) → n ≤ size
within_size n claimed limit size gated within = omega arith

within_round : (n claimed limit size gated : ℕ) → 0 < n → n ≤ min (limit - claimed) (size - (claimed - gated)) → claimed + n ≤ size + gated
within_round n claimed limit size gated some within = omega arith

has_room : (n claimed limit size gated : ℕ) → n ≤ size → claimed + n ≤ limit → claimed + n ≤ size + gated → n ≤ min (limit - claimed) (size - (claimed - gated))
has_room n claimed limit size gated small below near = omega arith

claim_passes : (c : Setup) (m : State Event) (p n : ℕ) → p < producers c.mode → 0 < n → n ≤ room c m → NoneHold (refusals c m (Claim p n))
claim_passes c m p n known some within =
    let left : (m.halted ≡ false) × (n ≤ min (c.limit - next m) (c.size - (next m - gate c m))) = test_fails m.halted n (min (c.limit - next m) (c.size - (next m - gate c m))) some within in
    let small : (n == 0 || nat_lt c.size n) ≡ false =
    or_from (n == 0) (nat_lt c.size n) (ne_eqb n 0 (λ e. absurd (omega arith))) (le-ltb c.size n (within_size n (next m) c.limit c.size (gate c m) left.1)) in
    let below : nat_lt c.limit (next m + n) ≡ false = le-ltb c.limit (next m + n) (below_limit n (next m) c.limit (c.size - (next m - gate c m)) some left.1) in
    let near : nat_lt (c.size + gate c m) (next m + n) ≡ false = le-ltb (c.size + gate c m) (next m + n) (within_round n (next m) c.limit c.size (gate c m) some left.1) in
    (lt-leb (producers c.mode) p known, (small, (left.0, (below, (near, tt)))))

pub claim_given : (c : Setup) (m : State Event) (p n : ℕ) → p < producers c.mode → 0 < n → n ≤ room c m → (step c m (Claim p n)).reply ≡ Claimed (next m) (next m + n - 1)
claim_given c m p n known some within =
    ap (λ (o : Outcome Event). o.reply) (unless-none (refusals c m (Claim p n)) m (accepted c m (Claim p n)) (claim_passes c m p n known some within))

claim_fits : (c : Setup) (m : State Event) (p n : ℕ) → NoneHold (refusals c m (Claim p n)) → n ≤ room c m
claim_fits c m p n none =
    let small : n ≤ c.size = ltb-false c.size n (or_parts (n == 0) (nat_lt c.size n) none.1.0).1 in
    let below : next m + n ≤ c.limit = ltb-false c.limit (next m + n) none.1.1.1.0 in
    let near : next m + n ≤ c.size + gate c m = ltb-false (c.size + gate c m) (next m + n) none.1.1.1.1.0 in
    rw (failing m.halted (min (c.limit - next m) (c.size - (next m - gate c m))) none.1.1.0) (has_room n (next m) c.limit c.size (gate c m) small below near)

pub given_fits : (c : Setup) (m : State Event) (p n lo hi : ℕ) → (step c m (Claim p n)).reply ≡ Claimed lo hi → n ≤ room c m
given_fits c m p n lo hi =
    unless-cases (λ (o : Outcome Event). o.reply ≡ Claimed lo hi → n ≤ room c m) (refusals c m (Claim p n)) m (accepted c m (Claim p n)) (λ r e. absurd (cc))
    (λ none e. claim_fits c m p n none)

-- a poll that has room for all that is ready
whole_batch : (taken offered count max : ℕ) → count ≡ offered - taken → 0 < count → count ≤ max
    → Batch taken (min (offered - taken) max) (taken + min (offered - taken) max == offered) ≡ Batch taken count true
whole_batch taken offered count max is some roomy =
    let all : min (offered - taken) max ≡ count = omega arith in
    ap (λ b. Batch taken (min (offered - taken) max) b) (eq-eqb (taken + min (offered - taken) max) offered (omega arith)) ∙ ap (λ n. Batch taken n true) all

pub poll_gives : (c : Setup) (m : State Event) (h max : ℕ) → h < handlers c → 0 < ready c m h → ready c m h ≤ max
    → (step c m (Poll h max)).reply ≡ Batch (slice_index m.taken h) (ready c m h) true
poll_gives c m h max known some roomy =
    let taken : ℕ = slice_index m.taken h in
    let offered : ℕ = available c m h in
    let left : m.retired h ≡ false = live (m.retired h) (offered - taken) some in
    let count : ready c m h ≡ offered - taken = failing (m.retired h) (offered - taken) left in
    let none : NoneHold (refusals c m (Poll h max)) = (lt-leb (handlers c) h known, (left, (ne_eqb max 0 (λ e. absurd (omega arith)), tt))) in
    ap (λ (o : Outcome Event). o.reply) (unless-none (refusals c m (Poll h max)) m (accepted c m (Poll h max)) none)
    ∙ ap (λ (o : Outcome Event). o.reply) (cond-true (nat_lt taken offered) _ _ (lt-ltb taken offered (omega (arith, some, count))))
    ∙ whole_batch taken offered (ready c m h) max count some roomy

pub poll_gives_none : (c : Setup) (m : State Event) (h max : ℕ) → ready c m h ≡ 0 → count_in (step c m (Poll h max)).reply ≡ 0
poll_gives_none c m h max none_ready =
    let P : Outcome Event → Type 0 = λ o. count_in o.reply ≡ 0 in
    let taken : ℕ = slice_index m.taken h in
    let offered : ℕ = available c m h in
    unless-cases P (refusals c m (Poll h max)) m (accepted c m (Poll h max)) (λ r. refl)
    (λ none. let count : ready c m h ≡ offered - taken = failing (m.retired h) (offered - taken) none.1.0 in
    cond_both (nat_lt taken offered) _ _ P (λ y. absurd (omega (arith, ltb-true taken offered y, count, none_ready)))
    (λ n. cond_both (m.halted && (taken == next m)) _ _ P (λ y. refl) (λ n'. cond_both (nat_lt taken (cursor c m)) _ _ P (λ y. refl) (λ n''. refl))))
