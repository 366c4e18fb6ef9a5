-- When a machine replies as an end answers: by the tests that the end knows, and for a poll that takes nothing.
use Rattle.std.proofs.Common.{◌≡◌, ℕ, zero, suc, ◌+◌, ◌<◌, ◌≤◌, inl, inr, Bool, true, false, ◌==◌, ◌&&◌, if◌then◌else◌, List, [], ◌∷◌, ◌++◌, get_or}
use Rattle.std.proofs.Common.{Result, Ok, Err, sym, refl, ap, ◌∙◌, subst, arith}
use Rattle.std.specs.Prelude.{nat_lt, Contains, flat_map}
use Rattle.std.specs.List.{range_with_len}
use Rattle.std.proofs.lemmas.Bool.{eq-eqb, lt-ltb, le-ltb}
use Rattle.dr_meaning.specs.declared.refusal.Refusal.{Refusal}
use Rattle.dr_meaning.specs.declared.command.Command.TheVariants.{Poll}
use Rattle.dr_meaning.specs.declared.command.Reply.TheVariants.{Drained as RepliedDrained, Gating as RepliedGating, Idle as RepliedIdle}
use Rattle.dr_meaning.specs.Meaning.Refusals.{NoneHolds, IsFirst}
use Rattle.dr_meaning.specs.Meaning.Machine.{Setup, State, Outcome, next, cursor, offered, available, unchanged, accepted, unless}
use Rattle.dr_meaning.specs.Calls.Replies.{unit_reply}
use Rattle.dr_meaning.specs.Calls.Ends.{Verdict, Exactly, MayHold, MayFail, IsAnswerOf, as_end}
use Rattle.dr_meaning.proofs.Steps.{NoneHold, Refuses, unless-none, unless-refused}
use Rattle.dr_meaning.proofs.Leasts.{least_of-member}

-- Tests of which an end knows what the machine knows, as far as they are asked.
abbrev pub AreExact : List (Verdict × Refusal) → List (Bool × Refusal) → Type 0
AreExact [] [] = Unit {0}
AreExact [] (b ∷ bs) = ⊥
AreExact (v ∷ vs) [] = ⊥
AreExact (v ∷ vs) (b ∷ bs) = (v.0 ≡ Exactly b.0) × (v.1 ≡ b.1) × (b.0 ≡ false → AreExact vs bs)

pub none_exact : (vs : List (Verdict × Refusal)) (bs : List (Bool × Refusal)) → AreExact vs bs → NoneHolds MayFail vs → NoneHold bs
none_exact [] [] E N = tt
none_exact [] (b ∷ bs) E N = absurd E
none_exact (v ∷ vs) [] E N = absurd E
none_exact (v ∷ vs) (b ∷ bs) E N = let off : b.0 ≡ false = subst MayFail E.0 N.0 in (off, none_exact vs bs (E.2 off) N.1)

pub first_exact : (r : Refusal) (vs : List (Verdict × Refusal)) (bs : List (Bool × Refusal)) → AreExact vs bs → IsFirst MayHold MayFail r vs → Refuses r bs
first_exact r [] [] E F = absurd F
first_exact r [] (b ∷ bs) E F = absurd E
first_exact r (v ∷ vs) [] E F = absurd E
first_exact r (v ∷ vs) (b ∷ bs) E (inl here) = inl (subst MayHold E.0 here.0, sym E.1 ∙ here.1)
first_exact r (v ∷ vs) (b ∷ bs) E (inr later) = let off : b.0 ≡ false = subst MayFail E.0 later.0 in inr (off, first_exact r vs bs (E.2 off) later.1)

pub exact_join : (vs us : List (Verdict × Refusal)) (bs cs : List (Bool × Refusal)) → AreExact vs bs → AreExact us cs → AreExact (vs ++ us) (bs ++ cs)
exact_join [] us [] cs E F = F
exact_join [] us (b ∷ bs) cs E F = absurd E
exact_join (v ∷ vs) us [] cs E F = absurd E
exact_join (v ∷ vs) us (b ∷ bs) cs E F = (E.0, E.1, λ off. exact_join vs us bs cs (E.2 off) F)

pub exact_stretch : (vs : ℕ → List (Verdict × Refusal)) (bs : ℕ → List (Bool × Refusal)) (lo n : ℕ) → ((s : ℕ) → AreExact (vs s) (bs s))
    → AreExact (flat_map vs (range_with_len lo n)) (flat_map bs (range_with_len lo n))
exact_stretch vs bs lo zero each = tt
exact_stretch vs bs lo (suc n) each = exact_join (vs lo) _ (bs lo) _ (each lo) (exact_stretch vs bs (lo + 1) n each)

module _ {T : Type 0} where
  pub unit_replies : (vs : List (Verdict × Refusal)) (bs : List (Bool × Refusal)) (m : State T) (o : Outcome T) (result : Result (Unit {0}) Refusal)
      → AreExact vs bs → IsAnswerOf vs (as_end result) → (unless bs m o).reply ≡ unit_reply o.reply result
  unit_replies vs bs m o (Ok done) E N = ap (λ (x : Outcome T). x.reply) (unless-none bs m o (none_exact vs bs E N))
  unit_replies vs bs m o (Err r) E F = ap (λ (x : Outcome T). x.reply) (unless-refused r bs m o (first_exact r vs bs E F))

  -- what is offered is at most what each upstream completed
  pub offered_low : (m : State T) (ups : List ℕ) (u : ℕ) → Contains ups u → offered m ups ≤ get_or m.completed u 0
  offered_low m [] u has = absurd (let lt = has.1 in omega arith)
  offered_low m (up ∷ ups) u has = least_of-member (λ h. get_or m.completed h 0) (up ∷ ups) u has

-- A poll that takes nothing, in any state of the machine.
module _ {T : Type 0} (c : Setup) (m : State T) (h room : ℕ) (level : available c m h ≤ get_or m.taken h 0) where
  abbrev pub answered : Bool → Bool → Outcome T
  answered all ahead = if all then unchanged RepliedDrained m else if ahead then unchanged RepliedGating m else unchanged RepliedIdle m

  pub takes_none : accepted c m (Poll h room) ≡ answered (m.halted && (get_or m.taken h 0 == next m)) (nat_lt (get_or m.taken h 0) (cursor c m))
  takes_none = rw (le-ltb (get_or m.taken h 0) (available c m h) level) refl

  pub drained_reply : m.halted ≡ true → get_or m.taken h 0 ≡ next m → (accepted c m (Poll h room)).reply ≡ RepliedDrained
  drained_reply on all = ap (λ (x : Outcome T). x.reply) takes_none ∙ rw (on, eq-eqb (get_or m.taken h 0) (next m) all) refl

  pub gating_reply : (m.halted && (get_or m.taken h 0 == next m)) ≡ false → get_or m.taken h 0 < cursor c m → (accepted c m (Poll h room)).reply ≡ RepliedGating
  gating_reply part ahead = ap (λ (x : Outcome T). x.reply) takes_none ∙ rw (part, lt-ltb (get_or m.taken h 0) (cursor c m) ahead) refl

  pub idle_reply : (m.halted && (get_or m.taken h 0 == next m)) ≡ false → cursor c m ≤ get_or m.taken h 0 → (accepted c m (Poll h room)).reply ≡ RepliedIdle
  idle_reply part none = ap (λ (x : Outcome T). x.reply) takes_none ∙ rw (part, le-ltb (get_or m.taken h 0) (cursor c m) none) refl
