-- What is known of the last claimed sequences, after a command.
use Rattle.std.proofs.Common.{◌≡◌, ℕ, ◌+◌, ◌-◌, ◌%◌, ◌<◌, ◌≤◌, ◌≢◌, inl, inr, Bool, true, false, ◌&&◌, ◌||◌, List, ◌++◌, arith, refl, ap, sym, subst, ◌∙◌, length, set, replicate, Some, None, slice_index}
use Rattle.std.specs.Prelude.{◌==◌, nat_le, nat_lt}
use Rattle.std.proofs.lemmas.Bool.{cases_eq, cases_lt, cond_both, eq-eqb, le-leb, lt-leb, ne_eqb}
use Rattle.std.proofs.lemmas.Bool.Decides.{nat_tests}
use Rattle.std.proofs.lemmas.List.{length-append, length-replicate, length-set, get_or_append_left, get_or-append_right, get_or-replicate, get_or-set_same, get_or-set_other}
use Rattle.std.proofs.Math.Nat.{mod-lt}
use Rattle.dr_seq.proofs.Apart.{slots_differ}
use Rattle.dr_seq.specs.declared.event.Event.{Event}
use Rattle.dr_meaning.specs.declared.command.Command.{Command}
use Rattle.dr_meaning.specs.declared.command.Command.TheVariants.{Claim, Write, Publish, Poll, Complete, Halt, Retire}
use Rattle.dr_meaning.specs.declared.command.Reply.{Reply}
use Rattle.dr_meaning.specs.declared.command.Reply.TheVariants.{Refused}
use Rattle.dr_meaning.specs.declared.refusal.Refusal.{Refusal}
use Rattle.dr_meaning.specs.Meaning.Machine.{Setup, State, Outcome, next, available, cursor, refusals, accepted, step}
use Rattle.dr_meaning.proofs.Steps.{NoneHold, unless-cases}
use Rattle.dr_show.specs.declared.sequences.Sequence.{Sequence}
use Rattle.dr_show.specs.Inside.Sequences.{Becomes, Changes, Follows, Remembers, Speaks, claimed_by, claimed_in, published_in, said_of, written_in}

-- what slots say of a sequence that was put there, and of another one
said_here : (slots : List Sequence) (i : ℕ) (x : Sequence) → 0 < length slots → said_of (set slots (i % length slots) x) i ≡ x
said_here slots i x some = rw length-set (get_or-set_same slots (i % length slots) x (claimed_by 0) (mod-lt i some))

said_there : (slots : List Sequence) (i s : ℕ) (x : Sequence) → s % length slots ≢ i % length slots
    → said_of (set slots (i % length slots) x) s ≡ said_of slots s
said_there slots i s x apart = rw length-set (get_or-set_other slots (i % length slots) (s % length slots) x (claimed_by 0) apart)

-- of the last sequences below a bound, those before one are changed, and the others are not yet
pub record Partly (upto : ℕ) (change : ℕ → Sequence → Sequence) (i : ℕ) (old now : List Sequence) : Type 0 where
  pub size : length now ≡ length old
  pub done : (s : ℕ) → s < i → s < upto → upto ≤ s + length old → said_of now s ≡ change s (said_of old s)
  pub left : (s : ℕ) → i ≤ s → s < upto → upto ≤ s + length old → said_of now s ≡ said_of old s

pub partly_starts : (upto : ℕ) (change : ℕ → Sequence → Sequence) (i : ℕ) (old : List Sequence)
    → ((s : ℕ) → s < i → upto ≤ s + length old → change s (said_of old s) ≡ said_of old s) → Partly upto change i old old
partly_starts upto change i old same = record { size = refl; done = λ s below within recent. sym (same s below recent); left = λ s after within recent. refl }

-- one sequence more
pub partly_more : (upto : ℕ) (change : ℕ → Sequence → Sequence) (i : ℕ) (old now new : List Sequence) (x : Sequence) → 0 < length now → i < upto
    → upto ≤ i + length now
    → Partly upto change i old now → x ≡ change i (said_of now i) → new ≡ set now (i % length now) x → Partly upto change (i + 1) old new
partly_more upto change i old now new x some before recent_i partly put is =
    let size : length now ≡ length old = partly.size in
    rw is (record {
      size = length-set now (i % length now) x ∙ size;
      done = λ s below within recent. elim (cases_eq s i) [
        | inl e ↦ rw e (said_here now i x some ∙ put ∙ ap (change i) (partly.left i (omega arith) before (omega (arith, size))))
        | inr ne ↦ said_there now i s x (slots_differ (length now) s i ne (omega arith) (omega (arith, size))) ∙ partly.done s (omega arith) within recent
      ];
      left = λ s after within recent. said_there now i s x (slots_differ (length now) s i (λ e. absurd (omega arith)) (omega (arith, size)) (omega arith)) ∙ partly.left s (omega arith) within recent;
    })

pub partly_ends : (upto : ℕ) (change : ℕ → Sequence → Sequence) (i end : ℕ) (old now : List Sequence) → end ≤ i → Partly upto change i old now
    → ((s : ℕ) → end ≤ s → s < upto → change s (said_of old s) ≡ said_of old s) → Becomes upto change old now
partly_ends upto change i end old now past partly same = record {
  size = partly.size;
  each = λ s within recent. elim (cases_lt s i) [
    | inl below ↦ partly.done s below within recent
    | inr after ↦ partly.left s after within recent ∙ sym (same s (omega arith) within)
  ];
}

-- a claim changes the sequences from its first one on
pub claim_skips : (from p s : ℕ) (x : Sequence) → s < from → claimed_in from p s x ≡ x
claim_skips from p s x below = rw (lt-leb from s below) refl

pub claim_takes : (from p s : ℕ) (x : Sequence) → from ≤ s → claimed_by p ≡ claimed_in from p s x
claim_takes from p s x after = rw (le-leb from s after) refl

-- a write changes one sequence
write_skips : (event : Event) (at s : ℕ) (x : Sequence) → s ≢ at → written_in event at s x ≡ x
write_skips event at s x other = rw (ne_eqb s at other) refl

-- a publication changes the sequences of a stretch
or_false : (b : Bool) → (b || false) ≡ b
or_false true = refl
or_false false = refl

or_true : (b : Bool) → (b || true) ≡ true
or_true true = refl
or_true false = refl

and_false : (b : Bool) → (b && false) ≡ false
and_false true = refl
and_false false = refl

unless_published : (x : Sequence) (b : Bool) → b ≡ false → record { producer = x.producer; event = x.event; is_published = x.is_published || b } ≡ x
unless_published x b is = rw (is, or_false) refl

pub publication_skips_earlier : (lo hi s : ℕ) (x : Sequence) → s < lo → published_in lo hi s x ≡ x
publication_skips_earlier lo hi s x below = unless_published x (nat_le lo s && nat_le s hi) (rw (lt-leb lo s below) refl)

pub publication_skips_later : (lo hi s : ℕ) (x : Sequence) → hi < s → published_in lo hi s x ≡ x
publication_skips_later lo hi s x after = unless_published x (nat_le lo s && nat_le s hi) (rw (lt-leb s hi after) (and_false (nat_le lo s)))

pub publication_takes : (lo hi s : ℕ) (x : Sequence) → lo ≤ s → s ≤ hi
    → record { producer = x.producer; event = x.event; is_published = true } ≡ published_in lo hi s x
publication_takes lo hi s x low high = rw (le-leb lo s low, le-leb s hi high, or_true) refl

-- a write to one of the last sequences, and to one that lies further back
pub written_recent : (event : Event) (at upto : ℕ) (old new : List Sequence) (x : Sequence) → 0 < length old → at < upto → upto ≤ at + length old
    → x ≡ record { producer = (said_of old at).producer; event = Some event; is_published = (said_of old at).is_published } → new ≡ set old (at % length old) x
    → Becomes upto (written_in event at) old new
written_recent event at upto old new x some before recent put is =
    let start : Partly upto (written_in event at) at old old = partly_starts upto (written_in event at) at old (λ s below r. write_skips event at s (said_of old s) (λ e. absurd (omega arith))) in
    let here : x ≡ written_in event at at (said_of old at) = put ∙ rw (eq-eqb at at refl) refl in
    partly_ends upto (written_in event at) (at + 1) (at + 1) old new (omega arith) (partly_more upto (written_in event at) at old old new x some before recent start here is)
    (λ s after within. write_skips event at s (said_of old s) (λ e. absurd (omega arith)))

pub written_earlier : (event : Event) (at upto : ℕ) (old : List Sequence) → at + length old < upto → Becomes upto (written_in event at) old old
written_earlier event at upto old far = record { size = refl; each = λ s within recent. sym (write_skips event at s (said_of old s) (λ e. absurd (omega arith))) }

-- a command that is not refused comes out as accepted
accepts : (P : Outcome Event → Type 0) (c : Setup) (m : State Event) (command : Command Event) → ((r : Refusal) → (step c m command).reply ≡ Refused r → ⊥)
    → (NoneHold (refusals c m command) → P (accepted c m command)) → P (step c m command)
accepts P c m command not is =
    unless-cases (λ (o : Outcome Event). ((r : Refusal) → o.reply ≡ Refused r → ⊥) → P o) (refusals c m command) m (accepted c m command) (λ r no. absurd (no r refl)) (λ none no. is none) not

-- what the slots say after an accepted command
claim_remembers : (c : Setup) (m : State Event) (p n : ℕ) (old new : List Sequence)
    → ((s : ℕ) → next m ≤ s → (m.published s ≡ false) × (m.written s ≡ None)) → Remembers old m
    → Becomes (next m + n) (claimed_in (next m) p) old new → Remembers new (accepted c m (Claim p n)).state
claim_remembers c m p n old new held before takes =
    let size : length new ≡ length old = takes.size in
    let many : length (replicate n p) ≡ n = length-replicate n p in
    let claimed : length (m.owners ++ replicate n p) ≡ length m.owners + length (replicate n p) = length-append m.owners (replicate n p) in
    record {
      at = λ s within recent.
          let here : said_of new s ≡ claimed_in (next m) p s (said_of old s) = takes.each s (omega (arith, claimed, many)) (omega (arith, claimed, many, size)) in
          elim (cases_lt s (next m)) [
            | inl old_one ↦
                here
                ∙ claim_skips (next m) p s (said_of old s) old_one
                ∙ before.at s old_one (omega (arith, claimed, many, size))
                ∙ ap (λ o. record { producer = o; event = m.written s; is_published = m.published s }) (sym (get_or_append_left m.owners (replicate n p) 0 s old_one))
            | inr new_one ↦
                let left : s - length m.owners < n = omega (arith, claimed, many) in
                let owner : slice_index (m.owners ++ replicate n p) s ≡ p = get_or-append_right m.owners (replicate n p) (length m.owners) s 0 refl new_one ∙ get_or-replicate n (s - length m.owners) p 0 left in
                let event : m.written s ≡ None = (held s new_one).1 in
                let hidden : m.published s ≡ false = (held s new_one).0 in
                here ∙ sym (claim_takes (next m) p s (said_of old s) new_one) ∙ rw (owner, event, hidden) refl
          ];
    }

write_remembers : (c : Setup) (m : State Event) (p at : ℕ) (event : Event) (old new : List Sequence) → Remembers old m
    → Becomes (next m) (written_in event at) old new
    → Remembers new (accepted c m (Write p at event)).state
write_remembers c m p at event old new before takes =
    let size : length new ≡ length old = takes.size in
    record { at = λ s within recent. takes.each s within (omega (arith, size)) ∙ rw (before.at s within (omega (arith, size))) refl }

publish_remembers : (c : Setup) (m : State Event) (p lo hi : ℕ) (old new : List Sequence) → Remembers old m → Becomes (next m) (published_in lo hi) old new
    → Remembers new (accepted c m (Publish p lo hi)).state
publish_remembers c m p lo hi old new before takes =
    let size : length new ≡ length old = takes.size in
    record { at = λ s within recent. takes.each s within (omega (arith, size)) ∙ rw (before.at s within (omega (arith, size))) refl }

-- nothing that slots tell is changed
stays_remembered : (m n : State Event) (old new : List Sequence) → Remembers old m → new ≡ old → n.owners ≡ m.owners → n.written ≡ m.written
    → n.published ≡ m.published → Remembers new n
stays_remembered m n old new before is owners written published =
    rw is (record { at = λ s within recent. rw (owners, written, published) (before.at s (rw owners at within) (rw owners at recent)) })

poll_remembers : (c : Setup) (m : State Event) (h max : ℕ) (old new : List Sequence) → Remembers old m → new ≡ old
    → Remembers new (accepted c m (Poll h max)).state
poll_remembers c m h max old new before is =
    let P : Outcome Event → Type 0 = λ o. Remembers new o.state in
    let same : Remembers new m = stays_remembered m m old new before is refl refl refl in
    cond_both (nat_lt (slice_index m.taken h) (available c m h)) _ _ P (λ y. stays_remembered m _ old new before is refl refl refl)
    (λ n. cond_both (m.halted && (slice_index m.taken h == next m)) _ _ P (λ y. same) (λ n'. cond_both (nat_lt (slice_index m.taken h) (cursor c m)) _ _ P (λ y. same) (λ n''. same)))

-- how many sequences are claimed after a claim
claims_more : (c : Setup) (m : State Event) (p n upto : ℕ) → next (accepted c m (Claim p n)).state ≡ upto → upto ≡ next m + n
claims_more c m p n upto counted = sym counted ∙ length-append m.owners (replicate n p) ∙ ap (λ k. length m.owners + k) (length-replicate n p)

accepted_remembers : (c : Setup) (m : State Event) (command : Command Event) (upto : ℕ) (old new : List Sequence)
    → ((s : ℕ) → next m ≤ s → (m.published s ≡ false) × (m.written s ≡ None))
    → Remembers old m → next (accepted c m command).state ≡ upto → Changes command upto old new → Remembers new (accepted c m command).state
accepted_remembers c m (Claim p n) upto old new held before counted takes =
    let more : upto ≡ next m + n = claims_more c m p n upto counted in
    let back : upto - n ≡ next m = omega arith in
    claim_remembers c m p n old new held before (subst (λ u. Becomes u (claimed_in (next m) p) old new) more (subst (λ from. Becomes upto (claimed_in from p) old new) back takes))
accepted_remembers c m (Write p s event) upto old new held before counted takes = write_remembers c m p s event old new before (subst (λ u. Becomes u (written_in event s) old new) (sym counted) takes)
accepted_remembers c m (Publish p lo hi) upto old new held before counted takes = publish_remembers c m p lo hi old new before (subst (λ u. Becomes u (published_in lo hi) old new) (sym counted) takes)
accepted_remembers c m (Poll h max) upto old new held before counted takes = poll_remembers c m h max old new before takes
accepted_remembers c m (Complete h up) upto old new held before counted takes = stays_remembered m _ old new before takes refl refl refl
accepted_remembers c m Halt upto old new held before counted takes = stays_remembered m _ old new before takes refl refl refl
accepted_remembers c m (Retire h) upto old new held before counted takes = stays_remembered m _ old new before takes refl refl refl

accepted_speaks : (c : Setup) (m : State Event) (command : Command Event) (upto : ℕ) → next (accepted c m command).state ≡ upto
    → NoneHold (refusals c m command)
    → Speaks command c.size upto
accepted_speaks c m (Claim p n) upto counted none =
    let more : upto ≡ next m + n = claims_more c m p n upto counted in (grind (arith, nat_tests, none.1.0), omega arith)
accepted_speaks c m (Write p s event) upto counted none = grind (arith, nat_tests, none.1.0)
accepted_speaks c m (Publish p lo hi) upto counted none = grind (arith, nat_tests, none.1.1.0)
accepted_speaks c m (Poll h max) upto counted none = tt
accepted_speaks c m (Complete h up) upto counted none = tt
accepted_speaks c m Halt upto counted none = tt
accepted_speaks c m (Retire h) upto counted none = tt

-- a command that is not refused speaks of claimed sequences
pub noted_speaks : (c : Setup) (m : State Event) (command : Command Event) (reply : Reply) (upto : ℕ) (old : List Sequence) → Follows c m command reply upto old
    → ((r : Refusal) → reply ≡ Refused r → ⊥) → Speaks command (length old) upto
noted_speaks c m command reply upto old follows not =
    rw follows.size (accepts (λ (o : Outcome Event). next o.state ≡ upto → Speaks command c.size upto) c m command (λ r e. not r (sym follows.replies ∙ e))
    (λ none counted. accepted_speaks c m command upto counted none) follows.counted)

-- and changes the slots as it changes the state
pub noted_remembers : (c : Setup) (m : State Event) (command : Command Event) (reply : Reply) (upto : ℕ) (old new : List Sequence)
    → Follows c m command reply upto old
    → ((r : Refusal) → reply ≡ Refused r → ⊥) → Changes command upto old new → Remembers new (step c m command).state
noted_remembers c m command reply upto old new follows not takes =
    accepts (λ (o : Outcome Event). next o.state ≡ upto → Remembers new o.state) c m command (λ r e. not r (sym follows.replies ∙ e))
    (λ none counted. accepted_remembers c m command upto old new follows.unclaimed follows.remembers counted takes) follows.counted

poll_answers : (c : Setup) (m : State Event) (h max : ℕ) (r : Refusal) → (accepted c m (Poll h max)).reply ≡ Refused r → ⊥
poll_answers c m h max r =
    let P : Outcome Event → Type 0 = λ o. o.reply ≡ Refused r → ⊥ in
    cond_both (nat_lt (slice_index m.taken h) (available c m h)) _ _ P (λ y e. cc)
    (λ n. cond_both (m.halted && (slice_index m.taken h == next m)) _ _ P (λ y e. cc) (λ n'. cond_both (nat_lt (slice_index m.taken h) (cursor c m)) _ _ P (λ y e. cc) (λ n'' e. cc)))

accepted_answers : (c : Setup) (m : State Event) (command : Command Event) (r : Refusal) → (accepted c m command).reply ≡ Refused r → ⊥
accepted_answers c m (Claim p n) r e = cc
accepted_answers c m (Write p s event) r e = cc
accepted_answers c m (Publish p lo hi) r e = cc
accepted_answers c m (Poll h max) r e = poll_answers c m h max r e
accepted_answers c m (Complete h upto) r e = cc
accepted_answers c m Halt r e = cc
accepted_answers c m (Retire h) r e = cc

-- a command that is refused leaves slots and state
pub refused_remembers : (c : Setup) (m : State Event) (command : Command Event) (reply : Reply) (r : Refusal) (upto : ℕ) (old : List Sequence)
    → Follows c m command reply upto old
    → reply ≡ Refused r → Remembers old (step c m command).state
refused_remembers c m command reply r upto old follows refused =
    unless-cases (λ (o : Outcome Event). o.reply ≡ Refused r → Remembers old o.state) (refusals c m command) m (accepted c m command)
    (λ q e. follows.remembers) (λ none e. absurd (accepted_answers c m command r e)) (follows.replies ∙ refused)

-- there are as many slots after a command
pub same_size : (command : Command Event) (upto : ℕ) (old new : List Sequence) → Changes command upto old new → length new ≡ length old
same_size (Claim p n) upto old new takes = takes.size
same_size (Write p s event) upto old new takes = takes.size
same_size (Publish p lo hi) upto old new takes = takes.size
same_size (Poll h max) upto old new takes = ap length takes
same_size (Complete h up) upto old new takes = ap length takes
same_size Halt upto old new takes = ap length takes
same_size (Retire h) upto old new takes = ap length takes
