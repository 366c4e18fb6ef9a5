-- What is known of the recent sequences, kept by rounds of the ring.
use Rattle.std.proofs.Common.{◌≡◌, ◌⊎◌, ℕ, ◌+◌, ◌-◌, ◌%◌, ◌<◌, ◌≤◌, ◌≢◌, inl, inr, true, false, Bool, cond}
use Rattle.std.proofs.Common.{List, arith, refl, ap, sym, ◌∙◌, length, set, None, Some, replicate, max}
use Rattle.std.specs.Prelude.{◌==◌, ◌||◌, nat_lt}
use Rattle.std.proofs.Math.Nat.{mod-lt}
use Rattle.std.proofs.lemmas.Bool.{cases_Bool, cases_lt, or_left, or_right, or_from, lt-ltb, le-ltb, eq-eqb}
use Rattle.std.proofs.lemmas.List.{length-set, get_or-set_same, get_or-set_other}
use Rattle.dr_seq.specs.Rounds.{entry_of, is_marked, IsFront}
use Rattle.dr_seq.specs.Slots.{event_at}
use Rattle.dr_seq.proofs.Apart.{slots_differ}
use Rattle.dr_meaning.specs.declared.mode.Mode.{Mode}
use Rattle.dr_meaning.specs.declared.mode.Mode.TheVariants.{Single, Multi}
use Rattle.dr_meaning.specs.declared.refusal.Refusal.TheVariants.{NotClaimed, NotWritten, AlreadyPublished}
use Rattle.dr_core.specs.declared.engine.Core.TheInside.{Inside}
use Rattle.dr_meaning.specs.Meaning.Machine.{producers, is_single}
use Rattle.dr_core.specs.Calls.CoreView.{CoreView, known_at}
use Rattle.dr_core.specs.Inside.Availability.{KeptBySlot, owner_at, is_published_at, is_written_at, is_ahead, IsNoted, published_after, IsNewFront, known_of}
use Rattle.dr_core.specs.Inside.Availability.{slot_known, owners_after, HasOwners, write_fault, publish_fault, is_shown, event_known}
use Rattle.dr_seq.specs.Stamped.{stamped}
use Rattle.dr_core.specs.Inside.Fields.{kept_of, view_of, IsAvailable}
use Rattle.dr_seq.proofs.Stamped.{none_marked, length-stamped, stamped-in, stamped-out, marks_none_after, marked-in, marked-out, mark_is}
use Rattle.dr_core.proofs.CoreSteps.{ClaimsKnown, known_at-recent}
use Rattle.dr_core.proofs.Writing.{WritesKnown, unwritten_refused}
use Rattle.dr_core.proofs.Publishing.{PublishesKnown}

-- what a core's view says of a recent sequence is what its slot says
pub known_there : {E : Type 0} (a : Inside E) (s : ℕ) → s < a.next → a.next ≤ s + a.size → known_at (view_of a) s ≡ slot_known (kept_of a) s
known_there a s claimed near = known_at-recent (slot_known (kept_of a)) a.next a.size s claimed near

-- the tests of a publication, in their order
pub publish_fault-known : {E : Type 0} (published written : Bool) (owner p : ℕ) (event : E)
    → publish_fault (known_of published written owner event) p ≡ cond published (Some AlreadyPublished)
    (cond (owner == p) (cond written None (Some NotWritten)) (Some NotClaimed))
publish_fault-known true written owner p event = refl
publish_fault-known false true owner p event = elim (cases_Bool (owner == p)) [ inl y ↦ rw y | inr n ↦ rw n ]
publish_fault-known false false owner p event = elim (cases_Bool (owner == p)) [ inl y ↦ rw y | inr n ↦ rw n ]

-- the tests of a write
pub write_fault-known : {E : Type 0} (published written : Bool) (owner p : ℕ) (event : E)
    → write_fault (known_of published written owner event) p ≡ cond published (Some AlreadyPublished) (cond (owner == p) None (Some NotClaimed))
write_fault-known true written owner p event = refl
write_fault-known false true owner p event = refl
write_fault-known false false owner p event = refl

-- what may be published is known with its slot's event
event_known-known : {E : Type 0} (published written : Bool) (owner p : ℕ) (event : E) → publish_fault (known_of published written owner event) p ≡ None
    → event_known (known_of published written owner event) ≡ Some event
event_known-known true written owner p event e = refl
event_known-known false true owner p event e = refl
event_known-known false false owner p event e = absurd (unwritten_refused (owner == p) e)

-- what is shown is known with its slot's event
event_known-shown : {E : Type 0} (published written : Bool) (owner : ℕ) (event : E) → is_shown (known_of published written owner event) ≡ true
    → Some event ≡ event_known (known_of published written owner event)
event_known-shown true written owner event e = refl
event_known-shown false true owner event e = cc
event_known-shown false false owner event e = cc

is_shown-known : {E : Type 0} (published written : Bool) (owner : ℕ) (event : E) → is_shown (known_of published written owner event) ≡ published
is_shown-known true written owner event = refl
is_shown-known false true owner event = refl
is_shown-known false false owner event = refl

pub shown_event : {E : Type 0} (a : Inside E) (s : ℕ) → s < a.next → a.next ≤ s + a.size → is_shown (known_at (view_of a) s) ≡ true
    → Some (event_at a.blank a.events s) ≡ event_known (known_at (view_of a) s)
shown_event a s claimed near shown =
    let there : known_at (view_of a) s ≡ slot_known (kept_of a) s = known_there a s claimed near in
    rw there (event_known-shown (is_published_at (kept_of a) s) (is_written_at (kept_of a) s) (owner_at a.mode a.owners.items s) (event_at a.blank a.events s) (rw there at shown))

-- the owners after a claim
owner-in : (mode : Mode) (owners : List ℕ) (size from n p s : ℕ) → HasOwners mode owners size → 0 < size → n ≤ size → from ≤ s → s < from + n
    → (mode ≡ Single → p ≡ 0) → owner_at mode (owners_after mode owners from n p) s ≡ p
owner-in Single owners size from n p s has some fits low high one = sym (one refl)
owner-in (Multi producers) owners size from n p s has some fits low high one = rw length-stamped (stamped-in (λ k. p) owners from n 0 s (omega arith) (omega arith) low high)

owner-out : (mode : Mode) (owners : List ℕ) (size from n p s : ℕ) → HasOwners mode owners size → from + n ≤ s + size → s < from + size
    → ((k : ℕ) → k < n → s ≢ from + k) → owner_at mode (owners_after mode owners from n p) s ≡ owner_at mode owners s
owner-out Single owners size from n p s has near far out = refl
owner-out (Multi producers) owners size from n p s has near far out = rw length-stamped (stamped-out (λ k. p) owners from n 0 s (omega arith) (omega arith) out)

pub owners_fit : (mode : Mode) (owners : List ℕ) (size from n p : ℕ) → HasOwners mode owners size → HasOwners mode (owners_after mode owners from n p) size
owners_fit Single owners size from n p has = tt
owners_fit (Multi producers) owners size from n p has = length-stamped (λ k. p) owners from n ∙ has

-- one producer has the number 0
pub one_producer : (mode : Mode) (p : ℕ) → p < producers mode → mode ≡ Single → p ≡ 0
one_producer Single p l same = omega arith
one_producer (Multi n) p l same = absurd (cc)

-- at first nothing is marked
pub none_ahead : (mode : Mode) (n s : ℕ) → is_ahead mode (replicate n 0) s ≡ false
none_ahead Single n s = refl
none_ahead (Multi p) n s = none_marked n s

-- with one producer nothing is ahead of the front, and all is its own
pub single_ahead : (mode : Mode) (published : List ℕ) (s : ℕ) → is_single mode ≡ true → is_ahead mode published s ≡ false
single_ahead Single published s is = refl
single_ahead (Multi n) published s is = absurd (cc)

pub single_owns : (mode : Mode) (owners : List ℕ) (s p : ℕ) → is_single mode ≡ true → p < producers mode → (owner_at mode owners s == p) ≡ true
single_owns Single owners s p is l = eq-eqb 0 p (omega arith)
single_owns (Multi n) owners s p is l = absurd (cc)

-- and what it publishes leaves no mark, and ends at the new front
pub single_marks : (mode : Mode) (published : List ℕ) (from n : ℕ) → is_single mode ≡ true → published_after mode published from n ≡ published
single_marks Single published from n is = refl
single_marks (Multi producers) published from n is = absurd (cc)

pub single_front : (mode : Mode) (published : List ℕ) (front next hi : ℕ) → is_single mode ≡ true → IsNewFront mode published front next hi (hi + 1)
single_front Single published front next hi is = refl
single_front (Multi producers) published front next hi is = absurd (cc)

-- what is past the front is in order as it was, where the count of those written is raised to the front
raised : (filled front k : ℕ) → front ≤ k → nat_lt k (max filled front) ≡ nat_lt k filled
raised filled front k beyond = elim (cases_lt k filled) [
  | inl below ↦ lt-ltb k (max filled front) (omega arith) ∙ sym (lt-ltb k filled below)
  | inr above ↦ le-ltb k (max filled front) (omega arith) ∙ sym (le-ltb k filled above)
]

-- what a write leaves of the marks and of the count of those written in order
record Notes (filled : ℕ) (written : List ℕ) (size next s filled' : ℕ) (written' : List ℕ) : Type 0 where
  pub here : (nat_lt s filled' || is_marked written' s) ≡ true
  pub others : (k : ℕ) → k ≢ s → k < next → next ≤ k + size → (nat_lt k filled' || is_marked written' k) ≡ (nat_lt k filled || is_marked written k)
  pub len : length written' ≡ length written
  pub upto : filled' ≤ next
  pub beyond : (k : ℕ) → next ≤ k → is_marked written' k ≡ false

notes_is : (filled : ℕ) (written : List ℕ) (size next s filled' : ℕ) (written' : List ℕ) → length written ≡ size → 0 < size → s < next
    → next ≤ s + size → filled ≤ next → ((k : ℕ) → next ≤ k → is_marked written k ≡ false)
    → IsNoted filled written s filled' written' → Notes filled written size next s filled' written'
notes_is filled written size next s filled' written' len some claimed near within none (inl at) =
    let here : s ≡ filled = at.0 in
    let up : filled' ≡ s + 1 = at.1 in
    let same : written' ≡ written = at.2 in
    record {
      here = or_left _ _ (lt-ltb s filled' (omega arith));
      others = λ k ne l round. rw same (ap (λ b. b || is_marked written k) (elim (cases_lt k filled) [
        | inl below ↦ lt-ltb k filled' (omega arith) ∙ sym (lt-ltb k filled below)
        | inr above ↦ le-ltb k filled' (omega arith) ∙ sym (le-ltb k filled above)
      ]));
      len = ap length same;
      upto = omega arith;
      beyond = λ k l. rw same (none k l);
    }
notes_is filled written size next s filled' written' len some claimed near within none (inr (inl at)) =
    let up : filled' ≡ filled = at.1 in
    let marked : written' ≡ stamped (entry_of (length written)) written s 1 = at.2 ∙ mark_is written s in
    record {
      here = or_right (nat_lt s filled') _ (rw marked (marked-in written s 1 s (omega arith) (omega arith) (omega arith) (omega arith)));
      others = λ k ne l round. rw (up, marked) (ap (λ b. nat_lt k filled || b) (marked-out written s 1 k (omega arith) (omega arith) (λ j b e. ne (omega arith))));
      len = ap length at.2 ∙ length-set written _ _;
      upto = omega arith;
      beyond = λ k l. rw marked (marks_none_after written s 1 k (omega arith) (omega arith) (none k l));
    }
notes_is filled written size next s filled' written' len some claimed near within none (inr (inr at)) =
    let up : filled' ≡ filled = at.1 in
    let same : written' ≡ written = at.2 in
    let below : s < filled = at.0 in
    record {
      here = or_left _ _ (lt-ltb s filled' (omega arith));
      others = λ k ne l round. rw (up, same);
      len = ap length same;
      upto = omega arith;
      beyond = λ k l. rw same (none k l);
    }

-- what a publication leaves of the marks, with the front that it gives
pub record Moves (mode : Mode) (old new : List ℕ) (size front next lo hi front' : ℕ) : Type 0 where
  pub low : front ≤ front'
  pub high : front' ≤ next
  pub inside : (k : ℕ) → lo ≤ k → k ≤ hi → (nat_lt k front' || is_ahead mode new k) ≡ true
  pub outside : (k : ℕ) → k < next → next ≤ k + size → (k < lo) ⊎ (hi < k) → (nat_lt k front' || is_ahead mode new k) ≡ (nat_lt k front || is_ahead mode old k)
  pub here : front' < next → is_ahead mode new front' ≡ false
  pub len : length new ≡ length old
  pub beyond : (k : ℕ) → next ≤ k → is_ahead mode new k ≡ false

moves : (mode : Mode) (published : List ℕ) (size front next lo hi front' : ℕ) → length published ≡ size → 0 < size → lo ≤ hi → hi < next
    → next ≤ lo + size → next ≤ front + size → front ≤ lo
    → ((k : ℕ) → next ≤ k → is_ahead mode published k ≡ false) → (is_single mode ≡ true → lo ≡ front) → IsNewFront mode (published_after mode published lo (hi + 1 - lo)) front next hi front'
    → Moves mode published (published_after mode published lo (hi + 1 - lo)) size front next lo hi front'
moves Single published size front next lo hi front' len some order claimed near round fresh none in_order found =
    let at : lo ≡ front = in_order refl in
    let new : front' ≡ hi + 1 = found in
    record {
      low = omega arith;
      high = omega arith;
      inside = λ k low high. or_left _ _ (lt-ltb k front' (omega arith));
      outside = λ k l round out. elim out [
        | inl below ↦ or_left _ _ (lt-ltb k front' (omega arith)) ∙ sym (or_left _ _ (lt-ltb k front (omega arith)))
        | inr above ↦ or_from _ _ (le-ltb k front' (omega arith)) refl ∙ sym (or_from _ _ (le-ltb k front (omega arith)) refl)
      ];
      here = λ l. refl;
      len = refl;
      beyond = λ k l. refl;
    }
moves (Multi producers) published size front next lo hi front' len some order claimed near round fresh none in_order found =
    let marked : List ℕ = stamped (entry_of (length published)) published lo (hi + 1 - lo) in
    let is : IsFront (is_marked marked) front next front' = found in
    let outside : (k : ℕ) → k < next → next ≤ k + size → (k < lo) ⊎ (hi < k) → is_marked marked k ≡ is_marked published k =
    λ k l round out. marked-out published lo (hi + 1 - lo) k (omega arith) (omega arith) (λ j b. elim out [ inl below ↦ (λ e. absurd (omega arith)) | inr above ↦ (λ e. absurd (omega arith)) ]) in
    record {
      low = is.low;
      high = is.high;
      inside = λ k low high. or_right (nat_lt k front') _ (marked-in published lo (hi + 1 - lo) k (omega arith) (omega arith) low (omega arith));
      outside = λ k l round out. elim (cases_lt k front) [
        | inl old ↦ or_left _ _ (let low : front ≤ front' = is.low in lt-ltb k front' (omega arith)) ∙ sym (or_left _ _ (lt-ltb k front old))
        | inr fresh ↦ elim (cases_lt k front') [
          | inl passed ↦ or_left _ _ (lt-ltb k front' passed) ∙ sym (or_right (nat_lt k front) _ (sym (outside k l round out) ∙ is.below k fresh passed))
          | inr beyond ↦ ap (λ b. b || is_marked marked k) (le-ltb k front' beyond) ∙ outside k l round out ∙ sym (ap (λ b. b || is_marked published k) (le-ltb k front fresh))
        ]
      ];
      here = is.here;
      len = length-stamped (entry_of (length published)) published lo (hi + 1 - lo);
      beyond = λ k beyond. marks_none_after published lo (hi + 1 - lo) k (omega arith) (omega arith) (none k beyond);
    }

module _ {E : Type 0} (v : CoreView E) (a : KeptBySlot E) (kept : (s : ℕ) → s < v.next → v.next ≤ s + v.setup.size → known_at v s ≡ slot_known a s)
    (available : IsAvailable a v.setup.size v.next) (fronts : a.front ≤ v.next) (some : 0 < v.setup.size) where
  -- a claim touches the owners alone
  pub claims_known : (n p : ℕ) → n ≤ v.setup.size → (a.mode ≡ Single → p ≡ 0)
      → ClaimsKnown v p n (slot_known (record a { owners = owners_after a.mode a.owners v.next n p }))
  claims_known n p fits one = record {
    fresh = λ s low high. (let owner : owner_at a.mode (owners_after a.mode a.owners v.next n p) s ≡ p = owner-in a.mode a.owners v.setup.size v.next n p s available.owners some fits low high one in
        let open' : (nat_lt s a.front || is_ahead a.mode a.published s) ≡ false = or_from _ _ (le-ltb _ _ (omega arith)) (available.unpublished s low) in
        let upto : a.filled ≤ v.next = available.filled in
        let blank : (nat_lt s a.filled || is_marked a.written s) ≡ false = or_from _ _ (le-ltb _ _ (omega arith)) (available.unwritten s low) in
        rw (open', blank, owner));
    kept = λ s old round. (let owner : owner_at a.mode (owners_after a.mode a.owners v.next n p) s ≡ owner_at a.mode a.owners s = owner-out a.mode a.owners v.setup.size v.next n p s available.owners round (omega arith) (λ k l e. absurd (omega arith)) in
        rw owner (sym (kept s old (omega arith))));
  }

  pub claims_available : (n p : ℕ) → IsAvailable (record a { owners = owners_after a.mode a.owners v.next n p }) v.setup.size (v.next + n)
  claims_available n p = record {
    published = available.published;
    written = available.written;
    owners = owners_fit a.mode a.owners v.setup.size v.next n p available.owners;
    events = available.events;
    filled = (let upto : a.filled ≤ v.next = available.filled in omega arith);
    unpublished = λ s after. available.unpublished s (omega arith);
    unwritten = λ s after. available.unwritten s (omega arith);
  }

  -- a write notes its sequence as written
  module _ (p s : ℕ) (x : E) (filled' : ℕ) (written' : List ℕ) (claimed : s < v.next) (near : v.next ≤ s + v.setup.size)
      (noted : IsNoted a.filled a.written s filled' written') where
    abbrev after : KeptBySlot E
    after = record a { filled = filled'; written = written'; events = set a.events (s % length a.events) x }

    notes : Notes a.filled a.written v.setup.size v.next s filled' written'
    notes = notes_is a.filled a.written v.setup.size v.next s filled' written' available.written some claimed near available.filled available.unwritten noted

    pub writes_known : is_published_at a s ≡ false → owner_at a.mode a.owners s ≡ p → WritesKnown v p s x (slot_known after)
    writes_known unpublished mine =
        let lene : length a.events ≡ v.setup.size = available.events in
        record {
          here = (let event : event_at a.blank after.events s ≡ x = rw length-set (get_or-set_same a.events (s % length a.events) x a.blank (mod-lt s (omega arith))) in
              rw (unpublished, notes.here, event, mine));
          kept = λ k ne l round. (let apart : k % length a.events ≢ s % length a.events = slots_differ (length a.events) k s ne (omega arith) (omega arith) in
              let event : event_at a.blank after.events k ≡ event_at a.blank a.events k = rw length-set (get_or-set_other a.events (s % length a.events) (k % length a.events) x a.blank apart) in
              rw (notes.others k ne l round, event) (sym (kept k l round)));
        }

    pub writes_available : IsAvailable after v.setup.size v.next
    writes_available =
        record {
          published = available.published;
          written = notes.len ∙ available.written;
          owners = available.owners;
          events = length-set a.events _ x ∙ available.events;
          filled = notes.upto;
          unpublished = available.unpublished;
          unwritten = notes.beyond;
        }

  -- a publication leaves its stretch published, and moves the front
  module _ (p lo hi front' : ℕ) (order : lo ≤ hi) (claimed : hi < v.next) (near : v.next ≤ lo + v.setup.size)
      (round : v.next ≤ v.front + v.setup.size) (same_front : a.front ≡ v.front) (fresh : v.front ≤ lo)
      (in_order : is_single a.mode ≡ true → lo ≡ v.front)
      (found : IsNewFront a.mode (published_after a.mode a.published lo (hi + 1 - lo)) v.front v.next hi front') where
    abbrev marked : List ℕ
    marked = published_after a.mode a.published lo (hi + 1 - lo)

    abbrev shown : KeptBySlot E
    shown = record a { published = marked; front = front'; filled = max a.filled front' }

    pub publishes_moves : Moves a.mode a.published marked v.setup.size v.front v.next lo hi front'
    publishes_moves = moves a.mode a.published v.setup.size v.front v.next lo hi front'
        available.published some order claimed near round fresh available.unpublished in_order found

    same_mark : (k : ℕ) → k < v.next → v.next ≤ k + v.setup.size → (k < lo) ⊎ (hi < k) → is_published_at shown k ≡ is_published_at a k
    same_mark k l round out = rw same_front (publishes_moves.outside k l round out)

    same_slot : (k : ℕ) → k < v.next → v.next ≤ k + v.setup.size → (k < lo) ⊎ (hi < k) → slot_known shown k ≡ slot_known a k
    same_slot k l round out =
        let same : is_published_at shown k ≡ is_published_at a k = same_mark k l round out in
        elim (cases_lt k front') [
          | inl passed ↦ (let there : is_published_at shown k ≡ true = or_left _ _ (lt-ltb k front' passed) in
              let old : is_published_at a k ≡ true = sym same ∙ there in
              rw (there, old))
          | inr beyond ↦ (let written : is_written_at shown k ≡ is_written_at a k = ap (λ b. b || is_marked a.written k) (raised a.filled front' k beyond) in
              rw (same, written))
        ]

    pub publishes_known : ((j : ℕ) → j < hi + 1 - lo → publish_fault (known_at v (lo + j)) p ≡ None) → PublishesKnown v lo hi (slot_known shown)
    publishes_known none = record {
      inside = λ k low high. (let off : lo + (k - lo) ≡ k = omega arith in
          let fine : publish_fault (known_at v k) p ≡ None = rw off at (none (k - lo) (omega arith)) in
          let there : known_at v k ≡ slot_known a k = kept k (omega arith) (omega arith) in
          let value : event_known (known_at v k) ≡ Some (event_at a.blank a.events k) = ap event_known there ∙ event_known-known (is_published_at a k) (is_written_at a k) (owner_at a.mode a.owners k) p (event_at a.blank a.events k) (rw there at fine) in
          let published : is_published_at shown k ≡ true = publishes_moves.inside k low high in
          (event_at a.blank a.events k, rw published refl, value));
      outside = λ k l round out. same_slot k l round out ∙ sym (kept k l round);
    }

    -- the front that the marks have is the front of what is known
    pub front_known : IsFront (λ s. is_shown (slot_known shown s)) v.front v.next front'
    front_known = record {
      low = publishes_moves.low;
      high = publishes_moves.high;
      below = λ s low high. is_shown-known (is_published_at shown s) (is_written_at shown s) (owner_at a.mode a.owners s) (event_at a.blank a.events s)
          ∙ or_left _ _ (lt-ltb s front' high);
      here = λ l. is_shown-known (is_published_at shown front') (is_written_at shown front') (owner_at a.mode a.owners front') (event_at a.blank a.events front')
          ∙ or_from _ _ (le-ltb front' front' (omega arith)) (publishes_moves.here l);
    }

    pub publishes_available : IsAvailable shown v.setup.size v.next
    publishes_available =
        record {
          published = publishes_moves.len ∙ available.published;
          written = available.written;
          owners = available.owners;
          events = available.events;
          filled = (let upto : a.filled ≤ v.next = available.filled in let high : front' ≤ v.next = publishes_moves.high in omega arith);
          unpublished = publishes_moves.beyond;
          unwritten = available.unwritten;
        }

-- what refuses to publish a recent sequence, by the tests of its slot
pub publish_fault_is : {E : Type 0} (a : Inside E) (s p : ℕ) (published mine written : Bool) → s < a.next → a.next ≤ s + a.size
    → is_published_at (kept_of a) s ≡ published → (owner_at a.mode a.owners.items s == p) ≡ mine → is_written_at (kept_of a) s ≡ written
    → publish_fault (known_at (view_of a) s) p ≡ cond published (Some AlreadyPublished) (cond mine (cond written None (Some NotWritten)) (Some NotClaimed))
publish_fault_is a s p published mine written claimed near e1 e2 e3 =
    ap (λ k. publish_fault k p) (known_there a s claimed near)
    ∙ publish_fault-known (is_published_at (kept_of a) s) (is_written_at (kept_of a) s) (owner_at a.mode a.owners.items s) p (event_at a.blank a.events s)
    ∙ rw (e1, e2, e3)

-- what refuses to write one
pub write_fault_is : {E : Type 0} (a : Inside E) (s p : ℕ) (published mine : Bool) → s < a.next → a.next ≤ s + a.size
    → is_published_at (kept_of a) s ≡ published → (owner_at a.mode a.owners.items s == p) ≡ mine
    → write_fault (known_at (view_of a) s) p ≡ cond published (Some AlreadyPublished) (cond mine None (Some NotClaimed))
write_fault_is a s p published mine claimed near e1 e2 =
    ap (λ k. write_fault k p) (known_there a s claimed near)
    ∙ write_fault-known (is_published_at (kept_of a) s) (is_written_at (kept_of a) s) (owner_at a.mode a.owners.items s) p (event_at a.blank a.events s)
    ∙ rw (e1, e2)
