-- What a sender's marks tell of its sequences.
use Rattle.std.specs.Prelude.{◌≡◌, ℕ, ◌+◌, ◌-◌, ◌%◌, ◌^◌, ◌<◌, ◌≤◌, ◌&&◌, Bool, true, not, if◌then◌else◌, List, length, map, slice_set}
use Rattle.dr_seq.specs.Size.{IsSize}
use Rattle.dr_seq.specs.Rounds.{entry_of, is_marked}
use Rattle.dr_seq.specs.Stamped.{stamped}
use Rattle.dr_plain_senders.specs.declared.owned.Mark.{Mark}

-- the rounds in which a sender claimed, wrote and published, an entry a slot
pub record Owned : Type 0 where
  pub claimed : List ℕ
  pub written : List ℕ
  pub published : List ℕ

-- what a mark enters in each
abbrev pub claimed_by : Mark → ℕ
claimed_by m = m.entry

abbrev pub written_by : Mark → ℕ
written_by m = if m.is_written then m.entry else 0

abbrev pub published_by : Mark → ℕ
published_by m = if m.is_published then m.entry else 0

-- nothing is marked in the slots of n sequences from s on
abbrev pub wiped : List ℕ → ℕ → ℕ → List ℕ
wiped rounds s n = stamped (λ _. 0) rounds s n

-- the marks of a last claim say that all of it is published: it is so below `shown`, and below `filled` it is written
abbrev pub owned_of : List Mark → ℕ → ℕ → ℕ → Owned
owned_of marks shown filled end = record {
  claimed = map claimed_by marks;
  written = wiped (map written_by marks) filled (end - filled);
  published = wiped (map published_by marks) shown (end - shown);
}

-- the mark of a sequence that is published
abbrev pub done : ℕ → Mark
done entry = record { entry = entry; is_written = true; is_published = true }

-- n sequences from s on are claimed, and nothing in their slots is written or published any more
abbrev pub after_claim : Owned → ℕ → ℕ → Owned
after_claim o s n = record {
  claimed = stamped (entry_of (length o.claimed)) o.claimed s n;
  written = wiped o.written s n;
  published = wiped o.published s n;
}

-- a sequence is written
abbrev pub after_write : Owned → ℕ → Owned
after_write o s = record o { written = slice_set o.written (s % length o.written) (entry_of (length o.written) s) }

-- n sequences from s on are published
abbrev pub after_publication : Owned → ℕ → ℕ → Owned
after_publication o s n = record o { published = stamped (entry_of (length o.published)) o.published s n }

-- by a sender's marks, a sequence is its own and not published
abbrev pub is_open : Owned → ℕ → Bool
is_open o s = is_marked o.claimed s && not (is_marked o.published s)

-- and it may be published
abbrev pub is_ready : Owned → ℕ → Bool
is_ready o s = (is_marked o.claimed s && not (is_marked o.published s)) && is_marked o.written s

-- a sender's marks, and of its last claim which sequences are not published, and which not written
pub record OwnedFits (marks : List Mark) (size shown filled end : ℕ) : Type 0 where
  pub count : length marks ≡ size
  pub made : IsSize size
  pub order : (shown ≤ filled) × (filled ≤ end) × (end ≤ 2 ^ 62)
  pub round : end ≤ shown + size
  pub claimed : (s : ℕ) → shown ≤ s → s < end → is_marked (map claimed_by marks) s ≡ true
  pub written : (s : ℕ) → shown ≤ s → s < end → is_marked (map written_by marks) s ≡ true
  pub published : (s : ℕ) → shown ≤ s → s < end → is_marked (map published_by marks) s ≡ true
