-- What the entries of a history say of each claimed sequence.
use Rattle.std.specs.Prelude.{◌≡◌, ℕ, ◌<◌, ◌≤◌, true, false, ◌&&◌, ◌||◌, ◌==◌, nat_le, if◌then◌else◌, None, Some, List, [], ◌∷◌, ◌++◌, length, replicate, filter, slice_index, slice_index_or}
use Rattle.std.specs.List.{filter_map}
use Rattle.dr_meaning.specs.declared.command.Command.{Command}
use Rattle.dr_meaning.specs.declared.command.Command.TheVariants.{Claim, Write, Publish}
use Rattle.dr_meaning.specs.Meaning.Machine.{Setup, State, step, next}
use Rattle.dr_lock.specs.declared.entry.Entry.{Entry}
use Rattle.dr_lock.specs.declared.sequences.Sequence.{Sequence}
use Rattle.dr_lock.specs.Meaning.History.{is_kept}

-- a sequence that was just claimed
abbrev pub just_claimed : {E : Type 0} → ℕ → Sequence E
just_claimed p = record { owner = p; event = None; is_published = false }

-- what stands where no sequence is
abbrev pub nothing : {E : Type 0} → Sequence E
nothing = just_claimed 0

-- what a list knows of a sequence
abbrev pub known : {E : Type 0} → List (Sequence E) → ℕ → Sequence E
known list s = slice_index_or list s nothing

-- what a state knows of a sequence
abbrev pub known_in : {E : Type 0} → State E → ℕ → Sequence E
known_in m s =
    record { owner = slice_index m.owners s; event = m.written s; is_published = m.published s }

-- a list has a place for each claimed sequence, with what the state knows of it
pub record Lists {E : Type 0} (list : List (Sequence E)) (m : State E) : Type 0 where
  pub length : length list ≡ next m
  pub at : (s : ℕ) → s < next m → known list s ≡ known_in m s

abbrev pub published_in : {E : Type 0} → ℕ → ℕ → ℕ → Sequence E → Sequence E
published_in lo hi s x =
    record { owner = x.owner; event = x.event; is_published = x.is_published || (nat_le lo s && nat_le s hi) }

abbrev pub written_in : {E : Type 0} → ℕ → E → ℕ → Sequence E → Sequence E
written_in at event s x =
    record { owner = x.owner; event = if s == at then Some event else x.event; is_published = x.is_published }

-- what an accepted command makes of a list
abbrev pub Changes : {E : Type 0} → Command E → List (Sequence E) → List (Sequence E) → Type 0
Changes (Claim p n) old new = new ≡ old ++ replicate n (just_claimed p)
Changes (Write p s event) old new = (length new ≡ length old) × ((k : ℕ) → k < length old → known new k ≡ written_in s event k (known old k))
Changes (Publish p lo hi) old new = (length new ≡ length old) × ((k : ℕ) → k < length old → known new k ≡ published_in lo hi k (known old k))
Changes other old new = new ≡ old

-- an accepted command speaks of claimed sequences
abbrev pub Speaks : {E : Type 0} → Command E → ℕ → Type 0
Speaks (Write p s event) len = s < len
Speaks (Publish p lo hi) len = (lo ≤ hi) × (hi < len)
Speaks other len = Unit {0}

-- from a state the machine gives these replies, which are all kept, and ends in another
abbrev pub Follows : {E : Type 0} → Setup → State E → List (Entry E) → State E → Type 0
Follows c m [] end = m ≡ end
Follows c m (e ∷ es) end = ((step c m e.command).reply ≡ e.reply) × (is_kept e.reply ≡ true) × Follows c (step c m e.command).state es end

-- the published events, in order
abbrev pub published_of : {E : Type 0} → List (Sequence E) → List E
published_of list = filter_map (λ x. x.event) (filter (λ x. x.is_published) list)

-- the published events of a producer, in order
abbrev pub sent_of : {E : Type 0} → List (Sequence E) → ℕ → List E
sent_of list p = filter_map (λ x. x.event) (filter (λ x. x.is_published && x.owner == p) list)
