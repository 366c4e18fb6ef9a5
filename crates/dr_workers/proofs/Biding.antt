-- A worker's calls of its end, with what they make of its patience.
use Rattle.std.proofs.Common.{◌≡◌, ◌++◌, ◌∷◌, [], ℕ, zero, suc, List, replicate, Result, Err, refl, sym, subst, ap}
use Rattle.dr_meaning.specs.declared.ends.Trouble.{Trouble}
use Rattle.dr_meaning.specs.declared.ends.Trouble.TheVariants.{Memory}
use Rattle.dr_meaning.specs.Calls.Calling.{CallsLead, InletCall, TriesClaim, WritesOne, WritesMany, PublishesStretch, OutletCall, PollsInto}
use Rattle.dr_meaning.specs.Calls.Calling.{CompletesBelow, SomeCalls}
use Rattle.dr_workers.specs.Calls.Waits.{Attended, Attends, Provided, Provides}
use Rattle.dr_workers.specs.Inside.Retries.{Retries, tries_in}

-- an end with its worker's patience
abbrev pub end_with : {S P : Type 0} → S → P → Attended S P
end_with e p = record { end = e; patience = p }

module _ {S P E : Type 0} (does : S → OutletCall E → S → Type 0) (waits : P → P → Type 0) (finds : P → ℕ → P → Type 0) where
  called : (a b : Attended S P) (call : OutletCall E) → Attends does waits finds a call b → does a.end call b.end
  called a b (PollsInto before after answer) h = h.0
  called a b (CompletesBelow upto answer) h = h.0

  leads : (a b : Attended S P) (calls : List (OutletCall E)) → CallsLead (Attends does waits finds) a calls b → CallsLead does a.end calls b.end
  leads a b [] h = ap (λ (x : Attended S P). x.end) h
  leads a b (call ∷ calls) h = (h.0.end, called a h.0 call h.1, leads h.0 b calls h.2)

  -- what the end alone was called
  pub end_alone : (a b : Attended S P) (Holds : List (OutletCall E) → Type 0) → SomeCalls (Attends does waits finds) a b Holds
      → SomeCalls does a.end b.end Holds
  end_alone a b Holds h = record { calls = h.calls; lead = leads a b h.calls h.lead; holds = h.holds }

  -- a completion that is tried until memory suffices asks for no patience
  tries : (p : P) (upto times : ℕ) (r : Result (Unit {0}) Trouble) (a b : S)
      → CallsLead does a (replicate times (CompletesBelow upto (Err Memory)) ++ CompletesBelow upto r ∷ []) b
      → CallsLead (Attends does waits finds) (end_with a p) (replicate times (CompletesBelow upto (Err Memory)) ++ CompletesBelow upto r ∷ []) (end_with b p)
  tries p upto zero r a b h = (end_with h.0 p, (h.1, refl), ap (λ (x : S). end_with x p) h.2)
  tries p upto (suc times) r a b h = (end_with h.0 p, (h.1, refl), tries p upto times r h.0 b h.2)

  pub completing : (p : P) (upto : ℕ) (r : Result (Unit {0}) Trouble) (a b : S)
      → SomeCalls does a b (Retries (CompletesBelow upto (Err Memory)) (CompletesBelow upto r))
      → SomeCalls (Attends does waits finds) (end_with a p) (end_with b p) (Retries (CompletesBelow upto (Err Memory)) (CompletesBelow upto r))
  completing p upto r a b h = record {
    calls = h.calls;
    lead = subst (λ l. CallsLead (Attends does waits finds) (end_with a p) l (end_with b p)) (sym h.holds.1)
        (tries p upto h.holds.0 r a b (subst (λ l. CallsLead does a l b) h.holds.1 h.lead));
    holds = h.holds;
  }

-- and with the room that was found
abbrev pub with_room : {S P : Type 0} → S → P → ℕ → Provided S P
with_room e p room = record { end = e; patience = p; room = room }

module _ {S P E : Type 0} (does : S → InletCall E → S → Type 0) (waits : P → P → Type 0) (finds : P → ℕ → P → Type 0) where
  made : (a b : Provided S P) (call : InletCall E) → Provides does waits finds a call b → does a.end call b.end
  made a b (TriesClaim n answer) h = h.0
  made a b (WritesOne s event answer) h = h.0
  made a b (WritesMany lo events wrote) h = h.0
  made a b (PublishesStretch lo hi answer) h = h.0

  makes : (a b : Provided S P) (calls : List (InletCall E)) → CallsLead (Provides does waits finds) a calls b → CallsLead does a.end calls b.end
  makes a b [] h = ap (λ (x : Provided S P). x.end) h
  makes a b (call ∷ calls) h = (h.0.end, made a h.0 call h.1, makes h.0 b calls h.2)

  -- what the end alone was called
  pub inlet_alone : (a b : Provided S P) (Holds : List (InletCall E) → Type 0) → SomeCalls (Provides does waits finds) a b Holds
      → SomeCalls does a.end b.end Holds
  inlet_alone a b Holds h = record { calls = h.calls; lead = makes a b h.calls h.lead; holds = h.holds }

  untouched : (p : P) (room : ℕ) (calls : List (InletCall E)) → tries_in calls ≡ [] → (a b : S) → CallsLead does a calls b
      → CallsLead (Provides does waits finds) (with_room a p room) calls (with_room b p room)
  untouched p room [] is a b h = ap (λ (x : S). with_room x p room) h
  untouched p room (TriesClaim n answer ∷ calls) is a b h = absurd (cc)
  untouched p room (WritesOne s event answer ∷ calls) is a b h = (with_room h.0 p room, (h.1, (refl, refl)), untouched p room calls is h.0 b h.2)
  untouched p room (WritesMany lo events wrote ∷ calls) is a b h = (with_room h.0 p room, (h.1, (refl, refl)), untouched p room calls is h.0 b h.2)
  untouched p room (PublishesStretch lo hi answer ∷ calls) is a b h = (with_room h.0 p room, (h.1, (refl, refl)), untouched p room calls is h.0 b h.2)

  -- calls that try no claim ask for no patience
  pub with_patience : (p : P) (room : ℕ) (a b : S) (Holds : List (InletCall E) → Type 0) (h : SomeCalls does a b Holds) → tries_in h.calls ≡ []
      → SomeCalls (Provides does waits finds) (with_room a p room) (with_room b p room) Holds
  with_patience p room a b Holds h none = record { calls = h.calls; lead = untouched p room h.calls none a b h.lead; holds = h.holds }
