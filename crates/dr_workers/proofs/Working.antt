-- A handler's work, batch after batch.
use Rattle.std.proofs.Common.{◌≡◌, ◌<◌, ◌≤◌, ◌+◌, ℕ, Bool, List, [], ◌∷◌, ◌++◌, length, take, Option, Ok}
use Rattle.std.proofs.Common.{inl, inr, ⊎_elim, refl, sym, ap, ◌∙◌, arith, append_assoc, length-append}
use Rattle.std.proofs.lemmas.List.{append-nil, length-take-le}
use Rattle.dr_meaning.specs.declared.command.Polled.{Polled}
use Rattle.dr_meaning.specs.declared.command.Polled.TheVariants.{Batch}
use Rattle.dr_meaning.specs.Calls.Ends.{FillsFront, Received, WhereShown, Takes, Completes}
use Rattle.dr_meaning.specs.Calls.Handling.{GoesThrough, Relation, Showing, showings}
use Rattle.dr_workers.specs.Meaning.Work.{Dealt, FollowFrom, HandsOut, IsDone, Works, dealt_events, shown_of}
use Rattle.dr_workers.proofs.Showing.{shown_as, shown_none, shown_through}

shown_of-append : {E : Type 0} (bs cs : List (Dealt E)) → shown_of (bs ++ cs) ≡ shown_of bs ++ shown_of cs
shown_of-append [] cs = refl
shown_of-append (b ∷ bs) cs = ap (λ l. showings b.events b.first b.end ++ l) (shown_of-append bs cs)
    ∙ sym (append_assoc (showings b.events b.first b.end) (shown_of bs) (shown_of cs))

dealt_events-append : {E : Type 0} (bs cs : List (Dealt E)) → dealt_events (bs ++ cs) ≡ dealt_events bs ++ dealt_events cs
dealt_events-append [] cs = refl
dealt_events-append (b ∷ bs) cs = ap (λ l. b.events ++ l) (dealt_events-append bs cs) ∙ sym (append_assoc b.events (dealt_events bs) (dealt_events cs))

FollowFrom-append : {E : Type 0} (s t : ℕ) (bs cs : List (Dealt E)) → t ≡ s + length (dealt_events bs) → FollowFrom s bs → FollowFrom t cs
    → FollowFrom s (bs ++ cs)
FollowFrom-append s t [] cs is h k = (let same : t ≡ s = omega arith in rw same at k)
FollowFrom-append s t (b ∷ bs) cs is h k =
    let all : length (b.events ++ dealt_events bs) ≡ length b.events + length (dealt_events bs) = length-append b.events (dealt_events bs) in
    (h.0, h.1, FollowFrom-append (s + length b.events) t bs cs (omega arith) h.2 k)

GoesThrough-append : {E : Type 0} {A : Type 0} (goes : Relation E A) (before : A) (xs ys : List (Showing E)) (between after : A)
    → GoesThrough goes before xs between
    → GoesThrough goes between ys after → GoesThrough goes before (xs ++ ys) after
GoesThrough-append goes before [] ys between after h k = rw h k
GoesThrough-append goes before (x ∷ xs) ys between after h k = (h.0, h.1, GoesThrough-append goes h.0 xs ys between after h.2 k)

hands_more : {E : Type 0} (bs cs : List (Dealt E)) (old mid new : Received E) → HandsOut bs old mid → HandsOut cs mid new → HandsOut (bs ++ cs) old new
hands_more bs cs old mid new h k =
    let events : new.events ≡ old.events ++ dealt_events (bs ++ cs) = k.0 ∙ ap (λ l. l ++ dealt_events cs) h.0
    ∙ append_assoc old.events (dealt_events bs) (dealt_events cs) ∙ ap (λ l. old.events ++ l) (sym (dealt_events-append bs cs)) in
    let at : length mid.events ≡ length old.events + length (dealt_events bs) = ap length h.0 ∙ length-append old.events (dealt_events bs) in
    (events, FollowFrom-append (length old.events) (length mid.events) bs cs at h.1 k.1)

pub hands_none : {E : Type 0} (a : Received E) → HandsOut [] a a
hands_none a = (sym (append-nil a.events), tt)

-- nothing was done
pub works_none : {E : Type 0} {A : Type 0} (goes : Relation E A) (before : A) (old : Option (Received E)) → Works goes before before old old []
works_none goes before old = record { through = refl; handed = shown_none (HandsOut []) hands_none old }

-- some work after other work
pub works_more : {E : Type 0} {A : Type 0} (goes : Relation E A) (before between after : A) (old mid new : Option (Received E)) (bs cs : List (Dealt E))
    → Works goes before between old mid bs
    → Works goes between after mid new cs → Works goes before after old new (bs ++ cs)
works_more goes before between after old mid new bs cs h k = record {
  through = rw shown_of-append (GoesThrough-append goes before (shown_of bs) (shown_of cs) between after h.through k.through);
  handed = shown_through (HandsOut bs) (HandsOut cs) (HandsOut (bs ++ cs)) (hands_more bs cs) old mid new h.handed k.handed;
}

-- what an end does that hands a batch out and has it completed
abbrev pub TakesBatch : {E : Type 0} → List E → ℕ → ℕ → Bool → Received E → Received E → Type 0
TakesBatch out first count end old new = Takes out (Ok (Batch first count end)) old new

abbrev pub IsCompleted : {E : Type 0} → ℕ → Received E → Received E → Type 0
IsCompleted upto old new = Completes upto (Ok tt) old new

abbrev pub one : {E : Type 0} → List E → ℕ → ℕ → Bool → Dealt E
one out first count end = record { first = first; events = take count out; end = end }

taken_one : {E : Type 0} (out : List E) (first count : ℕ) (end : Bool) → 0 < count → count ≤ length out → (a b : Received E)
    → TakesBatch out first count end a b → HandsOut (one out first count end ∷ []) a b
taken_one out first count end some within a b h =
    let many : length (take count out) ≡ count = length-take-le count out within in
    (ap (λ r. r.events) h.1 ∙ ap (λ l. a.events ++ l) (sym (append-nil (take count out))), (h.0, (let is = many in omega arith), tt))

completed_one : {E : Type 0} (upto : ℕ) (bs : List (Dealt E)) (a b c : Received E) → HandsOut bs a b → IsCompleted upto b c → HandsOut bs a c
completed_one upto bs a b c h k = (ap (λ r. r.events) k ∙ h.0, h.1)

-- an end handed a batch out, to the front of a buffer
pub record IsDealt {E : Type 0} (out : List E) (first count : ℕ) (end : Bool) (old new : Option (Received E)) : Type 0 where
  pub some : 0 < count
  pub within : count ≤ length out
  pub taken : WhereShown (TakesBatch out first count end) old new

pub dealt : {E : Type 0} (before out : List E) (answer : Polled) (first count : ℕ) (end : Bool) (old new : Option (Received E)) → answer ≡ Batch first count end
    → FillsFront before out (Ok answer) → length out ≡ length before → WhereShown (Takes out (Ok answer)) old new → IsDealt out first count end old new
dealt before out answer first count end old new is fills whole taken =
    let f : FillsFront before out (Ok (Batch first count end)) = rw is at fills in
    record { some = f.0; within = (let room : count ≤ length before = f.1 in omega arith); taken = rw is at taken }

-- a batch was handed out, shown and then completed
pub works_batch : {E : Type 0} {A : Type 0} (goes : Relation E A) (before after : A) (out : List E) (first count upto : ℕ) (end : Bool)
    (old mid new : Option (Received E)) → IsDealt out first count end old mid
    → GoesThrough goes before (showings (take count out) first end) after → WhereShown (IsCompleted upto) mid new
    → Works goes before after old new (one out first count end ∷ [])
works_batch goes before after out first count upto end old mid new deal through done = record {
  through = rw (append-nil (showings (take count out) first end)) through;
  handed = shown_through (TakesBatch out first count end) (IsCompleted upto) (HandsOut (one out first count end ∷ []))
      (λ a b c h k. completed_one upto (one out first count end ∷ []) a b c (taken_one out first count end deal.some deal.within a b h) k)
      old mid new deal.taken done;
}

-- a batch was handed out and shown
pub works_shown : {E : Type 0} {A : Type 0} (goes : Relation E A) (before after : A) (out : List E) (first count : ℕ) (end : Bool)
    (old mid new : Option (Received E)) → IsDealt out first count end old mid
    → GoesThrough goes before (showings (take count out) first end) after → new ≡ mid → Works goes before after old new (one out first count end ∷ [])
works_shown {E} goes before after out first count end old mid new deal through same = record {
  through = rw (append-nil (showings (take count out) first end)) through;
  handed = rw same (shown_through (TakesBatch out first count end) (λ b c. c ≡ b) (HandsOut (one out first count end ∷ []))
      (λ a b c h k. rw k (taken_one out first count end deal.some deal.within a b h)) old mid mid deal.taken
      (shown_none (λ (b c : Received E). c ≡ b) (λ b. refl) mid));
}

-- what is completed

done_after : {E : Type 0} (a b c : Received E) → IsDone a b → IsDone b c → IsDone a c
done_after a b c h k = ⊎_elim (λ all. inl all) (λ same. rw same h) k

done_one : {E : Type 0} (out : List E) (first count : ℕ) (end : Bool) → 0 < count → count ≤ length out → (a b c : Received E)
    → TakesBatch out first count end a b → IsCompleted (first + count) b c → IsDone a c
done_one out first count end some within a b c h k =
    let many : length (take count out) ≡ count = length-take-le count out within in
    let long : length b.events ≡ length a.events + length (take count out) = ap (λ r. length r.events) h.1 ∙ length-append a.events (take count out) in
    let at : first ≡ length a.events = h.0 in
    let whole : first + count ≡ length b.events = omega arith in
    inl (ap (λ r. r.completed) k ∙ whole ∙ sym (ap (λ r. length r.events) k))

-- some work after other work
pub done_more : {E : Type 0} (o p q : Option (Received E)) → WhereShown IsDone o p → WhereShown IsDone p q → WhereShown IsDone o q
done_more o p q h k = shown_through IsDone IsDone IsDone done_after o p q h k

-- a batch was handed out and then completed
pub done_batch : {E : Type 0} (out : List E) (first count : ℕ) (end : Bool) (o p q : Option (Received E)) → IsDealt out first count end o p
    → WhereShown (IsCompleted (first + count)) p q → WhereShown IsDone o q
done_batch out first count end o p q deal k =
    shown_through (TakesBatch out first count end) (IsCompleted (first + count)) IsDone (done_one out first count end deal.some deal.within)
    o p q deal.taken k

-- nothing came
pub done_none : {E : Type 0} (o p : Option (Received E)) → WhereShown (λ (a b : Received E). b ≡ a) o p → WhereShown IsDone o p
done_none {E} o p h = shown_as (λ (a b : Received E). b ≡ a) IsDone (λ a b same. inr same) o p h

pub done_first : {E : Type 0} (o : Option (Received E)) → WhereShown IsDone o o
done_first o = shown_none IsDone (λ a. inr refl) o
