-- What a handler went through that listed what it was shown.
use Rattle.std.proofs.Common.{◌≡◌, ◌<◌, ◌≤◌, ◌+◌, ℕ, Bool, true, false, List, [], ◌∷◌, ◌++◌, length, map, All, inl, inr, refl, sym, ap, subst, ◌∙◌, arith, append_assoc, length-append}
use Rattle.std.specs.Prelude.{◌⊎◌}
use Rattle.std.proofs.lemmas.List.{append-nil, length_push, map-append}
use Rattle.std.proofs.lemmas.List.Elements.{All-cons, All-nil}
use Rattle.dr_seq.specs.declared.event.Event.{Event}
use Rattle.dr_meaning.specs.Calls.Handling.{GoesThrough, Relation, Showing, showings}
use Rattle.dr_workers.specs.Meaning.Work.{Dealt, FollowFrom, dealt_events, shown_of}
use Rattle.dr_disruptor.specs.Handlers.{WentThrough}
use Rattle.dr_disruptor.specs.Serving.{IsPolled}
use Rattle.dr_disruptor_lock.specs.declared.watching.Watching.{Watching}
use Rattle.dr_disruptor_lock.specs.Watching.{HasListed, IsNew, Watches}

-- Of what was shown.

abbrev pub events_shown : List (Showing Event) → List Event
events_shown xs = map (λ (x : Showing Event). x.event) xs

-- the sequences rise by one from a first one
abbrev pub Numbered : ℕ → List (Showing Event) → Type 0
Numbered n [] = Unit {0}
Numbered n (x ∷ xs) = (x.sequence ≡ n) × Numbered (n + 1) xs

-- the last one is marked so
abbrev pub EndsSo : Bool → List (Showing Event) → Type 0
EndsSo end [] = Unit {0}
EndsSo end (x ∷ []) = x.end ≡ end
EndsSo end (x ∷ y ∷ xs) = EndsSo end (y ∷ xs)

numbered_behind : (n : ℕ) (xs ys : List (Showing Event)) → Numbered n (xs ++ ys) → Numbered (n + length xs) ys
numbered_behind n [] ys is = let same : n ≡ n + 0 = omega arith in subst (λ (m : ℕ). Numbered m ys) same is
numbered_behind n (x ∷ xs) ys is =
    let same : n + 1 + length xs ≡ n + length (x ∷ xs) = omega arith in
    subst (λ (m : ℕ). Numbered m ys) same (numbered_behind (n + 1) xs ys is.1)

ends_behind : (end : Bool) (xs ys : List (Showing Event)) → EndsSo end (xs ++ ys) → EndsSo end ys
ends_behind end xs [] is = tt
ends_behind end [] (y ∷ ys) is = is
ends_behind end (x ∷ []) (y ∷ ys) is = is
ends_behind end (x ∷ z ∷ xs) (y ∷ ys) is = ends_behind end (z ∷ xs) (y ∷ ys) is

-- Of one batch.

showings_length : (events : List Event) (first : ℕ) (end : Bool) → length (showings events first end) ≡ length events
showings_length [] first end = refl
showings_length (e ∷ []) first end = refl
showings_length (e ∷ f ∷ events) first end = let rest = showings_length (f ∷ events) (first + 1) end in omega arith

showings_events : (events : List Event) (first : ℕ) (end : Bool) → events_shown (showings events first end) ≡ events
showings_events [] first end = refl
showings_events (e ∷ []) first end = refl
showings_events (e ∷ f ∷ events) first end = ap (λ (l : List Event). e ∷ l) (showings_events (f ∷ events) (first + 1) end)

showings_first : (n : ℕ) (events : List Event) (first : ℕ) (end : Bool) (ys : List (Showing Event)) → 0 < length events
    → Numbered n (showings events first end ++ ys) → first ≡ n
showings_first n [] first end ys some is = absurd (omega arith)
showings_first n (e ∷ []) first end ys some is = is.0
showings_first n (e ∷ f ∷ events) first end ys some is = is.0

showings_end : (last : Bool) (events : List Event) (first : ℕ) (end : Bool) → 0 < length events → EndsSo last (showings events first end ++ []) → end ≡ last
showings_end last [] first end some is = absurd (omega arith)
showings_end last (e ∷ []) first end some is = is
showings_end last (e ∷ f ∷ events) first end some is =
    showings_end last (f ∷ events) (first + 1) end (omega arith)
    (ends_behind last (showings (e ∷ []) first false) (showings (f ∷ events) (first + 1) end ++ []) is)

-- Of several.

-- a batch of a poll with so much room: it has an event, it fits, and it ended what was available or fills the room
abbrev pub IsFull : ℕ → Dealt Event → Type 0
IsFull room b = (0 < length b.events) × (length b.events ≤ room) × ((b.end ≡ true) ⊎ (length b.events ≡ room))

abbrev pub AreFull : ℕ → List (Dealt Event) → Type 0
AreFull room [] = Unit {0}
AreFull room (b ∷ bs) = IsFull room b × AreFull room bs

abbrev LastEnds : Bool → List (Dealt Event) → Type 0
LastEnds end [] = Unit {0}
LastEnds end (b ∷ []) = b.end ≡ end
LastEnds end (b ∷ c ∷ bs) = LastEnds end (c ∷ bs)

shown_dealt : (bs : List (Dealt Event)) → events_shown (shown_of bs) ≡ dealt_events bs
shown_dealt [] = refl
shown_dealt (b ∷ bs) =
    map-append (λ (x : Showing Event). x.event) (showings b.events b.first b.end) (shown_of bs)
    ∙ ap (λ (l : List Event). l ++ events_shown (shown_of bs)) (showings_events b.events b.first b.end) ∙ ap (λ (l : List Event). b.events ++ l) (shown_dealt bs)

follows : (room n : ℕ) (bs : List (Dealt Event)) → AreFull room bs → Numbered n (shown_of bs) → FollowFrom n bs
follows room n [] full is = tt
follows room n (b ∷ bs) full is =
    let one : IsFull room b = full.0 in
    let behind = numbered_behind n (showings b.events b.first b.end) (shown_of bs) is in
    let rest = subst (λ (m : ℕ). Numbered (n + m) (shown_of bs)) (showings_length b.events b.first b.end) behind in
    (showings_first n b.events b.first b.end (shown_of bs) one.0 is, one.0, follows room (n + length b.events) bs full.1 rest)

last_ends : (room : ℕ) (end : Bool) (bs : List (Dealt Event)) → AreFull room bs → EndsSo end (shown_of bs) → LastEnds end bs
last_ends room end [] full is = tt
last_ends room end (b ∷ []) full is = let one : IsFull room b = full.0 in showings_end end b.events b.first b.end one.0 is
last_ends room end (b ∷ c ∷ bs) full is =
    last_ends room end (c ∷ bs) full.1 (ends_behind end (showings b.events b.first b.end) (shown_of (c ∷ bs)) is)

-- it had all that was offered, where others come behind each that is not marked
polled_by : (room total : ℕ) (b : Dealt Event) (end : Bool) → b.end ≡ end → IsFull room b → b.first + length b.events ≤ total
    → (end ≡ false → b.first + length b.events < total) → IsPolled room (λ n. n ≤ total) b
polled_by room total b true is full below more =
    let fits : length b.events ≤ room = full.1 in
    (b.first + length b.events, below, omega arith, (λ ends. refl, λ same. is))
polled_by room total b false is full below more =
    let fills : length b.events ≡ room = elim full.2 [
      | inl ends ↦ absurd (cc)
      | inr fills ↦ fills
    ]
    in
    let less : b.first + length b.events < total = more refl in
    (b.first + length b.events + 1, omega arith, omega arith, (λ ends. let also : b.end ≡ true = ends in absurd (cc), λ same. absurd (omega arith)))

polled : (room n total : ℕ) (bs : List (Dealt Event)) → AreFull room bs → FollowFrom n bs → LastEnds true bs → n + length (dealt_events bs) ≡ total
    → All (IsPolled room (λ n. n ≤ total)) bs
polled room n total [] full follow last all = All-nil (IsPolled room (λ n. n ≤ total))
polled room n total (b ∷ []) full follow last all =
    let one : IsFull room b = full.0 in
    let first : b.first ≡ n = follow.0 in
    let long : length (dealt_events (b ∷ [])) ≡ length b.events + 0 = length-append b.events [] in
    All-cons (IsPolled room (λ n. n ≤ total)) b [] (polled_by room total b b.end refl one (omega arith) (λ no. absurd (cc)))
    (All-nil (IsPolled room (λ n. n ≤ total)))
polled room n total (b ∷ c ∷ bs) full follow last all =
    let one : IsFull room b = full.0 in
    let next : IsFull room c = full.1.0 in
    let some : 0 < length c.events = next.0 in
    let first : b.first ≡ n = follow.0 in
    let long : length (dealt_events (b ∷ c ∷ bs)) ≡ length b.events + length (dealt_events (c ∷ bs)) = length-append b.events (dealt_events (c ∷ bs)) in
    let more : length (dealt_events (c ∷ bs)) ≡ length c.events + length (dealt_events bs) = length-append c.events (dealt_events bs) in
    let left : n + length b.events + length (dealt_events (c ∷ bs)) ≡ total = omega arith in
    let less : b.first + length b.events < total = omega arith in
    All-cons (IsPolled room (λ n. n ≤ total)) b (c ∷ bs) (polled_by room total b b.end refl one (omega arith) (λ no. less))
    (polled room (n + length b.events) total (c ∷ bs) full.1 follow.2 last left)

-- Of the handler that lists them.

-- the handler inside went through the same
pub inside : {A : Type 0} (goes : Relation Event A) (a b : Watching A) (xs : List (Showing Event)) → GoesThrough (Watches goes) a xs b
    → GoesThrough goes a.handler xs b.handler
inside goes a b [] is = ap (λ (w : Watching _). w.handler) is
inside goes a b (x ∷ xs) is = (is.0.handler, is.1.shown, inside goes is.0 b xs is.2)

-- all that it was shown is in its list
pub record Lists {A : Type 0} (a b : Watching A) (xs : List (Showing Event)) : Type 0 where
  pub whole : a.is_whole ≡ true
  pub list : b.list.items ≡ a.list.items ++ events_shown xs
  pub numbered : Numbered (length a.list.items) xs

pub lists : {A : Type 0} (goes : Relation Event A) (a b : Watching A) (xs : List (Showing Event)) → GoesThrough (Watches goes) a xs b → b.is_whole ≡ true → Lists a b xs
lists goes a b [] is whole = record {
  whole = ap (λ (w : Watching _). w.is_whole) is ∙ whole;
  list = ap (λ (w : Watching _). w.list.items) (sym is) ∙ sym (append-nil a.list.items);
  numbered = tt;
}
lists goes a b (x ∷ xs) is whole =
    let rest = lists goes is.0 b xs is.2 whole in
    let one = is.1.listed rest.whole in
    let long : length is.0.list.items ≡ length a.list.items + 1 = ap length one.2 ∙ length_push a.list.items x.event in
    record {
      whole = one.0;
      list = rest.list ∙ ap (λ (l : List Event). l ++ events_shown xs) one.2 ∙ append_assoc a.list.items (x.event ∷ []) (events_shown xs);
      numbered = (one.1, subst (λ (n : ℕ). Numbered n xs) long rest.numbered);
    }

pub ends : {A : Type 0} (goes : Relation Event A) (a b : Watching A) (xs : List (Showing Event)) → GoesThrough (Watches goes) a xs b → EndsSo b.is_ended xs
ends goes a b [] is = tt
ends goes a b (x ∷ []) is = sym is.1.ended ∙ ap (λ (w : Watching _). w.is_ended) is.2
ends goes a b (x ∷ y ∷ xs) is = ends goes is.0 b (y ∷ xs) is.2

-- a handler that listed just these events went through them
pub went : {A : Type 0} (goes : Relation Event A) (start : A) (given back : Watching A) (events : List Event) (bs : List (Dealt Event)) → IsNew start given
    → HasListed events back
    → AreFull 256 bs → GoesThrough (Watches goes) given (shown_of bs) back → WentThrough goes 256 start back.handler events
went {A} goes start given back events bs new has full through =
    let fresh : HasListed [] given = new.1 in
    let none : given.list.items ≡ [] = fresh.2 in
    let whole : back.is_whole ≡ true = has.0 in
    let ended : back.is_ended ≡ true = has.1 in
    let list : back.list.items ≡ events = has.2 in
    let kept = lists goes given back (shown_of bs) through whole in
    let numbered : Numbered 0 (shown_of bs) = subst (λ (l : List Event). Numbered (length l) (shown_of bs)) none kept.numbered in
    let order = follows 256 0 bs full numbered in
    let last : EndsSo true (shown_of bs) = subst (λ (end : Bool). EndsSo end (shown_of bs)) ended (ends goes given back (shown_of bs) through) in
    let dealt : dealt_events bs ≡ events =
    sym (shown_dealt bs) ∙ ap (λ (l : List Event). l ++ events_shown (shown_of bs)) (sym none) ∙ sym kept.list ∙ list
    in
    let long : length (dealt_events bs) ≡ length events = ap length dealt in
    record {
      batches = bs;
      through = subst (λ (a : A). GoesThrough goes a (shown_of bs) back.handler) new.0 (inside goes given back (shown_of bs) through);
      order = order;
      dealt = dealt;
      polled = polled 256 0 (length events) bs full order (last_ends 256 true bs full last) (omega arith);
    }
