-- A handler that had room listed just some events if and only if it was shown just these.
use Rattle.std.proofs.Common.{◌≡◌, ◌+◌, ◌≤◌, ℕ, Bool, true, Option, List, [], ◌∷◌, ◌++◌, length, map, drop, get_or, refl, sym, ap, subst, ◌∙◌, arith, vec_capacity}
use Rattle.std.specs.Prelude.{Some, None, IfSome}
use Rattle.std.specs.List.{last_or, range_with_len}
use Rattle.std.proofs.lemmas.List.{length_push}
use Rattle.dr_seq.specs.declared.event.Event.{Event}
use Rattle.dr_meaning.specs.Calls.Handling.{GoesThrough, Relation, Showing}
use Rattle.dr_disruptor_lock.specs.declared.watching.Watching.{Watching}
use Rattle.dr_disruptor_lock.specs.Running.{WasShown}
use Rattle.dr_disruptor_lock.specs.Watching.{HasListed, IsNew, Watches}
use Rattle.dr_disruptor_lock.proofs.Watched.{EndsSo, Numbered, ends, events_shown, lists}

-- Of what was shown.

abbrev sequences_shown : List (Showing Event) → List ℕ
sequences_shown xs = map (λ (x : Showing Event). x.sequence) xs

abbrev IsMarked : Option (Showing Event) → Type 0
IsMarked last = IfSome last (λ x. x.end ≡ true)

in_range : (n : ℕ) (xs : List (Showing Event)) → Numbered n xs → sequences_shown xs ≡ range_with_len n (length xs)
in_range n [] is = refl
in_range n (x ∷ xs) is = let rest = in_range (n + 1) xs is.1 in λ i. is.0 i ∷ rest i

numbered : (n : ℕ) (xs : List (Showing Event)) → sequences_shown xs ≡ range_with_len n (length xs) → Numbered n xs
numbered n [] is = tt
numbered n (x ∷ xs) is = (ap (λ (l : List ℕ). get_or l 0 0) is, numbered (n + 1) xs (ap (λ (l : List ℕ). drop 1 l) is))

last_marked : (x : Showing Event) (xs : List (Showing Event)) → EndsSo true (x ∷ xs) → IsMarked (last_or (Some x) xs)
last_marked x [] is = is
last_marked x (y ∷ xs) is = last_marked y xs is

marked : (xs : List (Showing Event)) → EndsSo true xs → IsMarked (last_or None xs)
marked [] is = tt
marked (x ∷ xs) is = last_marked x xs is

ends_marked : (end : Bool) (x : Showing Event) (xs : List (Showing Event)) → EndsSo end (x ∷ xs) → IsMarked (last_or (Some x) xs) → end ≡ true
ends_marked end x [] is last = sym is ∙ last
ends_marked end x (y ∷ xs) is last = ends_marked end y xs is last

-- Of the handler that lists it.

-- it lists all as long as each comes next and there is room
still_whole : {A : Type 0} (goes : Relation Event A) (a b : Watching A) (xs : List (Showing Event)) → GoesThrough (Watches goes) a xs b → a.is_whole ≡ true
    → Numbered (length a.list.items) xs → length a.list.items + length xs ≤ vec_capacity a.list → b.is_whole ≡ true
still_whole goes a b [] is whole order fits = ap (λ (w : Watching _). w.is_whole) (sym is) ∙ whole
still_whole goes a b (x ∷ xs) is whole order fits =
    let one = is.1 in
    let next : is.0.is_whole ≡ true = one.next order.0 (omega arith) ∙ whole in
    let long : length is.0.list.items ≡ length a.list.items + 1 = ap length (one.listed next).2 ∙ length_push a.list.items x.event in
    let room = one.room in
    still_whole goes is.0 b xs is.2 next (subst (λ (n : ℕ). Numbered n xs) (sym long) order.1) (omega arith)

still_ended : {A : Type 0} (goes : Relation Event A) (a b : Watching A) (xs : List (Showing Event)) → GoesThrough (Watches goes) a xs b → a.is_ended ≡ true
    → IsMarked (last_or None xs) → b.is_ended ≡ true
still_ended goes a b [] is ended last = ap (λ (w : Watching _). w.is_ended) (sym is) ∙ ended
still_ended goes a b (x ∷ xs) is ended last = ends_marked b.is_ended x xs (ends goes a b (x ∷ xs) is) last

-- what it listed it was shown
pub shown_as_listed : {A : Type 0} (goes : Relation Event A) (start : A) (a b : Watching A) (events : List Event) (xs : List (Showing Event)) → IsNew start a
    → GoesThrough (Watches goes) a xs b → HasListed events b → WasShown events xs
shown_as_listed goes start a b events xs new through has =
    let fresh : HasListed [] a = new.1 in
    let none : a.list.items ≡ [] = fresh.2 in
    let whole : b.is_whole ≡ true = has.0 in
    let ended : b.is_ended ≡ true = has.1 in
    let list : b.list.items ≡ events = has.2 in
    let kept = lists goes a b xs through whole in
    record {
      all = ap (λ (l : List Event). l ++ events_shown xs) (sym none) ∙ sym kept.list ∙ list;
      order = in_range 0 xs (subst (λ (l : List Event). Numbered (length l) xs) none kept.numbered);
      ended = marked xs (subst (λ (end : Bool). EndsSo end xs) ended (ends goes a b xs through));
    }

-- and what it was shown it listed, if it had room for so many events
pub listed_as_shown : {A : Type 0} (goes : Relation Event A) (start : A) (a b : Watching A) (events : List Event) (xs : List (Showing Event)) → IsNew start a
    → length xs ≤ vec_capacity a.list → GoesThrough (Watches goes) a xs b → WasShown events xs → HasListed events b
listed_as_shown goes start a b events xs new fits through was =
    let fresh : HasListed [] a = new.1 in
    let none : a.list.items ≡ [] = fresh.2 in
    let long : length a.list.items ≡ 0 = ap length none in
    let order : Numbered (length a.list.items) xs = subst (λ (n : ℕ). Numbered n xs) (sym long) (numbered 0 xs was.order) in
    let whole : b.is_whole ≡ true = still_whole goes a b xs through fresh.0 order (omega arith) in
    let kept = lists goes a b xs through whole in (
      whole,
      still_ended goes a b xs through fresh.1 was.ended,
      kept.list ∙ ap (λ (l : List Event). l ++ events_shown xs) none ∙ was.all,
    )
