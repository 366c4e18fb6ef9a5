-- One round of turns after another.
use Rattle.std.proofs.Common.{◌≡◌, ◌⊎◌, ℕ, zero, suc, Bool, List, [], ◌∷◌, ◌++◌, All, length, length-append, set, take, drop, inl, inr, refl, sym, ap, subst, ◌+◌, ◌∙◌, arith}
use Rattle.std.proofs.lemmas.List.{append-nil, length-set, take_all}
use mathlib.Core.Option.{some, some-injective, some-ne-none}
use lib.ListN.{get_elem?}
use Rattle.atomic_table.proofs.Lists.{at_set}
use Rattle.dr_meaning.specs.Calls.Calling.{InPlaceCall}
use Rattle.dr_meaning.specs.Calls.Ends.{Received}
use Rattle.dr_meaning.specs.Calls.Handling.{Relation}
use Rattle.dr_runs.proofs.Elements.{at_below, there, value_at}
use Rattle.dr_runs.proofs.Lists.{past_end}
use Rattle.dr_disruptor.specs.declared.served.Served.{Served}
use Rattle.dr_disruptor.specs.Here.{AreShown}
use Rattle.dr_disruptor.specs.Serving.{AreServed, IsIdle, Serving, Shows}
use Rattle.dr_disruptor.proofs.Showing.{shows_more, shows_none}

-- a list that is set at a place has this there
pub at_same : {X : Type 0} (l : List X) (h : ℕ) (g a : X) → get_elem? (set l h g) h ≡ some a → g ≡ a
at_same l h g a at = elim (at_set l h h g a at) [ inl same ↦ same.1 | inr other ↦ absurd (other.0 refl) ]

-- a list with one more behind it
at_push : {X : Type 0} (xs : List X) (x y : X) (h : ℕ) → get_elem? (xs ++ x ∷ []) h ≡ some y → (get_elem? xs h ≡ some y) ⊎ ((h ≡ length xs) × (x ≡ y))
at_push [] x y zero at = inr (refl, some-injective x y at)
at_push [] x y (suc h) at = absurd (some-ne-none y (sym at))
at_push (z ∷ xs) x y zero at = inl at
at_push (z ∷ xs) x y (suc h) at = elim (at_push xs x y h at) [ inl before ↦ inl before | inr last ↦ inr (ap suc last.0, last.1) ]

pushed : {X : Type 0} (xs : List X) (x : X) → get_elem? (xs ++ x ∷ []) (length xs) ≡ some x
pushed [] x = refl
pushed (z ∷ xs) x = pushed xs x

before_push : {X : Type 0} (xs : List X) (x y : X) (h : ℕ) → get_elem? xs h ≡ some y → get_elem? (xs ++ x ∷ []) h ≡ some y
before_push [] x y h at = absurd (some-ne-none y (sym at))
before_push (z ∷ xs) x y zero at = at
before_push (z ∷ xs) x y (suc h) at = before_push xs x y h at

-- a list that was written over as a slice
pub written_back : {X : Type 0} (xs ys : List X) (n : ℕ) → length xs ≡ length ys → n ≡ length ys → take n (xs ++ drop (length xs) ys) ≡ xs
written_back xs ys n same many =
    ap (λ l. take n (xs ++ l)) (past_end ys (length xs) (sym same)) ∙ ap (take n) (append-nil xs) ∙ take_all n xs (omega arith)

module _ {O A K E : Type 0} (kept : O → K) (received : O → Received E) (saw : O → ℕ → Type 0) (does : O → InPlaceCall → O → Type 0) (goes : Relation E A) (room : ℕ) where
  -- before the first turn
  pub shown_none : (ends : List O) (starts : List A) → length ends ≡ length starts → All (λ o. IsIdle (received o)) ends
      → AreShown kept received saw does goes room ends starts ends starts
  shown_none ends starts many idle = record {
    many = refl;
    alike = sym many;
    begun = sym many;
    each = λ h outlet handler at_end at_start.
        let is_idle : IsIdle (received outlet) = subst (λ (o : O). IsIdle (received o)) (value_at ends h outlet outlet at_end) (idle h outlet (at_below ends h outlet at_end)) in
        (outlet, handler, at_end, at_start, shows_none kept received saw does goes room handler outlet is_idle);
  }

  -- a turn of one of them
  pub shown_turn : (ends : List O) (starts : List A) (outlets : List O) (handlers : List A) (h : ℕ) (outlet after : O) (handler gone : A)
      → AreShown kept received saw does goes room ends starts outlets handlers → get_elem? outlets h ≡ some outlet → get_elem? handlers h ≡ some handler
      → Shows kept received saw does goes room handler gone outlet after
      → AreShown kept received saw does goes room ends starts (set outlets h after) (set handlers h gone)
  shown_turn ends starts outlets handlers h outlet after handler gone are at_outlet at_handler turn = record {
    many = length-set outlets h after ∙ are.many;
    alike = length-set handlers h gone ∙ are.alike ∙ sym (length-set outlets h after);
    begun = are.begun;
    each = λ j o a at_o at_a.
        elim (at_set outlets h j after o at_o) [
          | inl here ↦
              let one = are.each h outlet handler at_outlet at_handler in
              let place : j ≡ h = here.0 in
              let is : after ≡ o = here.1 in
              let gone_is : gone ≡ a = at_same handlers h gone a (ap (λ (i : ℕ). get_elem? (set handlers h gone) i) (sym place) ∙ at_a) in (
                one.0,
                one.1,
                ap (λ (i : ℕ). get_elem? ends i) place ∙ one.2,
                ap (λ (i : ℕ). get_elem? starts i) place ∙ one.3,
                subst (λ (x : A). Shows kept received saw does goes room one.1 x one.0 o) gone_is
                    (subst (λ (x : O). Shows kept received saw does goes room one.1 gone one.0 x) is
                    (shows_more kept received saw does goes room one.1 handler gone one.0 outlet after one.4 turn)),
              )
          | inr other ↦
              elim (at_set handlers h j gone a at_a) [
                | inl here ↦ absurd (other.0 here.0)
                | inr apart ↦ are.each j o a other.1 apart.1
              ]
        ];
  }

  -- all that were shown have completed what they were shown
  pub shown_idle : (ends : List O) (starts : List A) (outlets : List O) (handlers : List A) → AreShown kept received saw does goes room ends starts outlets handlers
      → All (λ o. IsIdle (received o)) outlets
  shown_idle ends starts outlets handlers are = λ h d below.
      let (outlet, at) = there outlets h below in
      let alike = are.alike in
      let (handler, at_handler) = there handlers h (omega arith) in
      let one = are.each h outlet handler at at_handler in
      subst (λ (o : O). IsIdle (received o)) (sym (value_at outlets h outlet d at)) one.4.idle

  -- one round after others
  pub shown_on : (ends : List O) (starts : List A) (outlets : List O) (handlers : List A) (after : List O) (gone : List A)
      → AreShown kept received saw does goes room ends starts outlets handlers → AreShown kept received saw does goes room outlets handlers after gone
      → AreShown kept received saw does goes room ends starts after gone
  shown_on ends starts outlets handlers after gone are more = record {
    many = more.many ∙ are.many;
    alike = more.alike;
    begun = are.begun;
    each = λ h o a at_o at_a.
        let (outlet, handler, at_outlet, at_handler, shows) = more.each h o a at_o at_a in
        let (end, start, at_end, at_start, before) = are.each h outlet handler at_outlet at_handler in
        (end, start, at_end, at_start, shows_more kept received saw does goes room start handler a end outlet o before shows);
  }

  module _ (told : O → Bool) where
    -- nobody was served yet, and one more is
    pub served_none : AreServed kept received told saw does goes room [] [] []
    served_none = record { many = refl; handlers = refl; each = λ h back at. absurd (some-ne-none back (sym at)) }

    pub served_push : (ends : List O) (starts : List A) (served : List (Served O A)) (given : O) (start : A) (back : Served O A)
        → AreServed kept received told saw does goes room ends starts served → Serving kept received told saw does goes room start given back
        → AreServed kept received told saw does goes room (ends ++ given ∷ []) (starts ++ start ∷ []) (served ++ back ∷ [])
    served_push ends starts served given start back are serving =
        let many = are.many in
        let handlers = are.handlers in
        record {
          many = length-append served (back ∷ []) ∙ ap (λ n. n + 1) many ∙ sym (length-append ends (given ∷ []));
          handlers = length-append served (back ∷ []) ∙ ap (λ n. n + 1) handlers ∙ sym (length-append starts (start ∷ []));
          each = λ h b at.
              elim (at_push served back b h at) [
                | inl before ↦
                    let one = are.each h b before in
                    (one.0, one.1, before_push ends given one.0 h one.2, before_push starts start one.1 h one.3, one.4)
                | inr last ↦ (
                  given,
                  start,
                  ap (λ (i : ℕ). get_elem? (ends ++ given ∷ []) i) (last.0 ∙ many) ∙ pushed ends given,
                  ap (λ (i : ℕ). get_elem? (starts ++ start ∷ []) i) (last.0 ∙ handlers) ∙ pushed starts start,
                  subst (λ (x : Served O A). Serving kept received told saw does goes room start given x) last.1 serving,
                )
              ];
        }

    -- what was served after some rounds
    pub served_after : (ends : List O) (starts : List A) (outlets : List O) (handlers : List A) (served : List (Served O A))
        → AreShown kept received saw does goes room ends starts outlets handlers → AreServed kept received told saw does goes room outlets handlers served
        → AreServed kept received told saw does goes room ends starts served
    served_after ends starts outlets handlers served are come = record {
      many = come.many ∙ are.many;
      handlers = come.many ∙ are.many ∙ sym are.begun;
      each = λ h back at.
          let (outlet, handler, at_outlet, at_handler, serving) = come.each h back at in
          let (end, start, at_end, at_start, before) = are.each h outlet handler at_outlet at_handler in (
            end,
            start,
            at_end,
            at_start,
            record {
              shows = shows_more kept received saw does goes room start handler back.handler end outlet back.outlet before serving.shows;
              drained = serving.drained;
            },
          );
    }
