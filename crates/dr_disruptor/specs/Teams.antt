-- Each handler of a list of two or three types goes as its own type does.
use Rattle.std.proofs.Common.{◌≡◌, ℕ, List, [], ◌∷◌, ap, arith, refl, sym, subst, ◌∙◌}
use Rattle.dr_meaning.specs.Calls.Handling.{GoesThrough, Relation, Showing}
use Rattle.dr_workers.specs.Meaning.Work.{shown_of}
use Rattle.dr_disruptor.specs.Handlers.{AllWentThrough, WentThrough}
use Rattle.dr_disruptor.specs.declared.one_of.OneOf.{OneOf}
use Rattle.dr_disruptor.specs.declared.one_of.OneOf.TheVariants.{First, Second}
use Rattle.dr_disruptor.specs.OneOf.{AreThree, AreTwo, goes_as_one_of}

-- what was of the first type is so after any calls, and went as that type does
first_goes : {E A B : Type 0} (goes : Relation E A) (other : Relation E B) (a : A) (shown : List (Showing E)) (after : OneOf A B)
    → GoesThrough (goes_as_one_of goes other) (First a) shown after → (new : A) × (after ≡ First new) × GoesThrough goes a shown new
first_goes goes other a [] after h = (a, sym h, refl)
first_goes goes other a (s ∷ rest) after (First between, one, more) =
    let r = first_goes goes other between rest after more in (r.0, r.1, (between, one, r.2))
first_goes goes other a (s ∷ rest) after (Second _, one, more) = elim one [ ]

second_goes : {E A B : Type 0} (goes : Relation E A) (other : Relation E B) (b : B) (shown : List (Showing E)) (after : OneOf A B)
    → GoesThrough (goes_as_one_of goes other) (Second b) shown after → (new : B) × (after ≡ Second new) × GoesThrough other b shown new
second_goes goes other b [] after h = (b, sym h, refl)
second_goes goes other b (s ∷ rest) after (First _, one, more) = elim one [ ]
second_goes goes other b (s ∷ rest) after (Second between, one, more) =
    let r = second_goes goes other between rest after more in (r.0, r.1, (between, one, r.2))

went_first : {E A B : Type 0} (goes : Relation E A) (other : Relation E B) (most : ℕ) (a : A) (after : OneOf A B) (events : List E)
    → WentThrough (goes_as_one_of goes other) most (First a) after events → (new : A) × (after ≡ First new) × WentThrough goes most a new events
went_first goes other most a after events w =
    let r = first_goes goes other a (shown_of w.batches) after w.through in
    (r.0, r.1, record { batches = w.batches; through = r.2; order = w.order; dealt = w.dealt; polled = w.polled })

went_second : {E A B : Type 0} (goes : Relation E A) (other : Relation E B) (most : ℕ) (b : B) (after : OneOf A B) (events : List E)
    → WentThrough (goes_as_one_of goes other) most (Second b) after events → (new : B) × (after ≡ Second new) × WentThrough other most b new events
went_second goes other most b after events w =
    let r = second_goes goes other b (shown_of w.batches) after w.through in
    (r.0, r.1, record { batches = w.batches; through = r.2; order = w.order; dealt = w.dealt; polled = w.polled })

-- what is of a type, and else another
abbrev of_first : {A B : Type 0} → A → OneOf A B → A
of_first a (First x) = x
of_first a (Second y) = a

abbrev of_second : {A B : Type 0} → B → OneOf A B → B
of_second b (First x) = b
of_second b (Second y) = y

as_first : {E A B : Type 0} (goes : Relation E A) (other : Relation E B) (most : ℕ) (a x : A) (events : List E)
    → WentThrough (goes_as_one_of goes other) most (First a) (First x) events → WentThrough goes most a x events
as_first goes other most a x events w = let r = went_first goes other most a (First x) events w in
    subst (λ new. WentThrough goes most a new events) (sym (ap (of_first x) r.1)) r.2

as_second : {E A B : Type 0} (goes : Relation E A) (other : Relation E B) (most : ℕ) (b y : B) (events : List E)
    → WentThrough (goes_as_one_of goes other) most (Second b) (Second y) events → WentThrough other most b y events
as_second goes other most b y events w = let r = went_second goes other most b (Second y) events w in
    subst (λ new. WentThrough other most b new events) (sym (ap (of_second y) r.1)) r.2

-- a list of one handler of each type stays so
pub stay_two : {E A B : Type 0} (goes : Relation E A) (other : Relation E B) (most : ℕ) (a : A) (b : B) (events : List E) (afters : List (OneOf A B))
    → AllWentThrough (goes_as_one_of goes other) most events (First a ∷ Second b ∷ []) afters → AreTwo afters
stay_two goes other most a b events [] w = absurd (let many = w.many in omega arith)
stay_two goes other most a b events (x ∷ []) w = absurd (let many = w.many in omega arith)
stay_two goes other most a b events (x ∷ y ∷ []) w =
    let one = went_first goes other most a x events (w.each 0 (First a) x refl refl) in
    let two = went_second goes other most b y events (w.each 1 (Second b) y refl refl) in
    (one.0, two.0, ap (λ h. h ∷ y ∷ []) one.1 ∙ ap (λ h. First one.0 ∷ h ∷ []) two.1)
stay_two goes other most a b events (x ∷ y ∷ z ∷ more) w = absurd (let many = w.many in omega arith)

pub stay_three : {E A B C : Type 0} (goes : Relation E A) (other : Relation E B) (third : Relation E C) (most : ℕ) (a : A) (b : B) (c : C)
    → (events : List E) (afters : List (OneOf A (OneOf B C)))
    → AllWentThrough (goes_as_one_of goes (goes_as_one_of other third)) most events (First a ∷ Second (First b) ∷ Second (Second c) ∷ []) afters
    → AreThree afters
stay_three goes other third most a b c events [] w = absurd (let many = w.many in omega arith)
stay_three goes other third most a b c events (x ∷ []) w = absurd (let many = w.many in omega arith)
stay_three goes other third most a b c events (x ∷ y ∷ []) w = absurd (let many = w.many in omega arith)
stay_three goes other third most a b c events (x ∷ y ∷ z ∷ []) w =
    let last = goes_as_one_of other third in
    let one = went_first goes last most a x events (w.each 0 (First a) x refl refl) in
    let two = went_second goes last most (First b) y events (w.each 1 (Second (First b)) y refl refl) in
    let three = went_second goes last most (Second c) z events (w.each 2 (Second (Second c)) z refl refl) in
    let second = went_first other third most b two.0 events two.2 in
    let last = went_second other third most c three.0 events three.2 in (
      one.0,
      second.0,
      last.0,
      ap (λ h. h ∷ y ∷ z ∷ []) one.1 ∙ ap (λ h. First one.0 ∷ h ∷ z ∷ []) (two.1 ∙ ap Second second.1)
          ∙ ap (λ h. First one.0 ∷ Second (First second.0) ∷ h ∷ []) (three.1 ∙ ap Second last.1),
    )
stay_three goes other third most a b c events (x ∷ y ∷ z ∷ z' ∷ more) w = absurd (let many = w.many in omega arith)

-- and each went as its own type does
pub go_two : {E A B : Type 0} (goes : Relation E A) (other : Relation E B) (most : ℕ) (a x : A) (b y : B) (events : List E)
    → AllWentThrough (goes_as_one_of goes other) most events (First a ∷ Second b ∷ []) (First x ∷ Second y ∷ [])
    → WentThrough goes most a x events × WentThrough other most b y events
go_two goes other most a x b y events w =
    (as_first goes other most a x events (w.each 0 (First a) (First x) refl refl), as_second goes other most b y events (w.each 1 (Second b) (Second y) refl refl))

pub go_three : {E A B C : Type 0} (goes : Relation E A) (other : Relation E B) (third : Relation E C) (most : ℕ) (a x : A) (b y : B) (c z : C) (events : List E)
    → AllWentThrough (goes_as_one_of goes (goes_as_one_of other third)) most events (First a ∷ Second (First b) ∷ Second (Second c) ∷ [])
    (First x ∷ Second (First y) ∷ Second (Second z) ∷ [])
    → WentThrough goes most a x events × WentThrough other most b y events × WentThrough third most c z events
go_three goes other third most a x b y c z events w =
    let last = goes_as_one_of other third in
    let one = w.each 0 (First a) (First x) refl refl in
    let two = w.each 1 (Second (First b)) (Second (First y)) refl refl in
    let three = w.each 2 (Second (Second c)) (Second (Second z)) refl refl in
    let second = as_second goes last most (First b) (First y) events two in
    let third_one = as_second goes last most (Second c) (Second z) events three in
    (as_first goes last most a x events one, as_first other third most b y events second, as_second other third most c z events third_one)
