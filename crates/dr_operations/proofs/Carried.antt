-- What an event carries.
use Rattle.std.proofs.Common.{◌≡◌, ◌<◌, ◌+◌, ◌*◌, ◌/◌, ◌%◌, ◌^◌, ℕ, List, [], ◌∷◌, ◌++◌, refl, sym, ap, subst, arith, ◌∙◌, inl, inr}
use Rattle.std.proofs.lemmas.Bool.{cases_eq, eq-eqb, ne_eqb}
use Rattle.dr_seq.specs.declared.event.Event.{Event}
use Rattle.dr_operations.specs.declared.operation.Movement.{Movement}
use Rattle.dr_operations.specs.declared.operation.Movement.TheVariants.{Deposit, Withdraw, Transfer}
use Rattle.dr_operations.specs.declared.operation.Operation.{Operation}
use Rattle.dr_operations.specs.EventFile.{IsMovementOfFile, IsOfFile}
use Rattle.dr_operations.specs.Written.{AreOfFile}
use Rattle.dr_operations.specs.Operations.{HasPlace, code_of, event_for, movement_of, moves, operation_of, producer_of}

-- an event carries its operation

movement_back : (producer : ℕ) (m : Movement) → producer < 16 → IsMovementOfFile m → movement_of (moves producer m) ≡ m
movement_back producer (Deposit account amount) few is =
    let code : code_of (moves producer (Deposit account amount)) ≡ 1 = omega (arith, is.0, is.1) in
    let at : (producer * 2 ^ 56 + 1 * 2 ^ 48 + account * 2 ^ 32 + amount) / 2 ^ 32 % 65536 ≡ account = omega (arith, is.0, is.1) in
    let much : (producer * 2 ^ 56 + 1 * 2 ^ 48 + account * 2 ^ 32 + amount) % 2 ^ 32 ≡ amount = omega (arith, is.0, is.1) in
    rw (code, at, much) refl
movement_back producer (Withdraw account amount) few is =
    let code : code_of (moves producer (Withdraw account amount)) ≡ 2 = omega (arith, is.0, is.1) in
    let at : (producer * 2 ^ 56 + 2 * 2 ^ 48 + account * 2 ^ 32 + amount) / 2 ^ 32 % 65536 ≡ account = omega (arith, is.0, is.1) in
    let much : (producer * 2 ^ 56 + 2 * 2 ^ 48 + account * 2 ^ 32 + amount) % 2 ^ 32 ≡ amount = omega (arith, is.0, is.1) in
    rw (code, at, much) refl
movement_back producer (Transfer from to amount) few is =
    let code : code_of (moves producer (Transfer from to amount)) ≡ 3 = omega (arith, is.0) in
    let at : (producer * 2 ^ 56 + 3 * 2 ^ 48 + from * 2 ^ 32 + 0) / 2 ^ 32 % 65536 ≡ from = omega (arith, is.0) in
    let where_to : (to * 2 ^ 48 + amount) / 2 ^ 48 % 65536 ≡ to = omega (arith, is.1, is.2) in
    let much : (to * 2 ^ 48 + amount) % 2 ^ 48 ≡ amount = omega (arith, is.1, is.2) in
    rw (code, at, where_to, much) refl

producer_back : (producer : ℕ) (m : Movement) → producer < 16 → IsMovementOfFile m → producer_of (moves producer m) ≡ producer
producer_back producer (Deposit account amount) few is = omega (arith, is.0, is.1)
producer_back producer (Withdraw account amount) few is = omega (arith, is.0, is.1)
producer_back producer (Transfer from to amount) few is = omega (arith, is.0)

abbrev the_operation : ℕ → Movement → Operation
the_operation producer m = record { producer = producer; movement = m }

pub carried : (o : Operation) → IsOfFile o → operation_of (event_for o) ≡ o
carried o is =
    ap (λ (n : ℕ). the_operation n (movement_of (event_for o))) (producer_back o.producer o.movement is.0 is.1)
    ∙ ap (λ (m : Movement). the_operation o.producer m) (movement_back o.producer o.movement is.0 is.1)

-- what an event carries has its place in an event
pub has_place : (e : Event) → HasPlace (movement_of e)
has_place e = elim (cases_eq (code_of e) 2) [
  | inl two ↦ rw (eq-eqb (code_of e) 2 two) tt
  | inr other ↦ rw (ne_eqb (code_of e) 2 other) (elim (cases_eq (code_of e) 3) [
    | inl three ↦ rw (eq-eqb (code_of e) 3 three) (omega arith)
    | inr none ↦ rw (ne_eqb (code_of e) 3 none) tt
  ])
]

-- and is a movement of an event file
pub is_movement : (e : Event) → IsMovementOfFile (movement_of e)
is_movement e =
    let account : e.first / 2 ^ 32 % 65536 < 2 ^ 16 = omega arith in
    let amount : e.first % 2 ^ 32 < 2 ^ 32 = omega arith in
    let to : e.second / 2 ^ 48 % 65536 < 2 ^ 16 = omega arith in
    let much : e.second % 2 ^ 48 < 2 ^ 48 = omega arith in
    elim (cases_eq (code_of e) 2) [
      | inl two ↦ rw (eq-eqb (code_of e) 2 two) (account, amount)
      | inr other ↦ rw (ne_eqb (code_of e) 2 other) (elim (cases_eq (code_of e) 3) [
        | inl three ↦ rw (eq-eqb (code_of e) 3 three) (account, to, much)
        | inr none ↦ rw (ne_eqb (code_of e) 3 none) (account, amount)
      ])
    ]

-- an event of an event file's operation, behind others
pub filed : (events : List Event) (o : Operation) → IsOfFile o → AreOfFile events → AreOfFile (events ++ event_for o ∷ [])
filed [] o is are = ((subst (λ (x : Operation). IsOfFile x) (sym (carried o is)) is, ap event_for (carried o is)), tt)
filed (e ∷ events) o is are = (are.0, filed events o is are.1)
