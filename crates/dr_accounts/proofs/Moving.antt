-- A movement through what is kept of the accounts.
use Rattle.std.proofs.Common.{◌≡◌, ◌≤◌, ◌+◌, ◌-◌, ℕ, Bool, true, false, not, ◌||◌, Option, Some, refl, sym, ◌∙◌, arith, inl, inr, if◌then◌else◌, nat_lt, ◌&&◌}
use Rattle.std.specs.Prelude.{◌==◌, is_some}
use Rattle.std.proofs.lemmas.Bool.{cases_Bool, cases_eq, eq-eqb, ltb-false, ne_eqb}
use Rattle.dr_accounts.specs.Handlers.{MovedAt, added, balance_in, refused_in, taken}
use Rattle.dr_accounts.specs.declared.business.Account.{Account}
use Rattle.dr_operations.specs.declared.operation.Movement.TheVariants.{Deposit, Withdraw, Transfer}

abbrev Kept : Type 0
Kept = ℕ → Option Account

or_true : (b : Bool) → (b || true) ≡ true
or_true true = refl
or_true false = refl

or_false : (b : Bool) → (b || false) ≡ b
or_false true = refl
or_false false = refl

same : {A : Type 0} (b : Bool) (x : A) → (if b then x else x) ≡ x
same true x = refl
same false x = refl

self_eq : (n : ℕ) → (n == n) ≡ true
self_eq n = eq-eqb n n refl

pub deposited : (old new : Kept) (n amount : ℕ) → ((a : ℕ) → new a ≡ (if a == n then Some (added (old n) amount) else old a)) → (a : ℕ)
    → MovedAt (Deposit n amount) old new a
deposited old new n amount h a = elim (cases_eq a n) [
  | inl e ↦ rw e (let is = rw (self_eq n) at (h n) in record { balance = rw (is, self_eq n) refl; refused = rw is (omega arith); named = rw (is, self_eq n, or_true (is_some (old n))) refl })
  | inr ne ↦ let is = rw (ne_eqb a n ne) at (h a) in record { balance = rw (is, ne_eqb a n ne) refl; refused = rw is (omega arith); named = rw (is, ne_eqb a n ne, or_false (is_some (old a))) refl }
]

none : (b : Bool) (n : ℕ) → n ≡ n + (if b && false then 1 else 0)
none true n = omega arith
none false n = omega arith

pub withdrawn : (old new : Kept) (n amount : ℕ) → ((a : ℕ) → new a ≡ (if a == n then Some (taken (old n) amount) else old a)) → (a : ℕ)
    → MovedAt (Withdraw n amount) old new a
withdrawn old new n amount h a = elim (cases_eq a n) [
  | inl e ↦ rw e (let is = rw (self_eq n) at (h n) in elim (cases_Bool (nat_lt (balance_in (old n)) amount)) [
    | inl less ↦ record { balance = rw (is, self_eq n, less) refl; refused = rw (is, self_eq n, less) refl; named = rw (is, self_eq n, or_true (is_some (old n))) refl }
    | inr more ↦ record { balance = rw (is, self_eq n, more) refl; refused = rw (is, self_eq n, more) (omega arith); named = rw (is, self_eq n, or_true (is_some (old n))) refl }
  ])
  | inr ne ↦ let is = rw (ne_eqb a n ne) at (h a) in record {
    balance = rw (is, ne_eqb a n ne, same (nat_lt (balance_in (old n)) amount) (balance_in (old a))) refl;
    refused = rw (is, ne_eqb a n ne) (none (nat_lt (balance_in (old n)) amount) (refused_in (old a)));
    named = rw (is, ne_eqb a n ne, or_false (is_some (old a))) refl;
  }
]

-- an amount that is taken and given back
back : (balance amount : ℕ) → amount ≤ balance → balance - amount + amount ≡ balance
back balance amount h = omega arith

-- what is given to the second account
abbrev pub given : Bool → ℕ → ℕ
given refused amount = if refused then 0 else amount

self_transfer : (old new : Kept) (n amount : ℕ) (between : Option Account) (r : Bool) → nat_lt (balance_in (old n)) amount ≡ r
    → between ≡ Some (taken (old n) amount) → new n ≡ Some (added between (given r amount))
    → MovedAt (Transfer n n amount) old new n
self_transfer old new n amount between true less b is = record {
  balance = rw (is, b, less) (omega arith);
  refused = rw (is, b, less, self_eq n) refl;
  named = rw (is, self_eq n, or_true (is_some (old n))) refl;
}
self_transfer old new n amount between false more b is =
    let fits : amount ≤ balance_in (old n) = ltb-false (balance_in (old n)) amount more in
    record {
      balance = rw (is, b, more, self_eq n) (back (balance_in (old n)) amount fits);
      refused = rw (is, b, more) (omega arith);
      named = rw (is, self_eq n, or_true (is_some (old n))) refl;
    }

-- at the first of two accounts
transfer_from : (old new : Kept) (from to amount : ℕ) (r : Bool) → (from == to) ≡ false → nat_lt (balance_in (old from)) amount ≡ r
    → new from ≡ Some (taken (old from) amount) → MovedAt (Transfer from to amount) old new from
transfer_from old new from to amount true apart less is = record {
  balance = rw (is, less) refl;
  refused = rw (is, less, self_eq from) refl;
  named = rw (is, self_eq from, or_true (is_some (old from))) refl;
}
transfer_from old new from to amount false apart more is = record {
  balance = rw (is, more, apart, self_eq from) refl;
  refused = rw (is, more) (omega arith);
  named = rw (is, self_eq from, or_true (is_some (old from))) refl;
}

-- at the second
transfer_to : (old new : Kept) (from to amount : ℕ) (r : Bool) → (from == to) ≡ false → (to == from) ≡ false
    → nat_lt (balance_in (old from)) amount ≡ r → new to ≡ Some (added (old to) (given r amount)) → MovedAt (Transfer from to amount) old new to
transfer_to old new from to amount true apart apart2 less is = record {
  balance = rw (is, less) (omega arith);
  refused = rw (is, less, apart2) (omega arith);
  named = rw (is, apart2, self_eq to, or_true (is_some (old to))) refl;
}
transfer_to old new from to amount false apart apart2 more is = record {
  balance = rw (is, more, apart, apart2, self_eq to) refl;
  refused = rw (is, more) (omega arith);
  named = rw (is, apart2, self_eq to, or_true (is_some (old to))) refl;
}

-- at any other
transfer_other : (old new : Kept) (from to amount a : ℕ) → (a == from) ≡ false → (a == to) ≡ false → new a ≡ old a → MovedAt (Transfer from to amount) old new a
transfer_other old new from to amount a apart apart2 is = record {
  balance = rw (is, apart, apart2, same (from == to) (balance_in (old a)), same (nat_lt (balance_in (old from)) amount) (balance_in (old a))) refl;
  refused = rw (is, apart) (none (nat_lt (balance_in (old from)) amount) (refused_in (old a)));
  named = rw (is, apart, apart2, or_false (is_some (old a))) refl;
}

flip : (a b : ℕ) → (a ≡ b → ⊥) → b ≡ a → ⊥
flip a b ne e = ne (sym e)

pub transferred : (old between new : Kept) (from to amount m : ℕ) → m ≡ given (nat_lt (balance_in (old from)) amount) amount
    → ((a : ℕ) → between a ≡ (if a == from then Some (taken (old from) amount) else old a))
    → ((a : ℕ) → new a ≡ (if a == to then Some (added (between to) m) else between a))
    → (a : ℕ) → MovedAt (Transfer from to amount) old new a
transferred old between new from to amount m gives took gave a = elim (cases_eq from to) [
  | inl both ↦ elim (cases_eq a to) [
    | inl here ↦ rw (here, both)
        (let b = rw (both, self_eq to) at (took to) in
        let g = rw (self_eq to, gives, both) at (gave to) in
        self_transfer old new to amount (between to) (nat_lt (balance_in (old to)) amount) refl b g)
    | inr other ↦
        let apart : a ≡ from → ⊥ = λ e. other (e ∙ both) in
        let is = rw (ne_eqb a to other) at (gave a) in
        let was = rw (ne_eqb a from apart) at (took a) in
        transfer_other old new from to amount a (ne_eqb a from apart) (ne_eqb a to other) (is ∙ was)
  ]
  | inr apart ↦ elim (cases_eq a from) [
    | inl here ↦ rw here
        (let is = rw (ne_eqb from to apart) at (gave from) in
        let was = rw (self_eq from) at (took from) in
        transfer_from old new from to amount (nat_lt (balance_in (old from)) amount) (ne_eqb from to apart) refl (is ∙ was))
    | inr other ↦ elim (cases_eq a to) [
      | inl here ↦ rw here
          (let was = rw (ne_eqb to from (flip from to apart)) at (took to) in
          let is = rw (self_eq to, gives, was) at (gave to) in
          transfer_to old new from to amount (nat_lt (balance_in (old from)) amount) (ne_eqb from to apart) (ne_eqb to from (flip from to apart)) refl is)
      | inr neither ↦
          let is = rw (ne_eqb a to neither) at (gave a) in
          let was = rw (ne_eqb a from other) at (took a) in
          transfer_other old new from to amount a (ne_eqb a from other) (ne_eqb a to neither) (is ∙ was)
    ]
  ]
]

-- what was taken is given, and nothing where nothing was taken
pub gives_all : (had refused : Bool) (m amount : ℕ) → had ≡ not refused → had ≡ true → m ≡ amount → m ≡ given refused amount
gives_all had true m amount h took is = let clash : false ≡ true = sym h ∙ took in cc
gives_all had false m amount h took is = is

pub gives_none : (had refused : Bool) (m amount : ℕ) → had ≡ not refused → had ≡ false → m ≡ 0 → m ≡ given refused amount
gives_none had true m amount h left is = is
gives_none had false m amount h left is = let clash : true ≡ false = sym h ∙ left in cc
