-- What the handlers say is what the report says of the events that they were shown.
use Rattle.std.proofs.Common.{◌≡◌, ◌≤◌, ◌<◌, ◌+◌, ◌^◌, ◌/◌, ◌%◌, ◌⊎◌, ℕ, zero, suc, ◌||◌, nat_lt, ⊎_elim, Bool, true, false}
use Rattle.std.proofs.Common.{List, [], ◌∷◌, ◌++◌, length, Option, Some, None, refl, sym, ap, ◌∙◌, subst, arith, inl, inr, flat_map, if◌then◌else◌, string_bytes, add-one}
use Rattle.std.specs.Prelude.{◌==◌, is_some, filter, codes}
use Rattle.std.specs.List.{range_with_len, AllByRecursion}
use Rattle.std.specs.List.Sorted.{IsStrictlySortedBy}
use Rattle.std.specs.Map.{keys_of, lookup}
use Rattle.std.specs.BTreeMap.{is_at}
use Rattle.std.specs.Cmp.{unsigned_ties}
use Rattle.std.specs.Ordering.{nat_cmp}
use Rattle.std.specs.declared.cmp.Ordering.TheVariants.{Equal, Greater, Less}
use Rattle.std.proofs.lemmas.Map.Keys.{sorted_head, sorted_tail}
use Rattle.std.proofs.lemmas.Bool.{cases_Bool, cases_eq, cases_lt, eq-eqb, eqb-true, le-ltb, ne_eqb}
use Rattle.dr_seq.specs.declared.event.Event.{Event}
use Rattle.dr_accounts.specs.declared.business.Account.{Account}
use Rattle.dr_accounts.specs.declared.business.Business.{Business}
use Rattle.dr_accounts.specs.declared.journal.Journal.{Journal}
use Rattle.dr_accounts.specs.declared.replica.Replica.{Replica}
use Rattle.dr_accounts.specs.Accounts.{account_bound, accounts, balance_of, is_account, names, refusals_of}
use Rattle.dr_accounts.specs.Handlers.{HasBusiness, HasJournal, HasReplica, account_lines, balance_in, business_text, journal_text, refused_in, replica_text}
use Rattle.dr_operations.specs.Operations.{account_of, code_of, movement_of}
use Rattle.dr_accounts.specs.Report.{account_line, business_part, heading, journal_part, replica_part}

-- the line of an account, if there is one
abbrev pub line_at : ℕ → Option Account → List ℕ
line_at a None = []
line_at a (Some account) = account_line a account.balance account.refused

-- the account with a number
abbrev pub found : List (ℕ × Account) → ℕ → Option Account
found entries a = lookup (is_at (nat_cmp a)) entries

lines_agree : (f k : ℕ → List ℕ) (xs : List ℕ) → ((x : ℕ) → f x ≡ k x) → flat_map f xs ≡ flat_map k xs
lines_agree f k [] h = refl
lines_agree f k (x ∷ xs) h = ap (λ l. l ++ flat_map f xs) (h x) ∙ ap (λ l. k x ++ l) (lines_agree f k xs h)

-- lines of some numbers alone
flat_filter : (f : ℕ → List ℕ) (p : ℕ → Bool) (xs : List ℕ) → flat_map f (filter p xs) ≡ flat_map (λ x. if p x then f x else []) xs
flat_filter f p [] = refl
flat_filter f p (x ∷ xs) = elim (cases_Bool (p x)) [
  | inl t ↦ rw t (ap (λ l. f x ++ l) (flat_filter f p xs))
  | inr n ↦ rw n (flat_filter f p xs)
]

at_same : (a k : ℕ) → a ≡ k → is_at (nat_cmp a) k ≡ true
at_same a k e = sym (unsigned_ties a k) ∙ eq-eqb a k e

at_other : (a k : ℕ) → (a ≡ k → ⊥) → is_at (nat_cmp a) k ≡ false
at_other a k ne = sym (unsigned_ties a k) ∙ ne_eqb a k ne

-- keys that all lie above a number
abbrev pub AllAbove : ℕ → List (ℕ × Account) → Type 0
AllAbove low [] = Unit {0}
AllAbove low (e ∷ es) = (low ≤ e.0) × AllAbove low es

above_less : (low high : ℕ) (es : List (ℕ × Account)) → low ≤ high → AllAbove high es → AllAbove low es
above_less low high [] l h = tt
above_less low high (e ∷ es) l h = (let here = h.0 in let all : low ≤ e.0 = omega arith in all, above_less low high es l h.1)

-- a number below all keys is not found
not_found : (a low : ℕ) (es : List (ℕ × Account)) → a < low → AllAbove low es → found es a ≡ None
not_found a low [] less h = refl
not_found a low (e ∷ es) less h =
    let here = h.0 in
    let apart : a ≡ e.0 → ⊥ = λ same. absurd (omega arith) in
    rw (at_other a e.0 apart) (not_found a low es less h.1)

-- keys that rise, each above a number
abbrev pub Rise : ℕ → List (ℕ × Account) → Type 0
Rise low [] = Unit {0}
Rise low (e ∷ es) = (low ≤ e.0) × Rise (suc e.0) es

rise_above : (low : ℕ) (es : List (ℕ × Account)) → Rise low es → AllAbove low es
rise_above low [] h = tt
rise_above low (e ∷ es) h =
    let here = h.0 in
    let next : low ≤ suc e.0 = omega arith in
    (h.0, above_less low (suc e.0) es next (rise_above (suc e.0) es h.1))

-- above a key, the entries after it are found
after_key : (a : ℕ) (e : ℕ × Account) (es : List (ℕ × Account)) → e.0 < a → found (e ∷ es) a ≡ found es a
after_key a e es less = let apart : a ≡ e.0 → ⊥ = λ same. absurd (omega arith) in rw (at_other a e.0 apart) refl

-- lines of numbers from one on, which look no lower
agree_from : (f k : ℕ → List ℕ) (low n : ℕ) → ((x : ℕ) → low ≤ x → f x ≡ k x)
    → flat_map f (range_with_len low n) ≡ flat_map k (range_with_len low n)
agree_from f k low zero h = refl
agree_from f k low (suc n) h =
    let same : low ≤ low = omega arith in
    ap (λ l. l ++ flat_map f (range_with_len (low + 1) n)) (h low same) ∙ ap (λ l. k low ++ l) (agree_from f k (low + 1) n (λ x l. h x (omega arith)))

-- the lines of entries are those of all numbers of a range that holds every key
pub lines_of_range : (es : List (ℕ × Account)) (low n : ℕ) → Rise low es → ((a : ℕ) → is_some (found es a) ≡ true → a < low + n)
    → account_lines es ≡ flat_map (λ a. line_at a (found es a)) (range_with_len low n)
lines_of_range [] low zero rise below = refl
lines_of_range (e ∷ es) low zero rise below =
    let here : is_some (found (e ∷ es) e.0) ≡ true = rw (at_same e.0 e.0 refl) refl in
    let small = below e.0 here in
    let low_key = rise.0 in
    absurd (omega arith)
lines_of_range [] low (suc n) rise below = lines_of_range [] (low + 1) n tt (λ a found_it. let clash : false ≡ true = found_it in cc)
lines_of_range (e ∷ es) low (suc n) rise below = elim (cases_eq e.0 low) [
  | inl first ↦
      let rest : Rise (low + 1) es = subst (λ k. Rise k es) (ap suc first ∙ sym (add-one low)) rise.1 in
      let within : (a : ℕ) → is_some (found es a) ≡ true → a < (low + 1) + n = λ a there. elim (cases_eq a e.0) [
        | inl same ↦ (let b = below a (rw (at_same a e.0 same) refl) in omega arith)
        | inr other ↦ (let b = below a (rw (at_other a e.0 other) there) in omega arith)
      ] in
      let lines = account_line e.0 e.1.balance e.1.refused in
      let others = flat_map (λ a. line_at a (found (e ∷ es) a)) (range_with_len (low + 1) n) in
      let is : found (e ∷ es) low ≡ Some e.1 = rw (at_same low e.0 (sym first)) refl in
      let later : (x : ℕ) → low + 1 ≤ x → line_at x (found es x) ≡ line_at x (found (e ∷ es) x) = λ x l. ap (line_at x) (sym (after_key x e es (omega arith))) in
      ap (λ l. lines ++ l)
      (lines_of_range es (low + 1) n rest within
      ∙ agree_from (λ a. line_at a (found es a)) (λ a. line_at a (found (e ∷ es) a)) (low + 1) n later)
      ∙ ap (λ k. account_line k e.1.balance e.1.refused ++ others) first ∙ ap (λ o. line_at low o ++ others) (sym is)
  | inr later ↦
      let above : low < e.0 = let low_key = rise.0 in omega arith in
      let next : low + 1 ≤ e.0 = omega arith in
      let all : AllAbove (low + 1) es = above_less (low + 1) (suc e.0) es (omega arith) (rise_above (suc e.0) es rise.1) in
      let nothing : found (e ∷ es) low ≡ None = not_found low (low + 1) (e ∷ es) (omega arith) (next, all) in
      lines_of_range (e ∷ es) (low + 1) n (next, rise.1) (λ a there. let b = below a there in omega arith)
      ∙ ap (λ o. line_at low o ++ flat_map (λ a. line_at a (found (e ∷ es) a)) (range_with_len (low + 1) n)) (sym nothing)
]

less_is : (x y : ℕ) → nat_cmp x y ≡ Less → x < y
less_is x y e = elim (cases_lt x y) [
  | inl l ↦ l
  | inr g ↦
      let no_less : nat_lt x y ≡ false = le-ltb x y (omega arith) in
      let rest : (if x == y then Equal else Greater) ≡ Less = rw no_less at e in
      elim (cases_Bool (x == y)) [
        | inl t ↦ (let clash : Equal ≡ Less = rw t at rest in cc)
        | inr f ↦ (let clash : Greater ≡ Less = rw f at rest in cc)
      ]
]

-- the first key is above a number
abbrev FirstAbove : ℕ → List (ℕ × Account) → Type 0
FirstAbove low [] = Unit {0}
FirstAbove low (e ∷ es) = low ≤ e.0

first_above : (key : ℕ) (es : List (ℕ × Account)) → AllByRecursion (λ y. nat_cmp key y ≡ Less) (keys_of es) → FirstAbove (suc key) es
first_above key [] h = tt
first_above key (e ∷ es) h = let l = less_is key e.0 h.0 in omega arith

rises : (low : ℕ) (es : List (ℕ × Account)) → FirstAbove low es → IsStrictlySortedBy nat_cmp (keys_of es) → Rise low es
rises low [] above sorted = tt
rises low (e ∷ es) above sorted =
    let head = sorted_head nat_cmp e.0 (keys_of es) sorted in
    (above, rises (suc e.0) es (first_above e.0 es head) (sorted_tail nat_cmp e.0 (keys_of es) sorted))

any_above : (es : List (ℕ × Account)) → FirstAbove 0 es
any_above [] = tt
any_above (e ∷ es) = omega arith

-- an event names accounts below the bound alone

either : (p q : Bool) → (p || q) ≡ true → (p ≡ true) ⊎ (q ≡ true)
either true q h = inl refl
either false q h = inr h

same_small : (a n : ℕ) → (a == n) ≡ true → n < 2 ^ 16 → a < 2 ^ 16
same_small a n e small = let is = eqb-true a n e in omega arith

names_small : (e : Event) (a : ℕ) → names (movement_of e) a ≡ true → a < 2 ^ 16
names_small e a h =
    let from : account_of e < 2 ^ 16 = omega arith in
    let to : e.second / 2 ^ 48 % 65536 < 2 ^ 16 = omega arith in
    elim (cases_Bool (code_of e == 2)) [
      | inl two ↦ same_small a (account_of e) (rw two at h) from
      | inr not_two ↦ elim (cases_Bool (code_of e == 3)) [
        | inl three ↦ ⊎_elim
            (λ l. same_small a (account_of e) l from)
            (λ r. same_small a (e.second / 2 ^ 48 % 65536) r to)
            (either (a == account_of e) (a == e.second / 2 ^ 48 % 65536) (rw (not_two, three) at h))
        | inr not_three ↦ same_small a (account_of e) (rw (not_two, not_three) at h) from
      ]
    ]

named_small : (events : List Event) (a : ℕ) → is_account events a ≡ true → a < 2 ^ 16
named_small [] a h = let clash : false ≡ true = h in cc
named_small (e ∷ es) a h = ⊎_elim (λ l. names_small e a l) (λ r. named_small es a r) (either (names (movement_of e) a) (is_account es a) h)

within_bound : (a : ℕ) → a < 2 ^ 16 → a < 0 + account_bound
unfolding account_bound
within_bound a h = omega arith

line_is : (a : ℕ) (o : Option Account) (balance refused : ℕ) (named : Bool)
    → balance_in o ≡ balance → refused_in o ≡ refused → is_some o ≡ named
    → line_at a o ≡ (if named then account_line a balance refused else [])
line_is a None balance refused named b r n = rw (← n) refl
line_is a (Some account) balance refused named b r n = rw (← n, ← b, ← r) refl

pub business_says : (b : Business) (events : List Event) → HasBusiness b events → IsStrictlySortedBy nat_cmp (keys_of b.accounts.entries)
    → business_text b ≡ business_part events
business_says b events has sorted =
    let entries = b.accounts.entries in
    let rise = rises 0 entries (any_above entries) sorted in
    let below : (a : ℕ) → is_some (found entries a) ≡ true → a < 0 + account_bound =
    λ a there. within_bound a (named_small events a (sym (has.named a) ∙ there)) in
    let line = λ (a : ℕ). account_line a (balance_of events a) (refusals_of events a) in
    let one = λ (a : ℕ). if is_account events a then line a else [] in
    let same : (a : ℕ) → line_at a (found entries a) ≡ one a =
    λ a. line_is a (found entries a) (balance_of events a) (refusals_of events a) (is_account events a) (has.balances a) (has.refusals a) (has.named a) in
    let lines : account_lines entries ≡ flat_map line (filter (is_account events) accounts) =
    lines_of_range entries 0 account_bound rise below
    ∙ lines_agree (λ a. line_at a (found entries a)) one accounts same
    ∙ sym (flat_filter line (is_account events) accounts) in
    ap (λ n. heading (codes "business") n ++ account_lines entries) has.count ∙ ap (λ l. heading (codes "business") (length events) ++ l) lines

pub journal_says : (j : Journal) (events : List Event) → HasJournal j events → journal_text j ≡ journal_part events
journal_says j events has =
    ap (λ n. heading (codes "journal") n ++ string_bytes j.lines) has.count
    ∙ ap (λ l. heading (codes "journal") (length events) ++ l) has.lines

pub replica_says : (r : Replica) (events : List Event) → HasReplica r events → replica_text r ≡ replica_part events
replica_says r events has =
    ap (λ n. heading (codes "replica") n ++ string_bytes r.lines) has.count
    ∙ ap (λ l. heading (codes "replica") (length events) ++ l) has.lines
