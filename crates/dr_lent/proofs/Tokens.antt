-- The lender's token of a cell, as parts of it go out one after another, and as they come back.
use Rattle.std.proofs.Common.{◌≡◌, ℕ, ◌+◌, ◌-◌, ◌^◌, ◌<◌, Some, sym, refl, ap, ◌∙◌, subst}
use denote.RawPtr.{Ptr}
use Rattle.dr_cells.specs.declared.token.Token.{Token}
use Rattle.dr_cells.specs.Hold.{whole, part, kept, held, IsWhole, lent, CanSplit, split, one_part, CanJoin, joined, IsBack, regained}
use Rattle.dr_cells.specs.Tokens.{token_at, with_hold}
use Rattle.dr_lent.specs.declared.lent.Lent.{Lent}

module _ {T : Type 0} (p : Ptr) (i : ℕ) where
  -- n parts of a lending are out
  abbrev pub out_of : ℕ → Lent T → Token T
  out_of n m = token_at p i (kept m.round n m.event)

  pub held_by : (t : Token T) (n : ℕ) (m : Lent T) → t ≡ out_of n m → held t.hold ≡ Some m.event
  held_by t n m is = ap (λ (x : Token T). held x.hold) is

  pub out_is : (t : Token T) (n k : ℕ) (m : Lent T) → t ≡ out_of n m → n ≡ k → t ≡ out_of k m
  out_is t n k m is same = is ∙ ap (λ (j : ℕ). out_of j m) same

  pub is_whole : (t : Token T) → (x : T) × (t ≡ token_at p i (whole x)) → IsWhole t.hold
  is_whole t is = subst (λ (q : Token T). IsWhole q.hold) (sym is.1) tt

  pub lent_is : (t t' : Token T) (round : ℕ) (is : (x : T) × (t ≡ token_at p i (whole x))) → t' ≡ with_hold t (lent round t.hold)
      → t' ≡ out_of 0 record { round = round; event = is.0 }
  lent_is t t' round is new = new ∙ ap (λ (q : Token T). with_hold q (lent round q.hold)) is.1

  pub can_split : (t : Token T) (n : ℕ) (m : Lent T) → t ≡ out_of n m → n + 1 < 2 ^ 63 → CanSplit t.hold
  can_split t n m is few = subst (λ (q : Token T). CanSplit q.hold) (sym is) few

  pub split_is : (t t' : Token T) (n : ℕ) (m : Lent T) → t ≡ out_of n m → t' ≡ with_hold t (split t.hold) → t' ≡ out_of (n + 1) m
  split_is t t' n m is new = new ∙ ap (λ (q : Token T). with_hold q (split q.hold)) is

  pub part_is_of : (t t' : Token T) (n : ℕ) (m : Lent T) → t ≡ out_of n m → t' ≡ with_hold t (one_part t.hold) → t' ≡ token_at p i (part m.round m.event)
  part_is_of t t' n m is new = new ∙ ap (λ (q : Token T). with_hold q (one_part q.hold)) is

  pub can_join : (t t' : Token T) (n : ℕ) (m : Lent T) → t ≡ out_of n m → t' ≡ token_at p i (part m.round m.event) → 0 < n → CanJoin t.hold t'.hold
  can_join t t' n m is some_part lt =
      subst (λ (q : Token T). CanJoin q.hold t'.hold) (sym is) (subst (λ (q : Token T). CanJoin (out_of n m).hold q.hold) (sym some_part) (refl, lt))

  pub joined_is : (t t' : Token T) (n k : ℕ) (m : Lent T) → t ≡ out_of n m → t' ≡ with_hold t (joined t.hold) → n - 1 ≡ k → t' ≡ out_of k m
  joined_is t t' n k m is new same = new ∙ ap (λ (q : Token T). with_hold q (joined q.hold)) is ∙ ap (λ (j : ℕ). out_of j m) same

  pub is_back : (t : Token T) (n : ℕ) (m : Lent T) → t ≡ out_of n m → n ≡ 0 → IsBack t.hold
  is_back t n m is none = subst (λ (q : Token T). IsBack q.hold) (sym is) none

  pub regained_is : (t t' : Token T) (n : ℕ) (m : Lent T) → t ≡ out_of n m → t' ≡ with_hold t (regained t.hold) → t' ≡ token_at p i (whole m.event)
  regained_is t t' n m is new = new ∙ ap (λ (q : Token T). with_hold q (regained q.hold)) is
