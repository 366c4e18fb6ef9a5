-- What is noted as written, what a write, a claim and a publication leave of that, and what the writes of open sequences then are.
use Rattle.std.proofs.Common.{◌≡◌, ◌≢◌, ℕ, zero, suc, ◌+◌, ◌%◌, ◌<◌, ◌≤◌, inl, inr, true, false, if◌then◌else◌, List, ◌∷◌, ◌++◌, length, get_or, set}
use Rattle.std.proofs.Common.{replicate, max}
use Rattle.std.proofs.Common.{Option, None, sym, refl, ap, ◌∙◌, subst, arith}
use Rattle.std.specs.Prelude.{◌||◌}
use Rattle.std.proofs.lemmas.Bool.{cases_lt, lt-ltb, le-ltb, or_from}
use Rattle.dr_seq.specs.Rounds.{is_marked}
use Rattle.dr_runs.specs.declared.written.Written.{Written}
use Rattle.dr_plain.specs.Inside.Noted.{Noted, writes_from}
use Rattle.dr_runs.specs.OneSender.Noted.{Notes, is_noted}
use Rattle.dr_runs.proofs.Noting.{notes_one}

pub noted_write : (size next : ℕ) (w w' : Written) (s : ℕ) → 0 < size → s < next → next ≤ s + size → Noted size next w → Notes w s w' → Noted size next w'
noted_write size next w w' s some within near N notes =
    let one = notes_one size next w s w' N.slots some within near N.upto N.fresh notes in record { slots = one.slots; upto = one.upto; fresh = one.fresh }

pub noted_more : (size next more : ℕ) (w : Written) → next ≤ more → Noted size next w → Noted size more w
noted_more size next more w le N = let upto = N.upto in record { slots = N.slots; upto = omega arith; fresh = λ s l. N.fresh s (omega arith) }

-- a publication up to n notes all below it
pub noted_published : (size next n : ℕ) (w w' : Written) → n ≤ next → w' ≡ record w { upto = max w.upto n } → Noted size next w → Noted size next w'
noted_published size next n w w' le new N = let upto = N.upto in
    subst (Noted size next) (sym new) (record { slots = N.slots; upto = omega arith; fresh = N.fresh })

pub noted_later : (w : Written) (n k : ℕ) → n ≤ k → is_noted (record w { upto = max w.upto n }) k ≡ is_noted w k
noted_later w n k le = ap (λ b. b || is_marked w.ahead k) (elim (cases_lt k w.upto) [
  | inl below ↦ lt-ltb k (max w.upto n) (omega arith) ∙ sym (lt-ltb k w.upto below)
  | inr above ↦ le-ltb k (max w.upto n) (omega arith) ∙ sym (le-ltb k w.upto above)
])

-- what is not claimed is not noted
pub unclaimed : (size next : ℕ) (w : Written) (s : ℕ) → Noted size next w → next ≤ s → is_noted w s ≡ false
unclaimed size next w s N le = let upto = N.upto in or_from _ _ (le-ltb s w.upto (omega arith)) (N.fresh s le)

module _ {T : Type 0} where
  -- what is written of one sequence, where this lies in the cells
  abbrev pub write_at : Written → List (Option T) → ℕ → Option T
  write_at w cells s = if is_noted w s then get_or cells (s % length cells) None else None

  pub writes_count : (w : Written) (cells : List (Option T)) (s n : ℕ) → length (writes_from w cells s n) ≡ n
  writes_count w cells s zero = refl
  writes_count w cells s (suc n) = ap suc (writes_count w cells (s + 1) n)

  pub writes_at : (w : Written) (cells : List (Option T)) (s n i : ℕ) → i < n → get_or (writes_from w cells s n) i None ≡ write_at w cells (s + i)
  writes_at w cells s zero i lt = absurd (omega arith)
  writes_at w cells s (suc n) zero lt = let e : s ≡ s + 0 = omega arith in ap (write_at w cells) e
  writes_at w cells s (suc n) (suc i) lt = let e : s + 1 + i ≡ s + suc i = omega arith in writes_at w cells (s + 1) n i (omega arith) ∙ ap (write_at w cells) e

  pub written_at : (w : Written) (cells : List (Option T)) (s : ℕ) (o : Option T) → is_noted w s ≡ true → get_or cells (s % length cells) None ≡ o
      → write_at w cells s ≡ o
  written_at w cells s o noted at = rw noted at

  pub unwritten_at : (w : Written) (cells : List (Option T)) (s : ℕ) → is_noted w s ≡ false → write_at w cells s ≡ None
  unwritten_at w cells s other = rw other refl

  -- of n sequences that are not noted
  pub writes_none : (w : Written) (cells : List (Option T)) (s n : ℕ) → ((k : ℕ) → s ≤ k → is_noted w k ≡ false)
      → (let nothing : Option T = None in writes_from w cells s n ≡ replicate n nothing)
  writes_none w cells s zero none = refl
  writes_none w cells s (suc n) none = let nothing : Option T = None in
      λ i. unwritten_at w cells s (none s (omega arith)) i ∷ writes_none w cells (s + 1) n (λ k le. none k (omega arith)) i

  pub writes_both : (w : Written) (cells : List (Option T)) (s n m : ℕ)
      → writes_from w cells s (n + m) ≡ writes_from w cells s n ++ writes_from w cells (s + n) m
  writes_both w cells s zero m = let e : zero + m ≡ m = omega arith in let f : s ≡ s + zero = omega arith in λ i. writes_from w cells (f i) (e i)
  writes_both w cells s (suc n) m = let e : suc n + m ≡ suc (n + m) = omega arith in let f : s + 1 + n ≡ s + suc n = omega arith in
      ap (λ (j : ℕ). writes_from w cells s j) e
      ∙ ap (λ (xs : List (Option T)). write_at w cells s ∷ xs) (writes_both w cells (s + 1) n m ∙ ap (λ (j : ℕ). writes_from w cells (s + 1) n ++ writes_from w cells j m) f)

  pub writes_same : (w w' : Written) (cells cells' : List (Option T)) (s n : ℕ) → ((k : ℕ) → s ≤ k → k < s + n → write_at w' cells' k ≡ write_at w cells k)
      → writes_from w' cells' s n ≡ writes_from w cells s n
  writes_same w w' cells cells' s zero same = refl
  writes_same w w' cells cells' s (suc n) same = λ i. same s (omega arith) (omega arith) i ∷ writes_same w w' cells cells' (s + 1) n (λ k low lt. same k (omega arith) (omega arith)) i

  pub writes_set : (w w' : Written) (cells cells' : List (Option T)) (s n i : ℕ) (o : Option T) → i < n → write_at w' cells' (s + i) ≡ o
      → ((k : ℕ) → s ≤ k → k < s + n → k ≢ s + i → write_at w' cells' k ≡ write_at w cells k) → writes_from w' cells' s n ≡ set (writes_from w cells s n) i o
  writes_set w w' cells cells' s zero i o lt here same = absurd (omega arith)
  writes_set w w' cells cells' s (suc n) zero o lt here same = let e : s ≡ s + 0 = omega arith in
      λ i. (ap (write_at w' cells') e ∙ here) i ∷ writes_same w w' cells cells' (s + 1) n (λ k low lt. same k (omega arith) (omega arith) (λ (z : k ≡ s + 0). omega arith)) i
  writes_set w w' cells cells' s (suc n) (suc j) o lt here same = let e : s + 1 + j ≡ s + suc j = omega arith in
      λ i. same s (omega arith) (omega arith) (λ (z : s ≡ s + suc j). omega arith) i
      ∷ writes_set w w' cells cells' (s + 1) n j o (omega arith) (ap (write_at w' cells') e ∙ here) (λ k low lt ne. same k (omega arith) (omega arith) (λ (z : k ≡ s + suc j). ne (omega arith))) i
