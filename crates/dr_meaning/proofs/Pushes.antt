-- What one more entry adds to a transcript.
use Rattle.std.proofs.Common.{◌≡◌, ℕ, inl, inr, max, Bool, true, false, ◌||◌, [], ◌∷◌, ◌++◌, refl, ap, ◌∙◌, unwrap_or, None}
use Rattle.std.proofs.lemmas.Bool.{cases_Bool, or_parts}
use Rattle.std.proofs.lemmas.List.{append-nil}
use Rattle.std.proofs.lemmas.List.Sums.{fold-append}
use Rattle.std.proofs.lemmas.List.Folds.{list_any-append}
use Rattle.std.proofs.lemmas.Grind.{flat_map-append}
use Rattle.dr_meaning.specs.Meaning.Transcript.{Entry, Transcript, claimed_below, next_of, owner_of, claimant, first_of, wrote, covers, is_published, before_published, last_written, batch_to, received_by, completion, completed_by, halts, is_halted, retires, retired_by}

pub or-false : (b : Bool) → (b || false) ≡ b
or-false true = refl
or-false false = refl

pub next_push : {E : Type 0} (t : Transcript E) (e : Entry E) → next_of (t ++ e ∷ []) ≡ max (next_of t) (claimed_below e.reply)
next_push t e = fold-append _ 0 t (e ∷ [])

pub owner_push : {E : Type 0} (t : Transcript E) (e : Entry E) (s : ℕ) → owner_of (t ++ e ∷ []) s ≡ first_of (owner_of t s) (claimant e.reply e.command s)
owner_push t e s = fold-append _ None t (e ∷ [])

pub published_push : {E : Type 0} (t : Transcript E) (e : Entry E) (s : ℕ) → is_published (t ++ e ∷ []) s ≡ (is_published t s || covers e.reply e.command s)
published_push t e s = list_any-append _ t (e ∷ []) ∙ ap (λ b. is_published t s || b) (or-false _)

pub halted_push : {E : Type 0} (t : Transcript E) (e : Entry E) → is_halted (t ++ e ∷ []) ≡ (is_halted t || halts e.reply)
halted_push t e = list_any-append _ t (e ∷ []) ∙ ap (λ b. is_halted t || b) (or-false _)

pub retired_push : {E : Type 0} (t : Transcript E) (e : Entry E) (h : ℕ) → retired_by (t ++ e ∷ []) h ≡ (retired_by t h || retires e.reply e.command h)
retired_push t e h = list_any-append _ t (e ∷ []) ∙ ap (λ b. retired_by t h || b) (or-false _)

pub written_push : {E : Type 0} (t : Transcript E) (e : Entry E) (s : ℕ) → last_written (t ++ e ∷ []) s ≡ first_of (wrote e.reply e.command s) (last_written t s)
written_push t e s = fold-append _ None t (e ∷ [])

pub received_push : {E : Type 0} (t : Transcript E) (e : Entry E) (h : ℕ) → received_by (t ++ e ∷ []) h ≡ received_by t h ++ batch_to h e.reply e.command e.values
received_push t e h = flat_map-append _ t (e ∷ []) ∙ ap (λ xs. received_by t h ++ xs) (append-nil _)

pub completed_push : {E : Type 0} (t : Transcript E) (e : Entry E) (h : ℕ) → completed_by (t ++ e ∷ []) h ≡ unwrap_or (completion h e.reply e.command) (completed_by t h)
completed_push t e h = fold-append _ 0 t (e ∷ [])

-- after the publication of a sequence, the entries before it stay
pub before_kept : {E : Type 0} (t : Transcript E) (e : Entry E) (s : ℕ) → is_published t s ≡ true → before_published (t ++ e ∷ []) s ≡ before_published t s
before_kept [] e s h = cc
before_kept (x ∷ xs) e s h =
    elim (cases_Bool (covers x.reply x.command s)) [ inl y ↦ rw (y) | inr n ↦ rw (n) (ap (λ r. x ∷ r) (before_kept xs e s (rw n at h))) ]

-- until then they are all entries
pub before_now : {E : Type 0} (t : Transcript E) (e : Entry E) (s : ℕ) → is_published t s ≡ false → covers e.reply e.command s ≡ true → before_published (t ++ e ∷ []) s ≡ t
before_now [] e s h c = rw c
before_now (x ∷ xs) e s h c =
    let parts : (covers x.reply x.command s ≡ false) × (is_published xs s ≡ false) = or_parts _ _ h in
    rw (parts.0) (ap (λ r. x ∷ r) (before_now xs e s parts.1 c))
