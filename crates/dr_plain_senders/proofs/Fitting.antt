-- A sender's marks, tokens and slots fit what it knows after each of its calls.
use Rattle.std.proofs.Common.{◌≡◌, ℕ, ◌+◌, ◌-◌, ◌<◌, ◌≤◌, ◌⊎◌, inl, inr, Bool, true, false, not, ◌&&◌, List, ◌++◌, length, sym, refl, ap, ◌∙◌, subst, arith}
use Rattle.std.specs.Prelude.{None, Some, Option, is_some}
use Rattle.std.proofs.lemmas.Bool.{cases_Bool, cases_lt}
use mathlib.Core.Option.{some}
use lib.ListN.{get_elem?}
use Rattle.dr_cells.specs.declared.token.Token.{Token}
use Rattle.dr_seq.specs.Rounds.{entry_of, is_marked}
use Rattle.dr_seq.specs.Stamped.{stamped}
use Rattle.dr_seq.proofs.Stamped.{marked-in, marked-out, length-stamped}
use Rattle.dr_plain_senders.specs.Meaning.Shape.{Shape}
use Rattle.dr_plain_senders.specs.Meaning.Records.{Owns, fresh_stage, fresh_own, is_published}
use Rattle.dr_plain_senders.specs.declared.record.Stage.{Stage}
use Rattle.dr_plain_senders.specs.declared.record.Own.{Own}
use Rattle.dr_plain_senders.specs.declared.record.SenderRecord.{SenderRecord}
use Rattle.dr_plain_senders.specs.Calls.Ends.{SenderStand}
use Rattle.dr_plain_senders.specs.Calls.Finds.{IsEarlier}
use Rattle.dr_plain_senders.specs.Inside.Fits.{MarksFit, SenderFits}
use Rattle.dr_plain_senders.specs.Inside.Owned.{Owned, after_claim, is_open, wiped}
use Rattle.atomic_table.proofs.Lists.{at_longer}
use Rattle.dr_plain_senders.proofs.Places.{more_right, more_cases}
use Rattle.dr_plain_senders.proofs.KeepsClaims.{fresh_at, fresh_there}
use Rattle.dr_plain_senders.proofs.Owning.{marked_was}
use Rattle.dr_plain_senders.proofs.Wiped.{wiped_count, wiped_was, wiped_beside}

pub no_lent : {X : Type 0} (o : Option X) → is_some o ≡ false → o ≡ None
no_lent None e = refl
no_lent (Some x) e = absurd (cc)

module _ {T : Type 0} where
  -- a sender has what its list has
  pub owns_same : (r q : SenderRecord T) (s : ℕ) (t : Stage T) → q.own ≡ r.own → Owns r s t → Owns q s t
  owns_same r q s t same own = (own.0, ap (λ (xs : List (Own T)). get_elem? xs own.0) same ∙ own.1)

  -- where a sender learns something, and its sequences stay
  pub marks_same : (r q : SenderRecord T) (o : Owned) → q.own ≡ r.own → MarksFit r o → MarksFit (record q { plan = r.plan }) o
  marks_same r q o same F = record {
    claims = F.claims;
    writes = F.writes;
    shows = F.shows;
    own = λ s m. (let x = F.own s m in (x.0, owns_same r q s x.0 same x.1));
    written = λ s m. (let x = F.written s m in (x.0, owns_same r q s x.0 same x.1));
    published = λ s m. (let x = F.published s m in (x.0, owns_same r q s x.0 same x.1));
    old = λ s t own m. (let x = F.old s t (owns_same q r s t (sym same) own) m in (x.0, (x.1.0, x.1.1, owns_same r q x.1.0 x.1.1 same x.1.2, x.1.3)));
    shown = λ s t own m. F.shown s t (owns_same q r s t (sym same) own) m;
  }

  pub fits_same : (e e' : SenderStand T) (o : Owned) (end : ℕ) (tokens : List (Token T)) → e'.knows.plan ≡ e.knows.plan → e'.knows.own ≡ e.knows.own → e'.hand ≡ e.hand
      → SenderFits e o end tokens → SenderFits e' o end tokens
  fits_same e e' o end tokens plan own hand F =
      let P : Shape T → Type 0 = λ k. SenderFits (record e' { knows = record e'.knows { plan = k } }) o end tokens in
      let fits : P e.knows.plan = record {
        marks = marks_same e.knows e'.knows o own F.marks;
        limit = F.limit;
        last = λ some_one. (let x = F.last some_one in (x.0, owns_same e.knows e'.knows (end - 1) x.0 own x.1));
        below = λ s t owned. F.below s t (owns_same e'.knows e.knows s t (sym own) owned);
        near = F.near;
        count = F.count;
        whole = F.whole;
        hand = hand ∙ F.hand;
      } in subst P (sym plan) fits

-- what a claim adds to what a sender has
module _ {T : Type 0} (r q : SenderRecord T) (c n : ℕ) (grown : q.own ≡ r.own ++ fresh_own r.number c n) where
  kept : (s : ℕ) (t : Stage T) → Owns r s t → Owns q s t
  kept s t own =
      (own.0, ap (λ (xs : List (Own T)). get_elem? xs own.0) grown ∙ at_longer r.own (fresh_own r.number c n) own.0 (record { sequence = s; stage = t }) own.1)

  pub own_new : (s : ℕ) → c ≤ s → s < c + n → Owns q s (fresh_stage r.number)
  own_new s low high = let at : c + (s - c) ≡ s = omega arith in (
    length r.own + (s - c),
    ap (λ (xs : List (Own T)). get_elem? xs (length r.own + (s - c))) grown
        ∙ more_right r.own (fresh_own r.number c n) (s - c) (record { sequence = c + (s - c); stage = fresh_stage r.number })
        (fresh_there r.number c n (s - c) (omega arith))
        ∙ ap (λ (x : ℕ). let o : Own T = record { sequence = x; stage = fresh_stage r.number } in some o) at,
  )

  -- it has it newly, or had it
  abbrev pub Whence : ℕ → Stage T → Type 0
  Whence s t = ((c ≤ s) × (s < c + n) × (t ≡ fresh_stage r.number)) ⊎ Owns r s t

  pub whence : (s : ℕ) (t : Stage T) → Owns q s t → Whence s t
  whence s t own =
      elim (more_cases r.own (fresh_own r.number c n) own.0 (record { sequence = s; stage = t })
      (ap (λ (xs : List (Own T)). get_elem? xs own.0) (sym grown) ∙ own.1)) [
        | inl old ↦ inr (own.0, old)
        | inr x ↦ (let d = fresh_at r.number c n x.0 (record { sequence = s; stage = t }) x.2 in
            let at : c + x.0 ≡ s = ap (λ (o : Own T). o.sequence) d.1 in let lt = d.0 in inl (omega arith, omega arith, sym (ap (λ (o : Own T). o.stage) d.1)))
      ]

  module _ (o : Owned) (F : MarksFit r o) (some_one : 0 < n) (few : n ≤ r.plan.size)
      (earlier : (s : ℕ) (t : Stage T) → Owns r s t → IsEarlier r.plan c (c + n) s t) where
    abbrev pub claimed_marks : List ℕ
    claimed_marks = stamped (entry_of (length o.claimed)) o.claimed c n

    here : (s : ℕ) → c ≤ s → s < c + n → is_marked claimed_marks s ≡ true
    here s low high = let len = F.claims in marked-in o.claimed c n s (omega arith) (omega arith) low high

    before : (s : ℕ) → s < c → is_marked claimed_marks s ≡ true → is_marked o.claimed s ≡ true
    before s lt m = let len = F.claims in elim (marked_was o.claimed c n s (omega arith) m) [
      | inl within ↦ absurd (let a = within.0 in omega arith)
      | inr was ↦ was
    ]

    -- a sequence that is not published keeps its mark
    keeps_mark : (s : ℕ) (t : Stage T) → Owns r s t → is_published t ≡ false → is_marked claimed_marks s ≡ is_marked o.claimed s
    keeps_mark s t owned hidden =
        let len = F.claims in let e = earlier s t owned in let below = e.0 in let near = e.1 (no_lent t.lent hidden) in
        marked-out o.claimed c n s (omega arith) (omega arith) (λ j lt eq. omega arith)

    abbrev anew : Owned
    anew = after_claim o c n

    -- one that still has its mark is written and published as before
    pub same_row : (xs : List ℕ) → length xs ≡ r.plan.size → (s : ℕ) → s < c → is_marked claimed_marks s ≡ true → is_marked (wiped xs c n) s ≡ is_marked xs s
    same_row xs count s lt marked = let len = F.claims in wiped_beside o.claimed xs c n s (omega arith) (omega arith) (omega arith) lt marked

    unpublished_new : (s : ℕ) → c ≤ s → is_marked anew.published s ≡ false
    unpublished_new s low = elim (cases_Bool (is_marked anew.published s)) [
      | inl marked ↦ absurd (let len = F.shows in let was = wiped_was o.published c n s (omega arith) marked in
          let y = F.published s was in let e = earlier s y.0 y.1 in let below = e.0 in omega arith)
      | inr unmarked ↦ unmarked
    ]

    -- what has no mark then is published, and its cell is claimed again
    old_now : (s : ℕ) (t : Stage T) → Owns r s t → is_marked claimed_marks s ≡ false
        → (is_published t ≡ true) × ((z : ℕ) × (u : Stage T) × Owns q z u × (s + r.plan.size ≤ z))
    old_now s t owned m = let len = F.claims in let e = earlier s t owned in let below = e.0 in
        elim (cases_Bool (is_marked o.claimed s)) [
          | inr unmarked ↦ (let x = F.old s t owned unmarked in (x.0, (x.1.0, x.1.1, kept x.1.0 x.1.1 x.1.2, x.1.3)))
          | inl marked ↦ elim (cases_lt (s + r.plan.size) (c + n)) [
            | inl past ↦ (
              elim (cases_Bool (is_published t)) [
                | inl shown ↦ shown
                | inr hidden ↦ absurd (let near = e.1 (no_lent t.lent hidden) in omega arith)
              ],
              (c + n - 1, fresh_stage r.number, own_new (c + n - 1) (omega arith) (omega arith), omega arith),
            )
            | inr near ↦ absurd (let same = marked-out o.claimed c n s (omega arith) (omega arith) (λ j lt eq. omega arith) in cc)
          ]
        ]

    -- a sender's marks once it claimed n from c on
    pub marks_claimed : MarksFit (record q { plan = r.plan }) anew
    marks_claimed =
        let len = F.claims in let same : length claimed_marks ≡ length o.claimed = length-stamped (entry_of (length o.claimed)) o.claimed c n in
        let writes = F.writes in let shows = F.shows in record {
          claims = same ∙ F.claims;
          writes = wiped_count o.written c n ∙ F.writes;
          shows = wiped_count o.published c n ∙ F.shows;
          own = λ s m. elim (marked_was o.claimed c n s (omega arith) m) [
            | inl within ↦ (fresh_stage r.number, own_new s within.0 within.1)
            | inr was ↦ (let x = F.own s was in (x.0, kept s x.0 x.1))
          ];
          written = λ s m. (let x = F.written s (wiped_was o.written c n s (omega arith) m) in (x.0, kept s x.0 x.1));
          published = λ s m. (let x = F.published s (wiped_was o.published c n s (omega arith) m) in (x.0, kept s x.0 x.1));
          old = λ s t own m. elim (whence s t own) [
            | inl x ↦ absurd (let yes = here s x.0 x.1 in cc)
            | inr owned ↦ old_now s t owned m
          ];
          shown = λ s t own m. elim (whence s t own) [
            | inl x ↦ ap is_published x.2 ∙ sym (unpublished_new s x.0)
            | inr owned ↦ (let lt = (earlier s t owned).0 in F.shown s t owned (before s lt m) ∙ sym (same_row o.published F.shows s lt m))
          ];
        }

    -- what was open stays open, what is claimed is open, and nothing else
    pub open_before : (s : ℕ) → s < c → is_open o s ≡ is_open anew s
    open_before s lt = elim (cases_Bool (is_marked claimed_marks s)) [
      | inl still ↦ (λ i. (before s lt still ∙ sym still) i && not (sym (same_row o.published F.shows s lt still) i))
      | inr gone ↦ was_closed s lt gone ∙ sym (ap (λ (b : Bool). b && not (is_marked anew.published s)) gone)
    ]
      where
        -- one that lost its mark was not open
        was_closed : (s : ℕ) → s < c → is_marked claimed_marks s ≡ false → is_open o s ≡ false
        was_closed s lt gone = elim (cases_Bool (is_marked o.claimed s)) [
          | inl marked ↦ (let own = F.own s marked in elim (cases_Bool (is_published own.0)) [
            | inl shown ↦ (λ i. marked i && not ((sym (F.shown s own.0 own.1 marked) ∙ shown) i))
            | inr hidden ↦ absurd (let same = keeps_mark s own.0 own.1 hidden in cc)
          ])
          | inr unmarked ↦ ap (λ (b : Bool). b && not (is_marked o.published s)) unmarked
        ]

    pub open_here : (s : ℕ) → c ≤ s → s < c + n → is_open anew s ≡ true
    open_here s low high = (λ i. here s low high i && not (unpublished_new s low i))
