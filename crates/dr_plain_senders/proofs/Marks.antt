-- What the claim word and the marks tell.
use Rattle.std.proofs.Common.{◌≡◌, ◌⊎◌, ℕ, ◌+◌, ◌<◌, ◌≤◌, inl, inr, true, false, length, arith}
use Rattle.std.specs.Prelude.{◌||◌, nat_lt}
use Rattle.std.proofs.lemmas.Bool.{cases_lt, and_parts, and_from, and_cases, or_cases, or_parts, or_left, or_right, lt-ltb, ltb-true, ltb-false}
use Rattle.std.proofs.lemmas.Bool.{false_from_ne_true}
use Rattle.dr_runs.proofs.Elements.{at_below, word_at}
use Rattle.dr_plain_senders.specs.Meaning.Shape.{Shape}
use Rattle.dr_plain_senders.specs.Meaning.Words.{claim_word, claimed_in, mark_word, is_there, is_out_by}
use Rattle.dr_plain_senders.specs.Meaning.Rule.{World, IsOut, IsFree, has_mark, is_out_now, KeepsRule}
use Rattle.dr_plain_senders.proofs.Facts.{out_behind}

-- What three looks say, by parts.

pub said_out : {T : Type 0} (k : Shape T) (s before word after : ℕ) → s < claimed_in before
    → (is_there k s word ≡ true) ⊎ (s + k.size < claimed_in after) → is_out_by k s before word after ≡ true
said_out k s before word after claimed either =
    and_from (nat_lt s (claimed_in before)) (is_there k s word || nat_lt (s + k.size) (claimed_in after)) (lt-ltb s (claimed_in before) claimed) (elim either [
      | inl there ↦ or_left (is_there k s word) (nat_lt (s + k.size) (claimed_in after)) there
      | inr past ↦ or_right (is_there k s word) (nat_lt (s + k.size) (claimed_in after)) (lt-ltb (s + k.size) (claimed_in after) past)
    ])

pub out_said : {T : Type 0} (k : Shape T) (s before word after : ℕ) → is_out_by k s before word after ≡ true
    → (s < claimed_in before) × ((is_there k s word ≡ true) ⊎ (s + k.size < claimed_in after))
out_said k s before word after said =
    let both = and_parts (nat_lt s (claimed_in before)) (is_there k s word || nat_lt (s + k.size) (claimed_in after)) said in (
      ltb-true s (claimed_in before) both.0,
      elim (or_cases (is_there k s word) (nat_lt (s + k.size) (claimed_in after)) both.1) [
        | inl there ↦ inl there
        | inr past ↦ inr (ltb-true (s + k.size) (claimed_in after) past)
      ],
    )

pub in_said : {T : Type 0} (k : Shape T) (s before word after : ℕ) → is_out_by k s before word after ≡ false
    → (claimed_in before ≤ s) ⊎ ((is_there k s word ≡ false) × (claimed_in after ≤ s + k.size))
in_said k s before word after said = elim (and_cases (nat_lt s (claimed_in before)) (is_there k s word || nat_lt (s + k.size) (claimed_in after)) said) [
  | inl early ↦ inl (ltb-false s (claimed_in before) early)
  | inr absent ↦
      (let parts = or_parts (is_there k s word) (nat_lt (s + k.size) (claimed_in after)) absent in
      inr (parts.0, ltb-false (s + k.size) (claimed_in after) parts.1))
]

module _ {T : Type 0} where
  -- the cell of a claimed sequence was free for it
  pub free_claimed : (k : Shape T) (w : World T) (s : ℕ) → s < length w.stages → KeepsRule k w → IsFree k w.stages s
  free_claimed k w s inside K z e = out_behind k w z s (omega arith) inside K

  -- a claimed sequence whose mark is there is published
  pub marked_out : (k : Shape T) (w : World T) (s : ℕ) → s < length w.stages → has_mark k w s ≡ true → KeepsRule k w → IsOut w.stages s
  marked_out k w s inside there K = elim (cases_lt (s + k.size) (length w.stages)) [
    | inl past ↦ out_behind k w s (s + k.size) (omega arith) past K
    | inr near ↦ K.marks s (free_claimed k w s inside K) near there
  ]

  pub hidden_absent : (k : Shape T) (w : World T) (s : ℕ) → s < length w.stages → (IsOut w.stages s → ⊥) → KeepsRule k w → has_mark k w s ≡ false
  hidden_absent k w s inside hidden K = false_from_ne_true (has_mark k w s) (λ there. hidden (marked_out k w s inside there K))

  -- a sequence is published exactly where the words as they are tell so
  pub out_now : (k : Shape T) (w : World T) (s : ℕ) → KeepsRule k w → IsOut w.stages s → is_out_now k w s ≡ true
  out_now k w s K out =
      let claim = K.claim in let c = word_at w.words claim_word in let inside = at_below w.stages s out.1.0 out.1.1 in
      said_out k s c (word_at w.words (mark_word k s)) c (omega arith) (elim (cases_lt (s + k.size) (length w.stages)) [
        | inl past ↦ inr (omega arith)
        | inr near ↦ inl (K.marked s out near)
      ])

  pub now_out : (k : Shape T) (w : World T) (s : ℕ) → KeepsRule k w → is_out_now k w s ≡ true → IsOut w.stages s
  now_out k w s K said =
      let claim = K.claim in let c = word_at w.words claim_word in let x = out_said k s c (word_at w.words (mark_word k s)) c said in let inside = x.0 in
      elim x.1 [
        | inl there ↦ marked_out k w s (omega arith) there K
        | inr past ↦ out_behind k w s (s + k.size) (omega arith) (omega arith) K
      ]

  pub hidden_now : (k : Shape T) (w : World T) (s : ℕ) → KeepsRule k w → (IsOut w.stages s → ⊥) → is_out_now k w s ≡ false
  hidden_now k w s K hidden = false_from_ne_true (is_out_now k w s) (λ said. hidden (now_out k w s K said))
