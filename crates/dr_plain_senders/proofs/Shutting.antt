-- A write that the words refuse is refused so by the machine.
use Rattle.std.proofs.Common.{◌≡◌, ℕ, ◌+◌, ◌<◌, ◌≤◌, ◌⊎◌, inl, inr, Bool, true, false, not, ◌==◌, if◌then◌else◌, [], ◌∷◌, length, get_or, map, sym}
use Rattle.std.proofs.Common.{ap, ◌∙◌, arith}
use Rattle.std.specs.Prelude.{nat_le, is_some}
use Rattle.std.proofs.lemmas.Bool.{cases_Bool, cases_lt, lt-leb, le-leb, ne_eqb, both_ways}
use Rattle.std.proofs.lemmas.List.{length-map}
use Rattle.dr_meaning.specs.declared.command.Command.TheVariants.{Write}
use Rattle.dr_meaning.specs.declared.command.Reply.TheVariants.{Refused}
use Rattle.dr_meaning.specs.declared.refusal.Refusal.TheVariants.{NoProducer, NotClaimed, AlreadyPublished}
use Rattle.dr_meaning.specs.Meaning.Machine.{State, Outcome, unless, unchanged, accepted}
use Rattle.dr_runs.proofs.Elements.{there, at_below, word_at}
use Rattle.dr_plain_senders.specs.Meaning.Shape.{Shape, ring_setup}
use Rattle.dr_plain_senders.specs.Meaning.Words.{claim_word, mark_word, is_out_by}
use Rattle.dr_plain_senders.specs.declared.record.Stage.{Stage}
use Rattle.dr_plain_senders.specs.Meaning.Records.{is_published}
use Rattle.dr_plain_senders.specs.Meaning.Rule.{World, IsOut, has_mark, is_out_now, KeepsRule}
use Rattle.dr_plain_senders.specs.Meaning.Moments.{stage_at, picture_of, IsShut, RefusesByWords, ToldByLooks}
use Rattle.dr_plain_senders.proofs.Places.{one_value}
use Rattle.dr_plain_senders.proofs.Facts.{cases_option, none_or_some, out_behind}
use Rattle.dr_plain_senders.proofs.Marks.{out_said, in_said, marked_out, out_now, hidden_now}
use Rattle.dr_plain_senders.proofs.Machine.{at_stage, owner_at}
use Rattle.dr_plain_senders.proofs.Later.{out_at}

-- which of a write's tests is the first that holds
abbrev Decides : Bool → Bool → Bool → Bool → Type 0
Decides b c d e = ((b ≡ true) × (e ≡ false)) ⊎ ((b ≡ false) × (((c ≡ true) × (e ≡ true)) ⊎ ((c ≡ false) × (d ≡ true) × (e ≡ false))))

module _ {T : Type 0} where
  first_cause : (m : State T) (o : Outcome T) (a b c d e : Bool) → a ≡ false → Decides b c d e
      → unless ((a, NoProducer) ∷ (b, NotClaimed) ∷ (c, AlreadyPublished) ∷ (d, NotClaimed) ∷ []) m o
      ≡ unchanged (Refused (if e then AlreadyPublished else NotClaimed)) m
  first_cause m o a b c d e none (inl x) =
      (λ i. unless ((none i, NoProducer) ∷ (x.0 i, NotClaimed) ∷ (c, AlreadyPublished) ∷ (d, NotClaimed) ∷ []) m o)
      ∙ ap (λ (y : Bool). unchanged (Refused (if y then AlreadyPublished else NotClaimed)) m) (sym x.1)
  first_cause m o a b c d e none (inr (claimed, inl x)) =
      (λ i. unless ((none i, NoProducer) ∷ (claimed i, NotClaimed) ∷ (x.0 i, AlreadyPublished) ∷ (d, NotClaimed) ∷ []) m o)
      ∙ ap (λ (y : Bool). unchanged (Refused (if y then AlreadyPublished else NotClaimed)) m) (sym x.1)
  first_cause m o a b c d e none (inr (claimed, inr x)) =
      (λ i. unless ((none i, NoProducer) ∷ (claimed i, NotClaimed) ∷ (x.0 i, AlreadyPublished) ∷ (x.1 i, NotClaimed) ∷ []) m o)
      ∙ ap (λ (y : Bool). unchanged (Refused (if y then AlreadyPublished else NotClaimed)) m) (sym x.2)

  pub refused_by_words : (k : Shape T) (w : World T) (p s : ℕ) (event : T) → KeepsRule k w → p < k.senders → IsShut w p s → RefusesByWords k w p s event
  refused_by_words k w p s event K who shut =
      let m = picture_of k w in let o = accepted (ring_setup k) m (Write p s event) in let owners = map (λ (t : Stage T). t.owner) w.stages in
      let count : length owners ≡ length w.stages = length-map w.stages (λ t. t.owner) in
      let is = first_cause m o (nat_le k.senders p) (nat_le (length owners) s) (is_published (stage_at w.stages s)) (not (get_or owners s 0 == p))
      (is_out_now k w s) (lt-leb k.senders p who) in
      elim (cases_lt s (length w.stages)) [
        | inr past ↦ is (inl (le-leb (length owners) s (omega arith), hidden_now k w s K (λ x. let b = at_below w.stages s x.1.0 x.1.1 in omega arith)))
        | inl inside ↦ (let x = there w.stages s inside in let claimed = lt-leb (length owners) s (omega arith) in let same = at_stage w.stages s x.0 x.1 in
            elim (cases_option x.0.lent) [
              | inr shown ↦ is (inr (
                claimed,
                inl (ap is_published same ∙ ap is_some shown.1, out_now k w s K (shown.0, (x.0, x.1, shown.1))),
              ))
              | inl hidden ↦ is (inr (
                claimed,
                inr (
                  ap is_published same ∙ ap is_some hidden,
                  ap not (ne_eqb (get_or owners s 0) p
                      (λ mine. absurd (let shown = shut x.0 x.1 (sym (owner_at w.stages s x.0 x.1) ∙ mine) in none_or_some x.0.lent shown.0 hidden shown.1))),
                  hidden_now k w s K (λ y. none_or_some x.0.lent y.0 hidden (ap (λ (t : Stage T). t.lent) (one_value w.stages s x.0 y.1.0 x.1 y.1.1) ∙ y.1.2)),
                ),
              ))
            ])
      ]

  -- a sequence is published in the picture where it is in the ring
  pub shown_out : (k : Shape T) (w : World T) (s : ℕ) → IsOut w.stages s → (picture_of k w).published s ≡ true
  shown_out k w s x = ap is_published (at_stage w.stages s x.1.0 x.1.1) ∙ ap is_some x.1.2

  pub hidden_out : (k : Shape T) (w : World T) (s : ℕ) → (IsOut w.stages s → ⊥) → (picture_of k w).published s ≡ false
  hidden_out k w s hidden = elim (cases_Bool ((picture_of k w).published s)) [
    | inl shown ↦ absurd (hidden (out_at w.stages s shown))
    | inr is ↦ is
  ]

  -- what looks at the claim word, at a mark and at the claim word again say was so at one of them
  pub told_by_looks : (k : Shape T) (w u v : World T) → KeepsRule k w → KeepsRule k u
      → KeepsRule k v → length w.stages ≤ length u.stages → length u.stages ≤ length v.stages
      → ToldByLooks k w u v
  told_by_looks k w u v K L M more later s =
      let c = word_at w.words claim_word in let m = word_at u.words (mark_word k s) in let d = word_at v.words claim_word in
      let first = K.claim in let last = M.claim in
      elim (cases_Bool (is_out_by k s c m d)) [
        | inl said ↦ (let x = out_said k s c m d said in let inside = x.0 in elim x.1 [
          | inl there ↦ inr (inl (shown_out k u s (marked_out k u s (omega arith) there L) ∙ sym said))
          | inr past ↦ inr (inr (shown_out k v s (out_behind k v s (s + k.size) (omega arith) (omega arith) M) ∙ sym said))
        ])
        | inr said ↦ elim (in_said k s c m d said) [
          | inl early ↦ inl (hidden_out k w s (λ x. let b = at_below w.stages s x.1.0 x.1.1 in omega arith) ∙ sym said)
          | inr absent ↦ (let near = absent.1 in
              inr (inl (hidden_out k u s (λ x. both_ways (has_mark k u s) absent.0 (L.marked s x (omega arith))) ∙ sym said)))
        ]
      ]
