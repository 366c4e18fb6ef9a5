-- A sender that found no halt had no claim refused by one.
use Rattle.std.proofs.Common.{◌≡◌, ℕ, if◌then◌else◌, Bool, false, inl, inr, List, [], ◌∷◌, ◌++◌, length, get_or, Err, refl, sym, ap, subst, ◌∙◌, arith, append_assoc}
use Rattle.std.specs.Prelude.{All}
use Rattle.std.proofs.lemmas.List.{get_or_at, length-append}
use Rattle.dr_meaning.specs.declared.refusal.Refusal.TheVariants.{Halted}
use Rattle.dr_runs.specs.declared.look.Look.{Look}
use Rattle.dr_runs.specs.Looks.{look}
use Rattle.dr_runs.specs.OneSender.Words.{halt_word}
use Rattle.dr_plain.specs.declared.record.SenderRecord.{SenderRecord}
use Rattle.dr_plain.specs.Meaning.Settling.{FoundUnhalted}
use Rattle.dr_plain.specs.Calls.Ends.{SenderEnd}
use Rattle.dr_plain.specs.Calls.Sending.{ClaimCall, gate_looks}

-- where each look found no halt, the last one did not
last_found : (looks xs : List Look) (n : ℕ) → looks ≡ xs ++ look halt_word n ∷ [] → All (λ (x : Look). x.word ≡ halt_word → x.value ≡ 0) looks → n ≡ 0
last_found looks xs n are none =
    let x = look halt_word n in
    let at : get_or looks (length xs) x ≡ x = ap (λ (l : List Look). get_or l (length xs) x) are ∙ get_or_at xs x [] x (length xs) refl in
    let long = ap length are ∙ length-append xs (x ∷ []) in
    subst (λ (y : Look). y.word ≡ halt_word → y.value ≡ 0) at (none (length xs) x (omega (arith, long))) refl

module _ {T : Type 0} where
  -- a claim that is refused by a halt found one at its last look
  pub halted_claim : (e e' : SenderEnd T) (n : ℕ) → ClaimCall e n e' (Err Halted) → (xs : List Look) × (e'.knows.looks ≡ xs ++ look halt_word 1 ∷ [])
  halted_claim e e' n call =
      let old = e.knows.looks in let grew = ap (λ (r : SenderRecord T). r.looks) call.1.only in elim call.1.looks [
        | inl one ↦ (old, grew ∙ ap (λ (l : List Look). old ++ l) one)
        | inr late ↦ (let first = look halt_word 0 ∷ gate_looks e.knows late.counts in
            (old ++ first, grew ∙ ap (λ (l : List Look). old ++ l) late.saw ∙ sym (append_assoc old first (look halt_word 1 ∷ []))))
      ]

  -- so a sender that did not halt the ring itself, and found no halt, had none
  pub never_halted : (e e' : SenderEnd T) (n : ℕ) → e'.knows.halted ≡ false → FoundUnhalted e'.knows → ClaimCall e n e' (Err Halted) → ⊥
  never_halted e e' n off found call =
      let last = halted_claim e e' n call in
      let none = subst (λ (b : Bool). All (λ (x : Look). x.word ≡ halt_word → x.value ≡ 0) (if b then e'.knows.before else e'.knows.looks)) off found in
      let wrong = last_found e'.knows.looks last.0 1 last.1 none in absurd (omega arith)
