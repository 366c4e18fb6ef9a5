-- What a sender's sequence has come to, once it is brought further.
use Rattle.std.proofs.Common.{◌≡◌, ℕ, ◌==◌, if◌then◌else◌, Bool, true, sym, refl, ap, ◌∙◌}
use Rattle.std.proofs.lemmas.Bool.{eq-eqb}
use mathlib.Core.Option.{some}
use Rattle.dr_plain_senders.specs.declared.record.Stage.{Stage}
use Rattle.dr_plain_senders.specs.declared.record.Own.{Own}
use Rattle.dr_plain_senders.specs.declared.record.SenderRecord.{SenderRecord}
use Rattle.dr_plain_senders.specs.Meaning.Records.{Owns, own_after, brought}
use Rattle.dr_runs.proofs.Lists.{map_there}

module _ {T : Type 0} where
  own_is : (s : ℕ) (t : Stage T) (further : Stage T → Stage T) (b : Bool) → (s == s) ≡ b
      → (if b then record { sequence = s; stage = further t } else record { sequence = s; stage = t }) ≡ own_after s further record { sequence = s; stage = t }
  own_is s t further b is = let o : Own T = record { sequence = s; stage = t } in ap (λ (c : Bool). if c then record o { stage = further t } else o) (sym is)

  pub own_brought : (r : SenderRecord T) (s : ℕ) (t : Stage T) (further : Stage T → Stage T) → Owns r s t → Owns (brought r s further) s (further t)
  own_brought r s t further own = let o : Own T = record { sequence = s; stage = t } in
      (own.0, map_there (own_after s further) r.own own.0 o own.1 ∙ ap (λ (x : Own T). some x) (sym (own_is s t further true (eq-eqb s s refl))))
