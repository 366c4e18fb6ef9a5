-- A new ring's tokens, in the slots of their lanes.
use Rattle.std.proofs.Common.{◌≡◌, ℕ, suc, ◌*◌, ◌≤◌, List, length, replicate, sym, ap, ◌∙◌, arith, suc-mul}
use Rattle.std.proofs.lemmas.List.{length-replicate}
use mathlib.Core.Option.{some}
use lib.ListN.{get_elem?}
use denote.RawPtr.{Ptr}
use Rattle.dr_cells.specs.declared.token.Token.{Token}
use Rattle.dr_cells.specs.Hold.{whole}
use Rattle.dr_cells.specs.Tokens.{token_at, no_token}
use Rattle.dr_runs.proofs.Elements.{there}
use Rattle.dr_lent.specs.Rows.{IsDealt}
use Rattle.dr_plain_senders.specs.Meaning.Shape.{Shape, handlers_of}
use Rattle.dr_plain_senders.specs.Meaning.Words.{slots_of}
use Rattle.dr_plain_senders.specs.Inside.Making.{AreFirst}
use Rattle.dr_plain_senders.proofs.Places.{in_replicate}

module _ {T : Type 0} where
  -- there is a slot for each cell
  pub slot_each : (k : Shape T) (n : ℕ) (tokens : List (Token T)) → tokens ≡ replicate (slots_of k) no_token → n ≡ k.size → n ≤ length tokens
  slot_each k n tokens blank size =
      let none : Token T = no_token in let count = ap length blank ∙ length-replicate (slots_of k) none in
      let least : k.size ≤ suc (handlers_of k) * k.size = omega (arith, suc-mul (handlers_of k) k.size) in omega arith

  -- a new ring's tokens
  pub are_first : (k : Shape T) (p : Ptr) (n : ℕ) (events : List T) (before tokens : List (Token T)) → before ≡ replicate (slots_of k) no_token
      → k.strip ≡ p → n ≡ k.size → length events ≡ k.size → k.begun ≡ events → IsDealt p n events before tokens → AreFirst k tokens
  are_first k p n events before tokens blank strip size many begun D =
      let none : Token T = no_token in record {
        count = D.count ∙ ap length blank ∙ length-replicate (slots_of k) none;
        kept = λ i lt. (let x = there events i (omega arith) in (
          x.0,
          D.each i x.0 x.1 ∙ ap (λ (q : Ptr). some (token_at q i (whole x.0))) (sym strip),
          ap (λ (xs : List T). get_elem? xs i) begun ∙ x.1,
        ));
        parts = λ i le lt. D.others i (omega arith) ∙ ap (λ (xs : List (Token T)). get_elem? xs i) blank ∙ in_replicate (slots_of k) none i lt;
      }
